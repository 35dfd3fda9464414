use Rattle.std.proofs.Common.{Option, sym, subst}
use Rattle.groupings.specs.least_fault.Least.{IsLeast}
use Rattle.round_trip.specs.Words.{Breach, IsBreachOf}
use Rattle.round_trip.specs.legality.Breaches.{BreaksRule}
use Rattle.entity_state.specs.breach_order.Founds.{found_cmp}
use Rattle.entity_state.specs.declared.breach_order.found.Found.{Found}
use Rattle.entity_state.proofs.breach_order.FirstFound.{first_of_least}
use Rattle.state_legality.specs.Tells.{BreaksState}
use Rattle.state_legality.proofs.Joined.{legal_where_clean}
use Rattle.state_legality.proofs.first.first_breach.Goals as goal

pub returns-in-Some : goal.returns-in-Some
returns-in-Some c =
    let model = c.args.model.now in
    let state = c.args.state.now in
    let P : Option Found → Type 0 = λ found. IsLeast found_cmp (BreaksState model state) found in
    let Q : Breach → Type 0 = λ breach. IsBreachOf model state breach in
    subst Q (sym c.breach.ensures) (first_of_least (BreaksRule model state) c.in-Some.found (subst P c.in-Some.is c.in_ok-found.ensures))

pub returns-in-None : goal.returns-in-None
returns-in-None c =
    let model = c.args.model.now in
    let state = c.args.state.now in
    let P : Option Found → Type 0 = λ found. IsLeast found_cmp (BreaksState model state) found in
    legal_where_clean model state c.requires.sound c.requires.shape (subst P c.in-None.is c.in_ok-found.ensures)
