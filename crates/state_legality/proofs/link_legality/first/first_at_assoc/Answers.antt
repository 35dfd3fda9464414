use Rattle.std.proofs.Common.{Option, MatchOption, subst, sym}
use Rattle.std.proofs.lemmas.Result.{IfOk-weaker}
use Rattle.groupings.specs.least_fault.Least.{IsLeast}
use Rattle.entity_state.specs.breach_order.Founds.{found_cmp}
use Rattle.round_trip.specs.Words.{Constraint}
use Rattle.state_legality.specs.link_legality.Principals.{IsLostAt}
use Rattle.state_legality.specs.link_legality.Tells.{BreaksIndependent, state_of}
use Rattle.state_legality.proofs.link_legality.first.first_at_assoc.Goals as goal

pub returns-in-Some : goal.returns-in-Some
returns-in-Some c =
    let model = c.args.model.now in
    let state = state_of c.args.entities.now c.args.links.now in
    let assoc = c.args.assoc.now in
    IfOk-weaker c.first_lost.result _ _ (λ told least.
    let P : Option Constraint → Type 0 = λ one.
    IsLeast found_cmp (λ found. MatchOption one (BreaksIndependent model state c.args.a assoc found) (λ constraint. IsLostAt model state c.args.a assoc constraint found)) told in
    subst P (sym c.in-Some.is) least) (c.first_lost.ensures c.args.links.now)

pub returns-in-None : goal.returns-in-None
returns-in-None c =
    let model = c.args.model.now in
    let state = state_of c.args.entities.now c.args.links.now in
    let assoc = c.args.assoc.now in
    IfOk-weaker c.first_of_links.result _ _ (λ told least.
    let P : Option Constraint → Type 0 = λ one.
    IsLeast found_cmp (λ found. MatchOption one (BreaksIndependent model state c.args.a assoc found) (λ constraint. IsLostAt model state c.args.a assoc constraint found)) told in
    subst P (sym c.in-None.is) least) c.first_of_links.ensures
