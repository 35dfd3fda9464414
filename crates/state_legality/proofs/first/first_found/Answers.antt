use Rattle.std.proofs.Common.{List, subst, subst₂}
use Rattle.groupings.specs.least_fault.Least.{IsLeast}
use Rattle.round_trip.specs.Words.{Entity, Link}
use Rattle.entity_state.specs.breach_order.Founds.{found_cmp}
use Rattle.state_legality.specs.set_legality.Tells.{BreaksSets, state_of}
use Rattle.state_legality.specs.link_legality.Tells.{BreaksLinks}
use Rattle.state_legality.proofs.Joined.{least_of_all}
use Rattle.state_legality.proofs.first.first_found.Goals as goal

pub returns : goal.returns
returns c =
    let model = c.args.model.now in
    let state = c.args.state.now in
    let in_sets = c.in_ok-in_sets.in_sets in
    let in_links = c.in_ok-in_links.in_links in
    let P : List (List Entity) → Type 0 = λ entities. IsLeast found_cmp (BreaksSets model (state_of entities state.links)) in_sets in
    let Q : List (List Entity) → List (List Link) → Type 0 = λ entities links. IsLeast found_cmp (BreaksLinks model (state_of entities links)) in_links in
    least_of_all model state in_sets in_links c.earlier.result c.earlier.ensures
    (subst P c.entity_lists-entities.ensures (c.in_ok-in_sets.ensures state.links))
    (subst₂ Q c.entity_lists-entities.ensures c.link_lists.ensures c.in_ok-in_links.ensures)
