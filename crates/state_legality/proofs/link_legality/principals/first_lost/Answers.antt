use Rattle.std.proofs.Common.{◌≡◌, List, [], Bool, slice_get, unwrap_or, subst, subst₂, sym}
use Rattle.groupings.specs.least_fault.Least.{Among, IsLeast}
use Rattle.entity_state.specs.breach_order.Founds.{found_cmp}
use Rattle.round_trip.specs.Words.{At, End, Entity, PropId, values_of}
use Rattle.state_legality.specs.link_legality.Ends.{HoldsJust, MarksUnder}
use Rattle.state_legality.specs.link_legality.Principals.{IsLost}
use Rattle.state_legality.specs.link_legality.Tells.{state_of}
use Rattle.state_legality.proofs.link_legality.Said.{Held, Marks, lost_found}
use Rattle.state_legality.proofs.link_legality.principals.first_lost.Goals as goal

pub returns : goal.returns
returns c = λ links.
    let model = c.args.model.now in
    let entities = c.args.entities.now in
    let state = state_of entities links in
    let a = c.args.a in
    let assoc = c.args.assoc.now in
    let constraint = c.args.constraint.now in
    let set = c.in-Some.set.now in
    let under = c.deref.result.now in
    let held = c.in_ok-held.held in
    let found = c.in_ok-found.found in
    let end_is = c.dependent_end-end.ensures in
    let E : End → Type 0 = λ end. At model.sets end.set.index set in
    let M : List Bool → End → Type 0 = λ marks end. MarksUnder model end.ty marks in
    let H : List PropId → List Entity → Type 0 = λ props principals. HoldsJust (λ entity values. values_of model entity props ≡ values) principals held in
    let Q : End → Type 0 = λ end. H constraint.principal (unwrap_or (slice_get entities end.set.index) []) in
    let L : List Entity → Type 0 = λ list.
    IsLeast found_cmp (Among (IsLost (Marks model state a assoc constraint set under held) (Held model state a assoc constraint set under held) model a assoc constraint set) list) found in
    let R : End → Type 0 = λ end. L (unwrap_or (slice_get entities end.set.index) []) in
    lost_found model state a assoc constraint set under held found
    (subst E end_is (sym c.in-Some.ensures.item))
    (subst₂ M (sym c.deref.ensures.value) end_is c.in_ok-under.ensures)
    (subst Q c.principal_end.ensures (subst₂ H c.as_slice.ensures.items c.entities_at-principals.ensures c.in_ok-held.ensures))
    (subst R end_is (subst L c.entities_at.ensures c.in_ok-found.ensures))
