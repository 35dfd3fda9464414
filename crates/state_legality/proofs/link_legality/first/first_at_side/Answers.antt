use Rattle.std.proofs.Common.{◌≡◌, List, [], IfOk, slice_get, unwrap_or, subst, subst₂}
use Rattle.groupings.specs.least_fault.Least.{Among, IsLeast}
use Rattle.groupings.proofs.least_fault.Leasts.{least_of_searches}
use Rattle.entity_state.specs.breach_order.Founds.{found_cmp}
use Rattle.entity_state.specs.breach_order.FoundOrder.{found_cmp_total}
use Rattle.round_trip.specs.Words.{End, Entity, Link, HasCount, IsA}
use Rattle.state_legality.specs.link_legality.Sides.{end_at, key_at, partners_at}
use Rattle.state_legality.specs.link_legality.Ends.{IsLoose, StandsAmong}
use Rattle.state_legality.specs.link_legality.Counts.{IsMiscounted}
use Rattle.state_legality.specs.link_legality.Tells.{HasLooseLink, HasMiscounted, state_of}
use Rattle.state_legality.proofs.link_legality.first.first_at_side.Goals as goal

pub returns : goal.returns
returns c =
    let model = c.args.model.now in
    let entities = c.args.entities.now in
    let state = state_of entities c.args.links.now in
    let a = c.args.a in
    let assoc = c.args.assoc.now in
    let side = c.args.side in
    let u = (end_at assoc side).ty in
    let loose = c.first_loose_link-loose.result in
    let miscounted = c.first_miscounted-miscounted.result in
    let L : List Entity → List Link → Type 0 = λ standing links. IfOk loose (IsLeast found_cmp (Among (IsLoose (StandsAmong model u standing) a assoc side) links)) in
    let M : List Entity → List Link → Type 0 = λ standing links.
    IfOk miscounted (IsLeast found_cmp (Among (IsMiscounted (λ entity. IsA model entity.ty u) (λ key. HasCount (partners_at assoc side) (λ link. key_at link side ≡ key) links) model a assoc side) standing)) in
    let l : End → Type 0 = λ end. L (unwrap_or (slice_get entities end.set.index) []) (unwrap_or (slice_get c.args.links.now a.index) []) in
    let m : End → Type 0 = λ end. M (unwrap_or (slice_get entities end.set.index) []) (unwrap_or (slice_get c.args.links.now a.index) []) in
    least_of_searches found_cmp found_cmp_total (HasLooseLink model state a assoc side) (HasMiscounted model state a assoc side) loose miscounted c.earlier_of.result
    (subst l c.end_of.ensures (subst₂ L c.entities_at-standing.ensures c.links_at-links.ensures c.first_loose_link-loose.ensures))
    (subst m c.end_of.ensures (subst₂ M c.entities_at-standing.ensures c.links_at-links.ensures c.first_miscounted-miscounted.ensures)) c.earlier_of.ensures
