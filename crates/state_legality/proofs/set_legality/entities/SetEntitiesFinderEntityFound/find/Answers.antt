use Rattle.std.proofs.Common.{Option, Result, IfOk, subst}
use Rattle.std.proofs.lemmas.Result.{IfOk-weaker}
use Rattle.emc_base.specs.declared.memory.Memory.{Memory}
use Rattle.groupings.specs.least_fault.Least.{Among, IsEarlierOf, IsLeast}
use Rattle.entity_state.specs.breach_order.Founds.{found_cmp}
use Rattle.entity_state.specs.declared.breach_order.found.Found.{Found}
use Rattle.state_legality.specs.set_legality.Found.{IsEntityBreach}
use Rattle.state_legality.specs.set_legality.Props.{IsPropBreach}
use Rattle.state_legality.specs.set_legality.Types.{IsMarked, IsTypeBreach}
use Rattle.state_legality.proofs.set_legality.Leaves.{at_entity}
use Rattle.state_legality.proofs.set_legality.entities.SetEntitiesFinderEntityFound.find.Goals as goal

pub returns : goal.returns
returns c =
    let search = c.args.self.now in
    let model = search.model.now in
    let set = search.set.now in
    let entity = c.args.entity.now in
    let props = c.props_at.result.now in
    let Typed : Result (Option Found) Memory → Type 0 = λ found. IfOk found (IsLeast found_cmp (IsTypeBreach model (IsMarked model search.marks.now) search.s set c.args.i entity)) in
    let Held : Result (Option Found) Memory → Type 0 = λ found. IfOk found (IsLeast found_cmp (Among (IsPropBreach model search.s set c.args.i entity) props)) in
    IfOk-weaker c.earlier_of.result (IsEarlierOf found_cmp c.find_type-at_type.result c.first_among-at_props.result)
    (IsLeast found_cmp (IsEntityBreach model (IsMarked model search.marks.now) search.s set c.args.i entity))
    (λ found by. at_entity model (IsMarked model search.marks.now) search.s set c.args.i entity props by.first by.second found c.props_at.ensures by.is
    (subst Typed by.is_first c.find_type-at_type.ensures) (subst Held by.is_second c.first_among-at_props.ensures)) c.earlier_of.ensures
