use Rattle.std.proofs.Common.{map}
use Rattle.delta_plan.specs.Marked.{is_marked, unit_of}
use Rattle.delta_plan.specs.Units.{set_units}
use Rattle.delta_plan.proofs.Marking.{next_numbered, numbered_all, reached}
use Rattle.delta_plan.proofs.marked.marked_entities.Goals as goal

pub loop-index-preserved : goal.loop-index-preserved
loop-index-preserved c =
    let items = c.entity_lists-entities-items.result.now in
    let i = c.loop-index.index in
    let entities = c.entities-item.result in (
      next_numbered (is_marked c.args.model.now c.args.marks.now) set_units c.args.state.now.entities items c.entity_lists-entities-items.ensures i
          entities c.as_slice.result.now c.in-Ok.number (map unit_of c.loop-index.found.items) (map unit_of c.add_set.new.found.items)
          (reached items i entities c.loop-index-test.true c.entities-item.is) c.in-Ok.ensures.1 c.as_slice.ensures.items
          c.loop-index.invariant.0 c.in_ok-add_set.ensures.units,
      c.in_ok-add_set.ensures.keys c.loop-index.invariant.1,
    )

pub returns-clause-units : goal.returns-clause-units
returns-clause-units c =
    numbered_all (is_marked c.args.model.now c.args.marks.now) set_units c.args.state.now.entities c.entity_lists-entities-items.result.now c.entity_lists-entities-items.ensures
    c.loop-index.index (map unit_of c.loop-index.found.items) c.loop-index-test.false c.loop-index.invariant.0
