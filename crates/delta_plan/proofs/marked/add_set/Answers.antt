use Rattle.std.proofs.Common.{map}
use Rattle.delta_plan.specs.Marked.{is_marked, unit_of}
use Rattle.delta_plan.specs.Units.{of_entity}
use Rattle.delta_plan.proofs.Marking.{next_after, reached}
use Rattle.delta_plan.proofs.marked.add_set.Goals as goal

pub loop-entity-preserved : goal.loop-entity-preserved
loop-entity-preserved c =
    let entities = c.args.entities.now in
    let entity = c.entity-item.result in
    let i = c.loop-entity.entity-index in
    let here = reached entities i entity c.loop-entity-test.true c.entity-item.is in (
      next_after (is_marked c.args.model.now c.args.marks.now) (of_entity c.args.set) entities i entity here
          (map unit_of c.args.found.now.items) (map unit_of c.loop-entity.found.items) (map unit_of c.add_entity.new.found.items)
          c.loop-entity.invariant.0 c.in_ok-add_entity.ensures.units,
      λ own. c.in_ok-add_entity.ensures.keys (c.loop-entity.invariant.1 own),
    )
