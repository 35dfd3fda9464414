use Rattle.std.proofs.Common.{map}
use Rattle.delta_plan.specs.Marked.{is_marked, unit_of_link}
use Rattle.delta_plan.specs.Units.{assoc_units}
use Rattle.delta_plan.proofs.Marking.{next_numbered, numbered_all, reached}
use Rattle.delta_plan.proofs.marked.marked_links.Goals as goal

pub loop-index-preserved : goal.loop-index-preserved
loop-index-preserved c = λ model.
    let items = c.link_lists-links-items.result.now in
    let i = c.loop-index.index in
    let links = c.links-item.result in
    next_numbered (is_marked model c.args.marks.now) assoc_units c.args.state.now.links items c.link_lists-links-items.ensures i
    links c.as_slice.result.now c.in-Ok.number (map unit_of_link c.loop-index.found.items) (map unit_of_link c.add_assoc.new.found.items)
    (reached items i links c.loop-index-test.true c.links-item.is) c.in-Ok.ensures.1 c.as_slice.ensures.items
    (c.loop-index.invariant model) (c.in_ok-add_assoc.ensures model)

pub returns : goal.returns
returns c = λ model.
    numbered_all (is_marked model c.args.marks.now) assoc_units c.args.state.now.links c.link_lists-links-items.result.now c.link_lists-links-items.ensures
    c.loop-index.index (map unit_of_link c.loop-index.found.items) c.loop-index-test.false (c.loop-index.invariant model)
