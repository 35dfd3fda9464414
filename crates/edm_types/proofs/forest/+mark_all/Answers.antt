use Rattle.std.proofs.Common.{List, ◌∙◌, subst}
use Rattle.std.proofs.lemmas.List.{take_all}
use Rattle.edm_types.specs.declared.model.TypeNode.{TypeNode}
use Rattle.edm_types.specs.Marks.{AddsMarks}
use Rattle.edm_types.proofs.Marks.{Passed, top_marked, child_marked, all_marked}
use Rattle.edm_types.proofs.forest.+mark_all.Goals as goal

pub loop-child-init : goal.loop-child-init
loop-child-init t c = top_marked c.args.tree.now c.args.marks.now.items c.mark.new.marks.items c.mark.new.marks.items c.mark.ensures

pub loop-child-preserved : goal.loop-child-preserved
loop-child-preserved t c = child_marked c.args.tree.now c.args.marks.now.items c.loop-child.marks.items c.mark_all.new.marks.items
    c.as_slice-child-items.result.now c.loop-child.child-index c.child-item.result c.loop-child-test.true c.child-item.is c.loop-child.invariant c.mark_all.ensures

pub returns : goal.returns
returns t c =
    let before = c.args.marks.now.items in
    let now = c.loop-child.marks.items in
    let Marked : List TypeNode → Type 0 = λ trees. AddsMarks (Passed c.args.tree.now before now now trees) before now in
    all_marked c.args.tree.now before now now
    (subst Marked (take_all c.loop-child.child-index c.as_slice-child-items.result.now c.loop-child-test.false ∙ c.as_slice-child-items.ensures.items) c.loop-child.invariant)
