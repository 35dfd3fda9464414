use Rattle.std.proofs.Common.{[], ◌∷◌, ◌++◌, ap, sym, ◌∙◌}
use Rattle.edm_types.specs.Forest.{type_numbered}
use Rattle.edm_types.proofs.Marks.{one_marked, one_unmarked, all_passed}
use Rattle.edm_types.proofs.forest.marked_types.Goals as goal
use Rattle.edm_types.proofs.forest.marked_types.Goals.{then-marked+in_ok-push, else-marked}

pub loop-place-preserved : goal.loop-place-preserved
loop-place-preserved c = elim c.if-marked.branch [
  | then-marked+in_ok-push w ↦
      w.types-is ∙ w.in_ok-push.ensures.ok ∙ ap (λ types. types ++ type_numbered c.loop-place.place ∷ []) c.loop-place.invariant
      ∙ sym (one_marked c.args.marks.now c.loop-place.place c.loop-place-test.true w.if-marked.true)
  | else-marked w ↦ w.types-is ∙ c.loop-place.invariant ∙ sym (one_unmarked c.args.marks.now c.loop-place.place c.loop-place-test.true w.if-marked.false)
]

pub returns : goal.returns
returns c = c.loop-place.invariant ∙ all_passed c.args.marks.now c.loop-place.place c.loop-place-test.false
