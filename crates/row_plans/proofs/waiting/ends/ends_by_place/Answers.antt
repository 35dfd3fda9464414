use Rattle.std.proofs.Common.{◌<◌, ℕ, List, take, length, get_or, arith, sym, subst, subst₂}
use Rattle.std.proofs.lemmas.List.{take_all, take_more}
use Rattle.row_plans.specs.Waits.{AreEnds}
use Rattle.row_plans.specs.declared.waiting.arrows.Arrow.{Arrow}
use Rattle.row_plans.proofs.waiting.Listed.{one_arrow}
use Rattle.row_plans.proofs.waiting.ends.ends_by_place.Goals as goal

pub add_end-requires : goal.add_end-requires
add_end-requires c =
    let nil : Arrow = record { from = 0; to = 0 } in
    let begins = c.requires c.loop-arrow.arrow-index nil c.loop-arrow-test.true in
    omega (arith, begins, c.loop-arrow.invariant.size)

pub loop-arrow-preserved : goal.loop-arrow-preserved
loop-arrow-preserved c =
    let arrows = c.args.arrows.now in
    let n = c.loop-arrow.arrow-index in
    let nil : Arrow = record { from = 0; to = 0 } in
    let begins : (get_or arrows n nil).from < c.args.count = c.requires n nil c.loop-arrow-test.true in
    let inside : (get_or arrows n nil).from < length c.loop-arrow.ends.items = omega (arith, begins, c.loop-arrow.invariant.size) in
    let P : List Arrow → List (List ℕ) → Type 0 = λ xs ends. AreEnds c.args.count xs ends in
    subst₂ P (sym (take_more arrows n nil c.loop-arrow-test.true)) (sym c.in_ok-add_end.ensures)
    (one_arrow c.args.count (take n arrows) c.loop-arrow.ends.items c.loop-arrow.invariant (get_or arrows n nil) inside)

pub loop-arrow-init : goal.loop-arrow-init
loop-arrow-init c = c.in_ok-ends.ensures

pub returns : goal.returns
returns c =
    let P : List Arrow → Type 0 = λ xs. AreEnds c.args.count xs c.loop-arrow.ends.items in
    subst P (take_all c.loop-arrow.arrow-index c.args.arrows.now c.loop-arrow-test.false) c.loop-arrow.invariant
