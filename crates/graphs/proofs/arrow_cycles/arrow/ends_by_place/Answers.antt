use Rattle.std.proofs.Common.{ℕ, List, Option, None, take, length, get_or, sym, subst, subst₂}
use Rattle.std.proofs.lemmas.List.{take_all, take_more}
use Rattle.std.proofs.lemmas.Option.{slice_get-get_or}
use Rattle.graphs.specs.arrow_cycles.Ends.{IsEnds}
use Rattle.graphs.specs.declared.arrow_cycles.arrow.Arrow.{Arrow}
use Rattle.graphs.proofs.arrow_cycles.Ends.{begins_within, one_arrow}
use Rattle.graphs.proofs.arrow_cycles.arrow.ends_by_place.Goals as goal

pub add_end-requires : goal.add_end-requires
add_end-requires c =
    let arrows = c.args.arrows.now in
    let n = c.loop-arrow.arrow-index in
    begins_within c.args.count (length c.loop-arrow.ends.items) arrows c.loop-arrow.invariant.size c.requires.within n (get_or arrows n None)
    (slice_get-get_or arrows n None c.loop-arrow-test.true)

pub loop-arrow-preserved : goal.loop-arrow-preserved
loop-arrow-preserved c =
    let arrows = c.args.arrows.now in
    let n = c.loop-arrow.arrow-index in
    let one = get_or arrows n None in
    let begins = begins_within c.args.count (length c.loop-arrow.ends.items) arrows c.loop-arrow.invariant.size c.requires.within n one
    (slice_get-get_or arrows n None c.loop-arrow-test.true) in
    let P : List (Option Arrow) → List (List ℕ) → Type 0 = λ xs ends. IsEnds c.args.count xs ends in
    subst₂ P (sym (take_more arrows n None c.loop-arrow-test.true)) (sym c.in_ok-add_end.ensures)
    (one_arrow c.args.count (take n arrows) c.loop-arrow.ends.items c.loop-arrow.invariant one begins)

pub loop-arrow-init : goal.loop-arrow-init
loop-arrow-init c = c.in_ok-ends.ensures

pub returns : goal.returns
returns c =
    let P : List (Option Arrow) → Type 0 = λ xs. IsEnds c.args.count xs c.loop-arrow.ends.items in
    subst P (take_all c.loop-arrow.arrow-index c.args.arrows.now c.loop-arrow-test.false) c.loop-arrow.invariant
