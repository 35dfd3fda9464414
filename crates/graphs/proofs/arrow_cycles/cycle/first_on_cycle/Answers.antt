use Rattle.std.proofs.Common.{ℕ, List, length, sym, subst}
use Rattle.graphs.specs.base_chains.Walks.{IsFirst}
use Rattle.graphs.specs.arrow_cycles.Ends.{EndWithin, GoesTo}
use Rattle.graphs.specs.arrow_cycles.Numbers.{AreComponents, IsInsideAt}
use Rattle.graphs.specs.declared.arrow_cycles.search.Mark.{Mark}
use Rattle.graphs.proofs.arrow_cycles.Cycles.{ends_within, first_is_on_cycle}
use Rattle.graphs.proofs.arrow_cycles.cycle.first_on_cycle.Goals as goal

pub components-requires : goal.components-requires
components-requires c =
    let P : List (List ℕ) → Type 0 = λ xs. EndWithin xs in
    subst P (sym c.as_slice.ensures.value) (ends_within c.args.count c.args.arrows.now c.in_ok-ends.ends.items c.in_ok-ends.ensures c.requires.within)

pub returns : goal.returns
returns c =
    let ends = c.in_ok-ends.ends.items in
    let marks = c.in_ok-marks.marks.items in
    let P : List (List ℕ) → Type 0 = λ xs. AreComponents (GoesTo xs) (length xs) marks in
    let Q : List Mark → Type 0 = λ xs. IsFirst (IsInsideAt xs c.args.arrows.now) c.first_inside.result in
    record {
      first = first_is_on_cycle c.args.count c.args.arrows.now ends c.in_ok-ends.ensures c.requires.within marks
          (subst P c.as_slice.ensures.value c.in_ok-marks.ensures) c.first_inside.result (subst Q c.as_slice-2.ensures.value c.first_inside.ensures);
    }
