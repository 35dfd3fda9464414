use Rattle.std.proofs.Common.{List, [], ◌∷◌, ◌++◌, append_assoc, take, refl, sym, ap, subst, ◌∙◌}
use Rattle.std.proofs.lemmas.List.{take_all}
use Rattle.std.proofs.lemmas.Option.{slice_get_read}
use Rattle.emc_base.proofs.Loops.{take_item}
use Rattle.round_trip.specs.Words.{ColId}
use Rattle.member_groups.specs.group_numbers.Numbers.{HoldsEach}
use Rattle.regions.specs.declared.pattern.Symbol.{Symbol}
use Rattle.symbolic_rows.specs.Grouped.{AreIn}
use Rattle.symbolic_rows.proofs.rows.put_all.Goals as goal

pub loop-cell-preserved : goal.loop-cell-preserved
loop-cell-preserved c = λ before count holds.
    (let i = c.loop-cell.cell-index in
    let given = c.args.given.now in
    let cell = c.cell-item.result in
    let Holds : List (ColId × Symbol) → Type 0 = λ cells. HoldsEach (AreIn cells) count c.put.new.cells.items in
    let more = append_assoc before (take i given) (cell ∷ [])
    ∙ ap (λ cells. before ++ cells) (sym (take_item given i cell (slice_get_read _ _ i _ refl c.loop-cell-test.true c.cell-item.is))) in
    subst Holds more (c.in_ok-put.ensures (before ++ take i given) count (c.loop-cell.invariant before count holds)))

pub returns : goal.returns
returns c = λ before count holds.
    (let Holds : List (ColId × Symbol) → Type 0 = λ cells. HoldsEach (AreIn (before ++ cells)) count c.loop-cell.cells.items in
    subst Holds (take_all c.loop-cell.cell-index c.args.given.now c.loop-cell-test.false) (c.loop-cell.invariant before count holds))
