use Rattle.std.proofs.Common.{List, length, ◌++◌, take, refl, sym, ap, subst, ◌∙◌}
use Rattle.std.proofs.lemmas.List.{take_all}
use Rattle.std.proofs.lemmas.Option.{slice_get_read}
use Rattle.round_trip.specs.Words.{ColId}
use Rattle.member_groups.specs.group_numbers.Numbers.{HoldsEach}
use Rattle.regions.specs.declared.pattern.Symbol.{Symbol}
use Rattle.symbolic_rows.specs.declared.writing.Writing.{Writing}
use Rattle.symbolic_rows.specs.Grouped.{AreIn, given_by}
use Rattle.symbolic_rows.proofs.RowCells.{cells_are, given_more}
use Rattle.symbolic_rows.proofs.rows.row_by.Goals as goal

pub loop-writing-preserved : goal.loop-writing-preserved
loop-writing-preserved c =
    let i = c.loop-writing.writing-index in
    let writings = c.args.writings.now in
    let one = c.writing-item.result in
    let count = length c.args.table.now.cols in
    let Holds : List (ColId × Symbol) → Type 0 = λ cells. HoldsEach (AreIn cells) count c.put_all.new.cells.items in
    let more = ap (λ cells. given_by (take i writings) ++ cells) c.as_slice.ensures.items
    ∙ sym (given_more writings i one (slice_get_read _ _ i _ refl c.loop-writing-test.true c.writing-item.is)) in
    subst Holds more (c.in_ok-put_all.ensures (given_by (take i writings)) count c.loop-writing.invariant)

pub returns : goal.returns
returns c =
    let writings = c.args.writings.now in
    let cols = c.args.table.now.cols in
    let Holds : List Writing → Type 0 = λ passed. HoldsEach (AreIn (given_by passed)) (length cols) c.loop-writing.cells.items in
    let holds = subst Holds (take_all c.loop-writing.writing-index writings c.loop-writing-test.false) c.loop-writing.invariant in
    let cells = c.in_ok-as_lists.ensures ∙ cells_are cols writings c.loop-writing.cells.items holds in
    λ k. record { table = c.args.id; cells = cells k }
