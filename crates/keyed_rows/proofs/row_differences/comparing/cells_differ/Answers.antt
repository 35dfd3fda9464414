use Rattle.std.proofs.Common.{◌≡◌, ◌<◌, ⊎_elim, sym, subst, true≢false, refl, arith, length}
use Rattle.std.proofs.lemmas.Bool.{cases_eq}
use Rattle.std.proofs.lemmas.Option.{slice_get_within}
use Rattle.emc_base.proofs.Lists.{item_at}
use Rattle.cells.specs.Cells.{is_free_in}
use Rattle.round_trip.specs.Words.{ColId}
use Rattle.keyed_rows.specs.row_differences.Differences.{DiffersIn}
use Rattle.keyed_rows.proofs.row_differences.comparing.cells_differ.Goals as goal

pub returns-then-cell_differs : goal.returns-then-cell_differs
returns-then-cell_differs c =
    let col : ColId = record { index = c.loop-index.index } in
    let column = item_at c.args.table.now.cols c.loop-index.index (omega (arith, c.loop-index-test.true, c.len-index-end.ensures.count)) in
    ((λ told. (col, column.0, column.1, c.if-cell_differs.ensures.0 refl)), λ differs. refl)

pub loop-index-preserved : goal.loop-index-preserved
loop-index-preserved c col below differs = ⊎_elim
    (λ (same : col.index ≡ c.loop-index.index).
    let id : col ≡ record { index = c.loop-index.index } = λ i. record { index = same i } in
    let P : ColId → Type 0 = λ one. DiffersIn (is_free_in c.args.cells.now c.args.id) c.args.held.now c.args.demanded.now one in
    absurd (true≢false (sym (c.if-cell_differs.ensures.1 (subst P id differs)))))
    (λ other. c.loop-index.invariant col (omega (arith, below, other)) differs)
    (cases_eq col.index c.loop-index.index)

pub returns : goal.returns
returns c = (
  (λ told. absurd (true≢false (sym told))),
  λ differs.
      let within : differs.0.index < length c.args.table.now.cols = slice_get_within c.args.table.now.cols differs.0.index differs.1 differs.2 in
      absurd (c.loop-index.invariant differs.0 (omega (arith, within, c.loop-index-test.false, c.len-index-end.ensures.count)) differs.3),
)
