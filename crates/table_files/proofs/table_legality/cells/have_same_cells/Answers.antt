use Rattle.std.proofs.Common.{◌≡◌, ◌<◌, ◌≤◌, get_or, length, refl, arith}
use Rattle.std.proofs.lemmas.Bool.{both_ways}
use Rattle.std.proofs.lemmas.Option.{slice_get-get_or}
use Rattle.round_trip.specs.Words.{ColId, cell_of}
use Rattle.entity_state.proofs.breach_order.SameValues.{same_at, same_maps, same_more}
use Rattle.table_files.proofs.table_legality.cells.have_same_cells.Goals as goal

pub returns-then-not-is_same_cell : goal.returns-then-not-is_same_cell
returns-then-not-is_same_cell c =
    let cols = c.args.cols.now in
    let others = c.args.other_cols.now in
    let n = c.loop-place.place in
    let nil : ColId = record { index = 0 } in
    let long : length cols ≡ length others = c.loop-place.invariant.0 in
    let inside : n < length cols = c.loop-place-test.true in (
      λ no. absurd cc,
      λ same. absurd (both_ways c.is_same_cell.result c.if-not-is_same_cell.true (c.is_same_cell.ensures.1
          (same_at (cell_of c.args.row.now) (cell_of c.args.other.now) cols others same n (get_or cols n nil) (get_or others n nil)
          (slice_get-get_or cols n nil inside) (slice_get-get_or others n nil (omega arith))))),
    )

pub loop-place-preserved : goal.loop-place-preserved
loop-place-preserved c =
    let cols = c.args.cols.now in
    let others = c.args.other_cols.now in
    let n = c.loop-place.place in
    let nil : ColId = record { index = 0 } in
    let long : length cols ≡ length others = c.loop-place.invariant.0 in
    let inside : n < length cols = c.loop-place-test.true in (
      long,
      same_more (cell_of c.args.row.now) (cell_of c.args.other.now) cols others n (get_or cols n nil) (get_or others n nil)
          (slice_get-get_or cols n nil inside) (slice_get-get_or others n nil (omega arith)) (c.is_same_cell.ensures.0 c.if-not-is_same_cell.false) c.loop-place.invariant.1,
    )

pub returns : goal.returns
returns c =
    let cols = c.args.cols.now in
    let others = c.args.other_cols.now in
    let end : length cols ≤ c.loop-place.place = c.loop-place-test.false in (
      λ _. same_maps (cell_of c.args.row.now) (cell_of c.args.other.now) cols others c.loop-place.invariant.0
          (λ k one other here there within. c.loop-place.invariant.1 k one other here there (omega arith)),
      λ _. refl,
    )
