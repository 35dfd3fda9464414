use Rattle.std.proofs.Common.{◌≡◌, ◌<◌, List, length, refl, subst, sym, arith}
use Rattle.std.proofs.lemmas.Bool.{both_ways}
use Rattle.std.proofs.lemmas.Option.{slice_get_read}
use Rattle.round_trip.specs.Words.{ColId, cells_of, row_key}
use Rattle.entity_state.proofs.breach_order.Apart.{other_end, other_more, other_start, repeat_here}
use Rattle.table_files.proofs.table_legality.legal.repeats.Goals as goal

pub loop-k-init : goal.loop-k-init
loop-k-init c = other_start (row_key c.args.table.now) c.args.rows.now c.args.i

pub returns-then-have_same_cells : goal.returns-then-have_same_cells
returns-then-have_same_cells c =
    let k = c.loop-k.k in
    let before : k < c.args.i = c.loop-k-test.true in
    let inside : c.args.i < length c.args.rows.now = c.requires in
    let within : k < length c.args.rows.now = omega arith in
    let item = c.index-rows-i.result in
    let other = c.index-rows-k.result in
    let P : List ColId → Type 0 = λ cols. cells_of other cols ≡ cells_of item cols in (
      λ _. repeat_here (row_key c.args.table.now) c.args.rows.now c.args.i k item other
          (slice_get_read _ _ c.args.i _ refl inside c.index-rows-i.is) (slice_get_read _ _ k _ refl within c.index-rows-k.is) before
          (subst P c.as_slice-cols.ensures.items (c.have_same_cells.ensures.0 c.if-have_same_cells.true)),
      λ _. refl,
    )

pub loop-k-preserved : goal.loop-k-preserved
loop-k-preserved c =
    let k = c.loop-k.k in
    let before : k < c.args.i = c.loop-k-test.true in
    let inside : c.args.i < length c.args.rows.now = c.requires in
    let within : k < length c.args.rows.now = omega arith in
    let item = c.index-rows-i.result in
    let other = c.index-rows-k.result in
    let P : List ColId → Type 0 = λ cols. cells_of other cols ≡ cells_of item cols in
    other_more (row_key c.args.table.now) c.args.rows.now c.args.i k item other
    (slice_get_read _ _ c.args.i _ refl inside c.index-rows-i.is) (slice_get_read _ _ k _ refl within c.index-rows-k.is)
    (λ same. both_ways c.have_same_cells.result c.if-have_same_cells.false (c.have_same_cells.ensures.1 (subst P (sym c.as_slice-cols.ensures.items) same)))
    c.loop-k.invariant

pub returns : goal.returns
returns c = (
  λ no. absurd cc,
  λ repeat. absurd (other_end (row_key c.args.table.now) c.args.rows.now c.args.i c.loop-k.k c.loop-k-test.false c.loop-k.invariant repeat),
)
