use Rattle.std.proofs.Common.{get_or, refl}
use Rattle.std.proofs.lemmas.Bool.{both_ways}
use Rattle.std.proofs.lemmas.Option.{slice_get-get_or}
use Rattle.round_trip.specs.Words.{ColId}
use Rattle.entity_state.proofs.breach_order.Turns.{each_more, each_none}
use Rattle.table_files.proofs.table_legality.Referring.{refers_all, refers_not}
use Rattle.table_files.proofs.table_legality.cells.refers.Goals as goal

pub loop-col-init : goal.loop-col-init
loop-col-init c = each_none _ _

pub returns-then-is_null_at : goal.returns-then-is_null_at
returns-then-is_null_at c =
    let cols = c.as_slice-cols.result.now in
    let n = c.loop-col.col-index in
    let nil : ColId = record { index = 0 } in (
      λ no. absurd cc,
      λ all. absurd (refers_not c.args.key.now c.args.row.now cols c.as_slice-cols.ensures.items n (get_or cols n nil)
          (slice_get-get_or cols n nil c.loop-col-test.true) (c.is_null_at.ensures.0 c.if-is_null_at.true) all),
    )

pub loop-col-preserved : goal.loop-col-preserved
loop-col-preserved c =
    let cols = c.as_slice-cols.result.now in
    let n = c.loop-col.col-index in
    let nil : ColId = record { index = 0 } in
    each_more _ _ n (get_or cols n nil) (slice_get-get_or cols n nil c.loop-col-test.true)
    (λ null. both_ways c.is_null_at.result c.if-is_null_at.false (c.is_null_at.ensures.1 null)) c.loop-col.invariant

pub returns : goal.returns
returns c = (
  λ _. refers_all c.args.key.now c.args.row.now c.as_slice-cols.result.now c.as_slice-cols.ensures.items c.loop-col.col-index c.loop-col-test.false c.loop-col.invariant,
  λ _. refl,
)
