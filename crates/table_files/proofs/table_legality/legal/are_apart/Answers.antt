use Rattle.std.proofs.Common.{refl}
use Rattle.std.proofs.lemmas.Bool.{both_ways}
use Rattle.round_trip.specs.Words.{row_key}
use Rattle.entity_state.proofs.breach_order.Apart.{apart_end, apart_more, apart_none, apart_start}
use Rattle.table_files.proofs.table_legality.legal.are_apart.Goals as goal

pub loop-i-init : goal.loop-i-init
loop-i-init c = apart_start (row_key c.args.table.now) c.args.rows.now

pub returns-then-repeats : goal.returns-then-repeats
returns-then-repeats c = (
  λ no. absurd cc,
  λ apart. absurd (apart_none (row_key c.args.table.now) c.args.rows.now apart c.loop-i.i (c.repeats.ensures.0 c.if-repeats.true)),
)

pub loop-i-preserved : goal.loop-i-preserved
loop-i-preserved c =
    apart_more (row_key c.args.table.now) c.args.rows.now c.loop-i.i (λ repeat. both_ways c.repeats.result c.if-repeats.false (c.repeats.ensures.1 repeat)) c.loop-i.invariant

pub returns : goal.returns
returns c = (λ _. apart_end (row_key c.args.table.now) c.args.rows.now c.loop-i.i c.loop-i-test.false c.loop-i.invariant, λ _. refl)
