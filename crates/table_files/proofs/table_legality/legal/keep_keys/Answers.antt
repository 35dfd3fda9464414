use Rattle.std.proofs.Common.{refl}
use Rattle.std.proofs.lemmas.Bool.{both_ways}
use Rattle.std.proofs.lemmas.Option.{slice_get_read}
use Rattle.table_files.specs.table_legality.References.{IsKept}
use Rattle.entity_state.proofs.breach_order.Turns.{all_here, all_seen, each_more, each_none}
use Rattle.table_files.proofs.table_legality.legal.keep_keys.Goals as goal

pub loop-key-init : goal.loop-key-init
loop-key-init c = each_none _ _

pub returns-then-not-keep_key : goal.returns-then-not-keep_key
returns-then-not-keep_key c =
    let n = c.loop-key.key-index in (
      λ no. absurd cc,
      λ all. absurd (both_ways c.keep_key.result c.if-not-keep_key.true (c.keep_key.ensures.1
          (all_here (IsKept c.args.tables.now) c.args.keys.now n c.key-item.result all (slice_get_read _ _ n _ refl c.loop-key-test.true c.key-item.is)))),
    )

pub loop-key-preserved : goal.loop-key-preserved
loop-key-preserved c =
    let n = c.loop-key.key-index in
    each_more _ _ n c.key-item.result (slice_get_read _ _ n _ refl c.loop-key-test.true c.key-item.is) (c.keep_key.ensures.0 c.if-not-keep_key.false) c.loop-key.invariant

pub returns : goal.returns
returns c = (λ _. all_seen (IsKept c.args.tables.now) c.args.keys.now c.loop-key.key-index c.loop-key-test.false c.loop-key.invariant, λ _. refl)
