use Rattle.std.proofs.Common.{refl}
use Rattle.std.proofs.lemmas.Option.{slice_get_read}
use Rattle.table_owners.specs.Clearing.{IsCondOn}
use Rattle.table_owners.proofs.columns.Cleared.{clears_next}
use Rattle.table_owners.proofs.clearing.clear_conds.Goals as goal

pub loop-cond-preserved : goal.loop-cond-preserved
loop-cond-preserved c =
    let n = c.loop-cond.cond-index in
    clears_next (IsCondOn c.args.table) c.args.conds.now n c.cond-item.result c.args.free.now.items c.loop-cond.free.items c.clear_cond.new.free.items
    (slice_get_read _ _ n _ refl c.loop-cond-test.true c.cond-item.is) c.loop-cond.invariant c.clear_cond.ensures
