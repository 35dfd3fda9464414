use Rattle.std.proofs.Common.{refl, ◌∙◌}
use Rattle.std.proofs.lemmas.Option.{slice_get_read}
use Rattle.emc_base.proofs.Turns.{found_more}
use Rattle.msl_rules.specs.Found.{pair_in}
use Rattle.msl_meaning.specs.msl_found.NamedAt.{named_at}
use Rattle.msl_meaning.proofs.msl_found.in_table.InTable.pairs.Goals as goal

pub loop-pair-preserved : goal.loop-pair-preserved
loop-pair-preserved c =
    let self = c.args.self.now in
    let model = self.names.now.model.now in
    c.in_ok-put_found.ensures
    ∙ found_more (pair_in model self.names.now.store.now (named_at model self.ty) self.table) c.as_slice-pair-items.result.now c.loop-pair.pair-index c.pair-item.result c.loop-pair.found
    c.pair.result c.loop-pair.invariant
    (slice_get_read _ _ c.loop-pair.pair-index _ refl c.loop-pair-test.true c.pair-item.is) c.pair.ensures
