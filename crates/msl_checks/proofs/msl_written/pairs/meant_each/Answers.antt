use Rattle.std.proofs.Common.{refl, ap, ◌∙◌}
use Rattle.std.proofs.lemmas.Option.{slice_get_read}
use Rattle.emc_base.proofs.Turns.{mapped_more}
use Rattle.msl_rules.specs.Found.{pair_in}
use Rattle.msl_meaning.specs.msl_found.NamedAt.{named_at}
use Rattle.msl_meaning.specs.declared.msl_found.in_table.InTable.{InTable}
use Rattle.msl_checks.specs.msl_written.Within.{meant_in}
use Rattle.msl_checks.proofs.msl_written.pairs.meant_each.Goals as goal

pub loop-pair-preserved : goal.loop-pair-preserved
loop-pair-preserved c =
    let pair = c.pair-item.result in
    c.in_ok-push.ensures.ok
    ∙ mapped_more (meant_in c.args.writing.now) c.args.pairs.now c.loop-pair.pair-index pair c.loop-pair.each c.pair.result c.loop-pair.invariant
    (slice_get_read _ _ c.loop-pair.pair-index _ refl c.loop-pair-test.true c.pair-item.is)
    (c.pair.ensures ∙ ap (λ (n : InTable). pair_in n.names.now.model.now n.names.now.store.now (named_at n.names.now.model.now n.ty) n.table pair) c.found-names.ensures)
