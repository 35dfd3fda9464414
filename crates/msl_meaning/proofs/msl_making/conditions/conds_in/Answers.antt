use Rattle.std.proofs.Common.{refl, ◌∙◌}
use Rattle.std.proofs.lemmas.Option.{slice_get_read}
use Rattle.emc_base.proofs.Turns.{found_more}
use Rattle.msl_rules.specs.Found.{cond_in}
use Rattle.msl_meaning.specs.msl_found.NamedAt.{named_at}
use Rattle.msl_meaning.proofs.msl_making.conditions.conds_in.Goals as goal

pub loop-cond-preserved : goal.loop-cond-preserved
loop-cond-preserved c =
    let place = c.args.place.now in
    let model = place.names.now.model.now in
    c.in_ok-put_found.ensures
    ∙ found_more (cond_in model place.names.now.store.now (named_at model place.ty) place.table) c.as_slice-cond-items.result.now c.loop-cond.cond-index c.cond-item.result c.loop-cond.found
    c.in_ok-cond_in.field-0 c.loop-cond.invariant
    (slice_get_read _ _ c.loop-cond.cond-index _ refl c.loop-cond-test.true c.cond-item.is) c.in_ok-cond_in.ensures
