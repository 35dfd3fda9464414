use Rattle.std.proofs.Common.{refl, ◌∙◌}
use Rattle.std.proofs.lemmas.Option.{slice_get_read}
use Rattle.csdl_meaning.specs.ModelMeaning.{assoc_of}
use Rattle.emc_base.proofs.Turns.{found_more}
use Rattle.csdl_meaning.proofs.csdl_making.associations.assocs_in.Goals as goal

pub loop-set-preserved : goal.loop-set-preserved
loop-set-preserved c =
    c.in_ok-put_found.ensures
    ∙ found_more (assoc_of c.args.lookups.now.model.now) c.as_slice-set-items.result.now c.loop-set.set-index c.set-item.result c.loop-set.assocs
    c.in_ok-assoc_of.field-0 c.loop-set.invariant (slice_get_read _ _ c.loop-set.set-index _ refl c.loop-set-test.true c.set-item.is) c.in_ok-assoc_of.ensures
