use Rattle.std.proofs.Common.{refl, ◌∙◌}
use Rattle.std.proofs.lemmas.Option.{slice_get_read}
use Rattle.csdl_meaning.specs.Meaning.{prop_named}
use Rattle.emc_base.proofs.Turns.{found_more}
use Rattle.csdl_meaning.proofs.csdl_making.types.ids_named.Goals as goal

pub loop-name-preserved : goal.loop-name-preserved
loop-name-preserved c =
    c.in_ok-put_found.ensures
    ∙ found_more (prop_named c.args.lookups.now.model.now c.args.place) c.as_slice-name-items.result.now c.loop-name.name-index c.name-item.result c.loop-name.ids
    c.in_ok-id_named.field-0 c.loop-name.invariant (slice_get_read _ _ c.loop-name.name-index _ refl c.loop-name-test.true c.name-item.is) c.in_ok-id_named.ensures
