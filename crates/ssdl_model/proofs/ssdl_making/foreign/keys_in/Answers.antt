use Rattle.std.proofs.Common.{refl, ◌∙◌}
use Rattle.std.proofs.lemmas.Option.{slice_get_read}
use Rattle.emc_base.proofs.Turns.{found_more}
use Rattle.ssdl_model.specs.ssdl_making.StoreMeaning.{key_of_association}
use Rattle.ssdl_model.proofs.ssdl_making.foreign.keys_in.Goals as goal

pub loop-association-preserved : goal.loop-association-preserved
loop-association-preserved c =
    c.in_ok-put_found.ensures
    ∙ found_more (key_of_association c.args.lookups.now.model.now) c.as_slice-association-items.result.now c.loop-association.association-index c.association-item.result c.loop-association.keys
    c.in_ok-key_of.field-0 c.loop-association.invariant
    (slice_get_read _ _ c.loop-association.association-index _ refl c.loop-association-test.true c.association-item.is) c.in_ok-key_of.ensures
