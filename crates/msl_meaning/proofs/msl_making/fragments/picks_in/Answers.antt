use Rattle.std.proofs.Common.{refl, ◌∙◌}
use Rattle.std.proofs.lemmas.Option.{slice_get_read}
use Rattle.emc_base.proofs.Turns.{found_more}
use Rattle.msl_rules.specs.Found.{pick_in}
use Rattle.msl_meaning.proofs.msl_making.fragments.picks_in.Goals as goal

pub loop-pick-preserved : goal.loop-pick-preserved
loop-pick-preserved c =
    c.in_ok-put_found.ensures
    ∙ found_more (pick_in c.args.names.now.model.now) c.as_slice-pick-items.result.now c.loop-pick.pick-index c.pick-item.result c.loop-pick.found
    c.in_ok-pick_in.field-0 c.loop-pick.invariant
    (slice_get_read _ _ c.loop-pick.pick-index _ refl c.loop-pick-test.true c.pick-item.is) c.in_ok-pick_in.ensures
