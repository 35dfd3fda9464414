use Rattle.std.proofs.Common.{ap, option_map, refl, ◌∙◌}
use Rattle.std.proofs.lemmas.Option.{slice_get_read}
use Rattle.csdl_names.specs.declared.lookups.PropPlace.{PropPlace}
use Rattle.emc_base.proofs.Turns.{found_more}
use Rattle.ssdl_model.specs.ssdl_making.StoreMeaning.{col_named, col_numbered}
use Rattle.ssdl_model.proofs.ssdl_making.ids.cols_in.Goals as goal

pub loop-name-preserved : goal.loop-name-preserved
loop-name-preserved c =
    let raw = c.args.lookups.now.model.now in
    c.in_ok-put_found.ensures
    ∙ found_more (col_named raw c.args.ty) c.as_slice-name-items.result.now c.loop-name.name-index c.name-item.result c.loop-name.cols c.in_ok-col_id.field-0 c.loop-name.invariant
    (slice_get_read _ _ c.loop-name.name-index _ refl c.loop-name-test.true c.name-item.is)
    (c.in_ok-col_id.ensures ∙ ap (option_map (λ (found : PropPlace). col_numbered found.place)) c.own_prop.ensures)
