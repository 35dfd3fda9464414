use Rattle.std.proofs.Common.{◌++◌, ◌∷◌, [], Some, sym, ap, ◌∙◌}
use Rattle.std.proofs.lemmas.Option.{slice_get-get_or}
use Rattle.emc_base.specs.Lists.{At}
use Rattle.region_states.specs.region_basis.BasisOf.{basis_of}
use Rattle.update_views.specs.view_rows.Made.{rows_of_region}
use Rattle.update_views.proofs.Added.{next_image}
use Rattle.update_views.proofs.making.rows_of_regions.Goals as goal

pub loop-region-preserved : goal.loop-region-preserved
loop-region-preserved c =
    let i = c.loop-region.region-index in
    let regions = c.args.regions.now in
    let region = c.region-item.result in
    let stands : At regions i region = slice_get-get_or regions i region c.loop-region-test.true ∙ ap Some (sym c.region-item.is) in
    c.in_ok-push.ensures.ok
    ∙ (λ k. c.loop-region.invariant k ++ c.in_ok-rows_of_region.ensures k ∷ [])
    ∙ next_image (rows_of_region (basis_of c.args.parts.now)) regions i region stands
