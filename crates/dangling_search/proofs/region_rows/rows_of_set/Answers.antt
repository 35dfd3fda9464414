use Rattle.std.proofs.Common.{◌≤◌, ◌∙◌, List, length, map, refl, ap, subst}
use Rattle.std.proofs.lemmas.List.{take_all}
use Rattle.std.proofs.lemmas.Option.{slice_get_read}
use Rattle.emc_base.specs.Lists.{At}
use Rattle.emc_base.proofs.Turns.{mapped_more}
use Rattle.regions.specs.declared.region.Region.{Region}
use Rattle.region_states.specs.region_basis.BasisOf.{basis_of}
use Rattle.dangling_search.specs.Rows.{region_rows}
use Rattle.dangling_search.proofs.region_rows.rows_of_set.Goals as goal

pub loop-region-preserved : goal.loop-region-preserved
loop-region-preserved c =
    let i = c.loop-region.region-index in
    let here : At c.args.regions.now i c.region-item.result = subst (λ (list : List Region). At list i c.region-item.result) c.as_slice-region-items.ensures.items
    (slice_get_read _ _ i _ refl c.loop-region-test.true c.region-item.is) in
    c.in_ok-push.ensures.ok ∙ mapped_more (region_rows (basis_of c.args.parts.now)) c.args.regions.now i c.region-item.result c.loop-region.list c.in_ok-rows_of.field-0 c.loop-region.invariant here c.in_ok-rows_of.ensures

pub returns : goal.returns
returns c =
    let i = c.loop-region.region-index in
    let past : length c.args.regions.now ≤ i = subst (λ (list : List Region). length list ≤ i) c.as_slice-region-items.ensures.items c.loop-region-test.false in
    c.loop-region.invariant ∙ ap (map (region_rows (basis_of c.args.parts.now))) (take_all i c.args.regions.now past)
