use Rattle.std.proofs.Common.{◌≤◌, ◌∙◌, List, length, refl, ap, subst}
use Rattle.std.specs.List.{filter_map}
use Rattle.std.proofs.lemmas.List.{take_all}
use Rattle.std.proofs.lemmas.Option.{slice_get_read}
use Rattle.emc_base.specs.Lists.{At}
use Rattle.emc_base.proofs.Turns.{found_more}
use Rattle.dangling_search.specs.Rows.{lacking}
use Rattle.dangling_search.specs.declared.region_rows.RegionRows.{RegionRows}
use Rattle.dangling_search.proofs.target.lacking_in.Goals as goal

pub loop-of_region-preserved : goal.loop-of_region-preserved
loop-of_region-preserved c =
    let i = c.loop-of_region.of_region-index in
    let here : At c.args.rows.now i c.of_region-item.result = subst (λ (list : List RegionRows). At list i c.of_region-item.result) c.as_slice-of_region-items.ensures.items
    (slice_get_read _ _ i _ refl c.loop-of_region-test.true c.of_region-item.is) in
    c.in_ok-put_found.ensures ∙ found_more (lacking c.args.table) c.args.rows.now i c.of_region-item.result c.loop-of_region.list c.in_ok-lacking.field-0 c.loop-of_region.invariant here c.in_ok-lacking.ensures

pub returns : goal.returns
returns c =
    let i = c.loop-of_region.of_region-index in
    let past : length c.args.rows.now ≤ i = subst (λ (list : List RegionRows). length list ≤ i) c.as_slice-of_region-items.ensures.items c.loop-of_region-test.false in
    c.loop-of_region.invariant ∙ ap (filter_map (lacking c.args.table)) (take_all i c.args.rows.now past)
