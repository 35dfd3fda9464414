use Rattle.std.proofs.Common.{◌≤◌, ◌∙◌, List, length, map, refl, ap, subst}
use Rattle.std.proofs.lemmas.List.{take_all}
use Rattle.std.proofs.lemmas.Option.{slice_get_read}
use Rattle.emc_base.specs.Lists.{At}
use Rattle.emc_base.proofs.Turns.{mapped_more}
use Rattle.regions.specs.declared.region.Region.{Region}
use Rattle.region_states.specs.region_basis.BasisOf.{basis_of}
use Rattle.dangling_search.specs.Rows.{region_rows}
use Rattle.dangling_search.proofs.region_rows.rows_of_sets.Goals as goal

pub loop-of_set-preserved : goal.loop-of_set-preserved
loop-of_set-preserved c =
    let i = c.loop-of_set.of_set-index in
    let here : At c.args.regions.now i c.of_set-item.result = subst (λ (list : List (List Region)). At list i c.of_set-item.result) c.as_slice-of_set-items.ensures.items
    (slice_get_read _ _ i _ refl c.loop-of_set-test.true c.of_set-item.is) in
    c.in_ok-push.ensures.ok ∙ mapped_more (map (region_rows (basis_of c.args.parts.now))) c.args.regions.now i c.of_set-item.result c.loop-of_set.list c.in_ok-rows_of_set.field-0 c.loop-of_set.invariant here c.in_ok-rows_of_set.ensures

pub returns : goal.returns
returns c =
    let i = c.loop-of_set.of_set-index in
    let past : length c.args.regions.now ≤ i = subst (λ (list : List (List Region)). length list ≤ i) c.as_slice-of_set-items.ensures.items c.loop-of_set-test.false in
    c.loop-of_set.invariant ∙ ap (map (map (region_rows (basis_of c.args.parts.now)))) (take_all i c.args.regions.now past)
