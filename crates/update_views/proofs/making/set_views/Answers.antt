use Rattle.std.proofs.Common.{◌≡◌, ◌≤◌, ◌+◌, arith, length, List, Some, sym, ap, subst, ◌∙◌}
use Rattle.std.proofs.lemmas.Option.{slice_get-get_or}
use Rattle.emc_base.specs.Lists.{At}
use Rattle.regions.specs.declared.region.Region.{Region}
use Rattle.region_states.specs.region_basis.BasisOf.{basis_of}
use Rattle.region_partition.proofs.set_regions.Sets.{AreOfFirst, one_more}
use Rattle.update_views.specs.declared.views.SetView.{SetView}
use Rattle.update_views.specs.Making.{IsSetView}
use Rattle.update_views.proofs.Kept.{all_made}
use Rattle.update_views.proofs.making.set_views.Goals as goal

pub set_view-requires-clause-regions : goal.set_view-requires-clause-regions
set_view-requires-clause-regions c =
    let i = c.loop-index.index in
    let of_set : List Region = c.of_set-item.result in
    let items = c.as_slice-of_set-items.result.now in
    let stands : At items i of_set = slice_get-get_or items i of_set c.loop-index-test.true ∙ ap Some (sym c.of_set-item.is) in
    let here : At c.args.regions.now i of_set = subst (λ (list : List (List Region)). At list i of_set) c.as_slice-of_set-items.ensures.items stands in
    c.as_slice.ensures.items ∙ c.requires.regions.each (record { index = i }) of_set here

pub loop-index-preserved : goal.loop-index-preserved
loop-index-preserved c =
    let basis = basis_of c.args.parts.now in
    let i = c.loop-index.index in
    let First : List SetView → Type 0 = AreOfFirst (IsSetView basis) (i + 1) in
    subst First (sym c.in_ok-push.ensures.ok) (one_more (IsSetView basis) i c.loop-index.views c.in_ok-set_view.field-0 c.loop-index.invariant c.in_ok-set_view.ensures)

pub returns : goal.returns
returns c =
    let i = c.loop-index.index in
    let items : length c.as_slice-of_set-items.result.now ≡ length c.args.regions.now = ap (λ list. length list) c.as_slice-of_set-items.ensures.items in
    let count : length c.args.regions.now ≡ length c.args.parts.now.model.now.sets = c.requires.regions.count in
    let past : length c.as_slice-of_set-items.result.now ≤ i = c.loop-index-test.false in
    let within : i ≤ length c.as_slice-of_set-items.result.now = c.loop-index.auto.index-end in
    all_made (basis_of c.args.parts.now) i c.loop-index.views c.loop-index.invariant (omega (arith, items, count, past, within))
