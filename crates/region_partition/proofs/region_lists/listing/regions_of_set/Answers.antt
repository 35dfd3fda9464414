use Rattle.std.proofs.Common.{◌≡◌, ◌+◌, ◌≤◌, ◌++◌, List, length, flat_map, Some, ap, sym, subst, ◌∙◌}
use Rattle.std.proofs.lemmas.Option.{slice_get-get_or}
use Rattle.emc_base.specs.Lists.{At}
use Rattle.round_trip.specs.Words.{EntityType, TypeId}
use Rattle.regions.specs.declared.region.Region.{Region}
use Rattle.regions.specs.Regions.{regions_by}
use Rattle.region_states.specs.region_basis.BasisOf.{basis_of}
use Rattle.region_partition.proofs.region_lists.Taken.{flat_map_one}
use Rattle.region_partition.proofs.region_lists.Types.{type_left, type_listed, types_before, types_whole}
use Rattle.region_partition.proofs.region_lists.listing.regions_of_set.Goals as goal
use Rattle.region_partition.proofs.region_lists.listing.regions_of_set.Goals.{then-is_listed+in_ok-add_of_type, else-is_listed}

pub loop-index-preserved : goal.loop-index-preserved
loop-index-preserved c =
    let parts = c.args.parts.now in
    let entry = c.args.entry.now in
    let made = regions_by (basis_of parts) c.args.set in
    let i = c.loop-index.index in
    let ty : TypeId = record { index = i } in
    let declared : EntityType = c.declared-item.result in
    let items = c.as_slice-declared-items.result.now in
    let stands : At items i declared = slice_get-get_or items i declared c.loop-index-test.true ∙ ap Some (sym c.declared-item.is) in
    let here : At parts.model.now.types i declared = subst (λ (list : List EntityType). At list i declared) c.as_slice-declared-items.ensures.items stands in
    let P : List Region → Type 0 = λ regions. regions ≡ flat_map made (types_before parts entry (i + 1)) in
    elim c.if-is_listed.branch [
      | then-is_listed+in_ok-add_of_type w ↦
          let more = type_listed parts entry i declared here (sym c.is_listed.ensures ∙ w.if-is_listed.true) in
          subst P (sym w.regions-is) (
          w.in_ok-add_of_type.ensures
          ∙ ap (λ (before : List Region). before ++ made ty) c.loop-index.invariant
          ∙ sym (flat_map_one made (types_before parts entry i) ty)
          ∙ ap (flat_map made) (sym more))
      | else-is_listed w ↦
          let same = type_left parts entry i declared here (sym c.is_listed.ensures ∙ w.if-is_listed.false) in
          subst P (sym w.regions-is) (c.loop-index.invariant ∙ ap (flat_map made) (sym same))
    ]

pub returns : goal.returns
returns c =
    let parts = c.args.parts.now in
    let P : List EntityType → Type 0 = λ items. length items ≤ c.loop-index.index in
    let past = subst P c.as_slice-declared-items.ensures.items c.loop-index-test.false in
    c.loop-index.invariant ∙ ap (flat_map (regions_by (basis_of parts) c.args.set)) (types_whole parts c.args.entry.now c.loop-index.index past)
