-- The rows that the views of sets have for an entity are those of the region that holds it.
use Rattle.std.proofs.Common.{◌≡◌, ◌<◌, ◌∙◌, refl, sym, ap, subst, arith, ℕ, List, [], map, flat_map, length, slice_get, unwrap_or, Contains, Option, Some, None, option_map}
use Rattle.std.specs.Option.{option_map_or}
use Rattle.std.proofs.lemmas.Option.{slice_get-map, slice_get_within}
use Rattle.emc_base.proofs.Lists.{item_at}
use Rattle.emc_base.proofs.Mapped.{contains_at}
use Rattle.round_trip.specs.Words.{SetId, Entity, EntitySet, Hosted}
use Rattle.regions.specs.declared.region.Region.{Region}
use Rattle.regions.specs.declared.pattern.Focus.TheVariants as focus
use Rattle.regions.specs.Basis.{Basis}
use Rattle.regions.specs.Patterns.{pattern_of}
use Rattle.regions.specs.Regions.{Holds, regions_by, regions_of, types_of}
use Rattle.regions.specs.region_laws.IsBasis.{IsBasis}
use Rattle.regions.proofs.region_laws.entities.Regions.{region_only}
use Rattle.update_views.specs.region_table.Numbers.{place_in}
use Rattle.case_laws.specs.filled_rows.Filled.{entity_rows}
use Rattle.update_views.specs.view_rows.Made.{row_of, rows_of_region}
use Rattle.update_views.specs.view_rows.Held.{row_by_entity}
use Rattle.update_views.specs.declared.view_rows.rows.ViewRow.{ViewRow}
use Rattle.update_views.proofs.view_rows.Values.{rows_held}
use Rattle.update_views.specs.declared.views.SetView.{SetView}
use Rattle.update_views.specs.declared.views.UpdateViews.{UpdateViews}
use Rattle.update_views.specs.Making.{AreSetViews, IsSetView}
use Rattle.update_views.specs.Views.{local_rows, rows_in_set}

-- a set with a region is one of the model's
pub set_there : (basis : Basis) (s : SetId) (region : Region) → Contains (regions_of basis s) region → s.index < length basis.schema.model.sets
set_there basis s region listed = go (slice_get basis.schema.model.sets s.index) refl listed
  where
    go : (found : Option EntitySet) → slice_get basis.schema.model.sets s.index ≡ found
        → Contains (option_map_or (λ set. flat_map (regions_by basis s) (types_of basis set)) found []) region → s.index < length basis.schema.model.sets
    go None is among = let within : among.0 < 0 = among.1 in absurd (omega arith)
    go (Some set) is among = slice_get_within basis.schema.model.sets s.index set is

module _ (basis : Basis) (is : IsBasis basis) (s : SetId) (region : Region) (listed : Contains (regions_of basis s) region)
    (entity : Entity) (links : List Hosted) (holds : Holds basis region entity links) where
  module _ (view : SetView) (of_set : IsSetView basis s view) where
    -- the place that the view finds is that of the region
    rows_by : (told : Option ℕ) → place_in view.regions entity links ≡ told
        → option_map_or (λ place. unwrap_or (slice_get view.rows place) []) told [] ≡ rows_of_region basis region
    rows_by None none = absurd (of_set.finds.none entity links none region listed holds)
    rows_by (Some place) found =
        let other = of_set.finds.found entity links place found in
        let one : other.0 ≡ region = region_only basis is (record {
          s = s;
          region = other.0;
          entity = entity;
          links = links;
          listed = contains_at (regions_of basis s) place other.0 other.1;
          holds = other.2;
        }) ∙ sym (region_only basis is (record { s = s; region = region; entity = entity; links = links; listed = listed; holds = holds })) in
        let there : slice_get view.rows place ≡ Some (rows_of_region basis other.0) = ap (λ rows. slice_get rows place) of_set.rows
        ∙ slice_get-map (rows_of_region basis) (regions_of basis s) place ∙ ap (option_map (rows_of_region basis)) other.1 in
        ap (λ (found : Option (List ViewRow)). unwrap_or found []) there ∙ ap (rows_of_region basis) one

    pub rows_there : rows_in_set view entity links ≡ rows_of_region basis region
    rows_there = rows_by (place_in view.regions entity links) refl

  -- the rows of a region that holds the entity, with its values and the keys of its partners
  pub filled_there : map (row_by_entity entity links) (rows_of_region basis region) ≡ entity_rows basis region entity links
  filled_there = ap (λ ty. map (row_by_entity entity links) (map (row_of basis.schema.model ty) (pattern_of basis (focus.Entity region)).rows)) (sym holds.typed)
      ∙ rows_held basis.schema.model entity links (pattern_of basis (focus.Entity region)).rows

  -- the rows that the views tell of the entity
  pub local_there : (views : UpdateViews) → AreSetViews basis views.sets → local_rows views s entity links ≡ entity_rows basis region entity links
  local_there views sets =
      let within : s.index < length views.sets = subst (λ n. s.index < n) (sym sets.count) (set_there basis s region listed) in
      let found = item_at views.sets s.index within in
      ap (λ (view : Option SetView). map (row_by_entity entity links) (option_map_or (λ view. rows_in_set view entity links) view [])) found.1
      ∙ ap (map (row_by_entity entity links)) (rows_there found.0 (sets.each s found.0 found.1)) ∙ filled_there
