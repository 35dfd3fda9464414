-- Parts of one schema with the same cells are told apart by nothing that regions depend on.
use Rattle.std.proofs.Common.{List, [], false, refl, sym, subst}
use Rattle.std.specs.Prelude.{unwrap_or, option_and_then}
use Rattle.std.specs.Option.{option_map_or}
use Rattle.round_trip.specs.Words.{Schema}
use Rattle.member_groups.specs.MemberGroups.{constants_in, group_in, is_tested_in}
use Rattle.schema_laws.specs.sound_demand.Deriving.{derives}
use Rattle.cells.specs.declared.cells.Cells.{Cells}
use Rattle.cells.specs.Cells.{is_free_in}
use Rattle.cells.specs.Parts.{AreParts, schema_in}
use Rattle.cells.specs.declared.parts.Parts.{Parts}
use Rattle.regions.specs.declared.region.Region.{Region}
use Rattle.regions.specs.Basis.{Basis}
use Rattle.regions.specs.Fitting.{fits}
use Rattle.region_states.specs.region_basis.BasisOf.{basis_of, hosts_in}
use Rattle.mapping_core.specs.Accepted.{AreMadeOf, HasRegions}
use Rattle.region_partition.specs.set_regions.Regions.{AreRegions}
use Rattle.update_views.specs.Views.{AreViewsOf}
use Rattle.query_views.specs.Views.{AreQueryViewsOf}
use Rattle.mapping_core.specs.declared.compiled.MappingViews.{MappingViews}

-- the basis by a schema and its cells
abbrev pub basis_by : Schema → Cells → Basis
basis_by schema cells = record {
  schema = schema;
  is_a = derives schema.model;
  fits = fits;
  group = λ member. group_in cells.groups member;
  constants = λ member. unwrap_or (option_and_then (constants_in cells.groups) (group_in cells.groups member)) [];
  tested = λ member. option_map_or (is_tested_in cells.groups) (group_in cells.groups member) false;
  hosts = hosts_in schema.model cells.places;
}

-- the regions of an accepted mapping are those by this basis
pub regions_stand : (schema : Schema) (cells : Cells) (regions : List (List Region)) → HasRegions schema cells regions → AreRegions (basis_by schema cells) regions
regions_stand schema cells regions has = subst (λ basis. AreRegions basis regions) (λ i. basis_by (has.of_schema i) (has.of_cells i)) has.are_regions

module _ (schema : Schema) (cells : Cells) (regions : List (List Region)) (views : MappingViews) (made : AreMadeOf schema cells regions views) where
  -- and so are its update views
  pub update_views_stand : AreViewsOf (basis_by schema cells) views.update
  update_views_stand = subst (λ basis. AreViewsOf basis views.update) (λ i. basis_by (made.has.of_schema i) (made.has.of_cells i)) made.are_update_views

  -- and its query views
  pub query_views_stand : AreQueryViewsOf (basis_by schema cells) (is_free_in cells) views.query
  query_views_stand = subst (λ (by : Basis × Cells). AreQueryViewsOf by.0 (is_free_in by.1) views.query)
      (λ i. (basis_by (made.has.of_schema i) (made.has.of_cells i), made.has.of_cells i)) made.are_query_views

-- what parts are told with makes their schema
pub regions_by : (parts : Parts) → AreParts parts → (regions : List (List Region)) → AreRegions (basis_of parts) regions → HasRegions (schema_in parts) parts.cells.now regions
regions_by parts are regions are_regions = record { parts = parts; of_schema = refl; of_cells = refl; are_parts = are; are_regions = are_regions }

-- with views by this basis
pub made_by : (schema : Schema) (cells : Cells) (regions : List (List Region)) → HasRegions schema cells regions → (views : MappingViews) → AreViewsOf (basis_by schema cells) views.update
    → AreQueryViewsOf (basis_by schema cells) (is_free_in cells) views.query → AreMadeOf schema cells regions views
made_by schema cells regions has views are_update_views are_query_views = record {
  has = has;
  are_update_views = subst (λ basis. AreViewsOf basis views.update) (λ i. basis_by (sym has.of_schema i) (sym has.of_cells i)) are_update_views;
  are_query_views = subst (λ (by : Basis × Cells). AreQueryViewsOf by.0 (is_free_in by.1) views.query)
      (λ i. (basis_by (sym has.of_schema i) (sym has.of_cells i), sym has.of_cells i)) are_query_views;
}
