-- All rows that the views tell are of tables of the store.
use Rattle.std.proofs.Common.{◌≡◌, ◌<◌, ◌∙◌, refl, sym, ap, subst, ℕ, List, [], length, slice_get, unwrap_or, All, Contains, Option, Some, None, option_map}
use Rattle.std.specs.Option.{option_map_or}
use Rattle.std.proofs.lemmas.List.Elements.{All-map, All-nil}
use Rattle.std.proofs.lemmas.Option.{none-some, same_Some, slice_get-map, slice_get_within}
use Rattle.emc_base.proofs.Lists.{all_from_members}
use Rattle.emc_base.proofs.Mapped.{contains_at}
use Rattle.round_trip.specs.Words.{SetId, AssocId, Assoc, Entity, Hosted}
use Rattle.table_files.specs.declared.tables.TableRow.{TableRow}
use Rattle.regions.specs.declared.pattern.Focus.{Focus}
use Rattle.regions.specs.declared.pattern.Focus.TheVariants as focus
use Rattle.regions.specs.declared.pattern.PatternRow.{PatternRow}
use Rattle.regions.specs.declared.region.Region.{Region}
use Rattle.regions.specs.Basis.{Basis}
use Rattle.regions.specs.Patterns.{pattern_of, writings_of}
use Rattle.regions.specs.Regions.{regions_of}
use Rattle.regions.proofs.region_laws.writings.Rows.{rows_only}
use Rattle.update_views.specs.region_table.Numbers.{place_in}
use Rattle.update_views.specs.view_rows.Made.{first_link_row, link_row_of, row_of, rows_of_region}
use Rattle.update_views.specs.view_rows.Held.{row_by_entity}
use Rattle.update_views.specs.declared.view_rows.rows.ViewRow.{ViewRow}
use Rattle.update_views.specs.declared.view_rows.link_rows.LinkRow.{LinkRow}
use Rattle.update_views.specs.declared.views.SetView.{SetView}
use Rattle.update_views.specs.declared.views.UpdateViews.{UpdateViews}
use Rattle.update_views.specs.Making.{AreSetViews, IsSetView}
use Rattle.update_views.specs.Views.{local_rows, rows_at, rows_in_set}

module _ (basis : Basis) where
  -- so many tables there are
  abbrev table_count : ℕ
  table_count = length basis.schema.store.tables

  abbrev IsWithin : ViewRow → Type 0
  IsWithin row = row.table.index < table_count

  -- a row of a pattern is of a table of the store
  pub pattern_within : (of : Focus) (row : PatternRow) → Contains (pattern_of basis of).rows row → row.table.index < table_count
  pattern_within of row has =
      let found = rows_only basis.schema.store (writings_of basis of) row has in
      let same : row.table ≡ found.0 = ap (λ (r : PatternRow). r.table) found.4 in
      subst (λ t. t.index < table_count) (sym same) (slice_get_within basis.schema.store.tables found.0.index found.1 found.2)

  region_within : (region : Region) → All IsWithin (rows_of_region basis region)
  region_within region = All-map IsWithin (row_of basis.schema.model region.ty) (pattern_of basis (focus.Entity region)).rows
      (all_from_members (λ row. IsWithin (row_of basis.schema.model region.ty row)) (pattern_of basis (focus.Entity region)).rows (pattern_within (focus.Entity region)))

  module _ (entity : Entity) (links : List Hosted) where
    set_within : (s : SetId) (view : SetView) → IsSetView basis s view → (told : Option ℕ) → place_in view.regions entity links ≡ told
        → All IsWithin (option_map_or (λ place. unwrap_or (slice_get view.rows place) []) told [])
    set_within s view of_set None none = All-nil IsWithin
    set_within s view of_set (Some place) found =
        let other = of_set.finds.found entity links place found in
        let there : slice_get view.rows place ≡ Some (rows_of_region basis other.0) = ap (λ rows. slice_get rows place) of_set.rows
        ∙ slice_get-map (rows_of_region basis) (regions_of basis s) place ∙ ap (option_map (rows_of_region basis)) other.1 in
        subst (λ (rows : Option (List ViewRow)). All IsWithin (unwrap_or rows [])) (sym there) (region_within other.0)

    at_within : (views : UpdateViews) → AreSetViews basis views.sets → (s : SetId) (found : Option SetView) → slice_get views.sets s.index ≡ found
        → All IsWithin (option_map_or (λ view. rows_in_set view entity links) found [])
    at_within views sets s None none = All-nil IsWithin
    at_within views sets s (Some view) is = set_within s view (sets.each s view is) (place_in view.regions entity links) refl

    -- the rows of an entity
    pub local_within : (views : UpdateViews) → AreSetViews basis views.sets → (s : SetId) → All (λ (placed : TableRow). placed.table.index < table_count) (local_rows views s entity links)
    local_within views sets s = All-map (λ (placed : TableRow). placed.table.index < table_count) (row_by_entity entity links) (rows_at views s entity links)
        (at_within views sets s (slice_get views.sets s.index) refl)

  -- the row of an association
  pub link_within : (a : AssocId) (assoc : Assoc) (row : LinkRow) → first_link_row basis a assoc ≡ Some row → row.table.index < table_count
  link_within a assoc row is = go (slice_get (pattern_of basis (focus.Link a)).rows 0) refl is
    where
      go : (found : Option PatternRow) → slice_get (pattern_of basis (focus.Link a)).rows 0 ≡ found → option_map (link_row_of basis.schema.model assoc) found ≡ Some row
          → row.table.index < table_count
      go None none is = absurd (none-some row is)
      go (Some one) here is =
          let same : link_row_of basis.schema.model assoc one ≡ row = same_Some (link_row_of basis.schema.model assoc one) row is in
          subst (λ (r : LinkRow). r.table.index < table_count) same (pattern_within (focus.Link a) one (contains_at (pattern_of basis (focus.Link a)).rows 0 one here))
