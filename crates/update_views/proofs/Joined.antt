-- The rows of links that the views tell are those of joined associations.
use Rattle.std.proofs.Common.{◌≡◌, ◌<◌, ◌∙◌, refl, sym, ap, subst, List, [], ◌∷◌, map, length, slice_get, unwrap_or, Option, Some, None, option_map, option_and_then}
use Rattle.std.specs.List.{enumerate_from}
use Rattle.std.proofs.lemmas.List.{length-map}
use Rattle.std.proofs.lemmas.List.FromFn.{length-enumerate_from}
use Rattle.std.proofs.lemmas.Option.{none-some, slice_get-map, slice_get_within}
use Rattle.emc_base.proofs.Lists.{item_at}
use Rattle.emc_base.proofs.Numbered.{numbered_at}
use Rattle.round_trip.specs.Words.{AssocId, At, Assoc, Link, LinkFragment, TableId}
use Rattle.table_files.specs.declared.tables.TableRow.{TableRow}
use Rattle.table_owners.specs.Places.{TellPlaces}
use Rattle.table_owners.specs.declared.places.LinkPlace.{LinkPlace}
use Rattle.table_owners.specs.declared.places.LinkPlace.TheVariants as place
use Rattle.schema_laws.specs.state_demand.Owners.{IsJoinedTo}
use Rattle.regions.specs.declared.pattern.Focus.TheVariants as focus
use Rattle.regions.specs.declared.pattern.PatternRow.{PatternRow}
use Rattle.regions.specs.Basis.{Basis}
use Rattle.regions.specs.Patterns.{by_link, pattern_of}
use Rattle.regions.specs.region_laws.IsBasis.{IsBasis}
use Rattle.region_states.proofs.joined_laws.OneRow.{joined_row as one_row}
use Rattle.region_states.proofs.joined_laws.Told.{joined_told, told_joined}
use Rattle.case_laws.specs.filled_rows.Filled.{link_rows, table_row}
use Rattle.update_views.specs.view_rows.Made.{link_row_of}
use Rattle.update_views.specs.view_rows.Held.{row_by_link}
use Rattle.update_views.specs.declared.view_rows.link_rows.LinkRow.{LinkRow}
use Rattle.update_views.proofs.view_rows.Values.{link_row_held}
use Rattle.update_views.specs.declared.views.UpdateViews.{UpdateViews}
use Rattle.update_views.specs.Making.{AreJoinedRows, joined_by, joined_where}
use Rattle.update_views.specs.Views.{joined_at, joined_row}
use Rattle.update_views.proofs.Within.{link_within}

module _ (basis : Basis) (is : IsBasis basis) (places : List LinkPlace) (tell : TellPlaces basis.schema places)
    (views : UpdateViews) (are : AreJoinedRows basis places views.joined) where
  -- what is kept of an association of the model
  kept_at : (a : AssocId) (assoc : Assoc) → At basis.schema.model.assocs a.index assoc → joined_at views a ≡ joined_by basis places (a.index, assoc)
  kept_at a assoc here = ap (λ (rows : List (Option LinkRow)). option_and_then (λ row. row) (slice_get rows a.index)) are
      ∙ ap (option_and_then (λ row. row)) (slice_get-map (joined_by basis places) (enumerate_from 0 basis.schema.model.assocs) a.index
      ∙ ap (option_map (joined_by basis places)) (numbered_at basis.schema.model.assocs a.index assoc here))

  -- and where it is told as joined
  kept_where : (a : AssocId) (assoc : Assoc) (told : LinkPlace) → At basis.schema.model.assocs a.index assoc → At places a.index told
      → joined_at views a ≡ joined_where basis (a.index, assoc) told
  kept_where a assoc told here at = kept_at a assoc here ∙ ap (λ (found : Option LinkPlace). joined_where basis (a.index, assoc) (unwrap_or found place.Unmapped)) at

  -- it is told of each where its links stand
  told_at : (a : AssocId) (assoc : Assoc) → At basis.schema.model.assocs a.index assoc → (told : LinkPlace) × At places a.index told
  told_at a assoc here = item_at places a.index (subst (λ n. a.index < n) (sym tell.size) (slice_get_within basis.schema.model.assocs a.index assoc here))

  -- past the model's associations nothing is kept
  past_by : (a : AssocId) → slice_get basis.schema.model.assocs a.index ≡ None → (kept : Option (Option LinkRow)) → slice_get views.joined a.index ≡ kept
      → option_and_then (λ (row : Option LinkRow). row) kept ≡ None
  past_by a none None past = refl
  past_by a none (Some row) there =
      let count : length views.joined ≡ length basis.schema.model.assocs = ap length are ∙ length-map (enumerate_from 0 basis.schema.model.assocs) (joined_by basis places)
      ∙ length-enumerate_from 0 basis.schema.model.assocs in
      let assoc = item_at basis.schema.model.assocs a.index (subst (λ n. a.index < n) count (slice_get_within views.joined a.index row there)) in
      absurd (none-some assoc.0 (sym none ∙ assoc.1))

  past : (a : AssocId) → slice_get basis.schema.model.assocs a.index ≡ None → joined_at views a ≡ None
  past a none = past_by a none (slice_get views.joined a.index) refl

  module _ (t : TableId) (fragment : LinkFragment) (assoc : Assoc) (joined : IsJoinedTo basis.schema t fragment assoc) where
    abbrev one : (row : PatternRow) × ((pattern_of basis (focus.Link fragment.assoc)).rows ≡ row ∷ []) × (row.table ≡ t)
    one = one_row basis is t fragment assoc joined

    kept : joined_at views fragment.assoc ≡ Some (link_row_of basis.schema.model assoc one.0)
    kept = let told = joined_told basis.schema is.sound places tell t fragment assoc joined in
        kept_where fragment.assoc assoc (place.Joined told.0) joined.is_assoc told.1
        ∙ ap (λ (rows : List PatternRow). option_map (link_row_of basis.schema.model assoc) (slice_get rows 0)) one.1

    -- the row of its links is the one of its pattern, with their keys
    pub joined_there : (of_link : Link → TableRow) × (joined_row views fragment.assoc ≡ Some of_link) × ((link : Link) → link_rows basis fragment.assoc assoc link ≡ of_link link ∷ [])
    joined_there = (
      row_by_link (link_row_of basis.schema.model assoc one.0),
      ap (option_map row_by_link) kept,
      λ link. ap (map (table_row (by_link basis.schema.model assoc link))) one.1 ∙ ap (λ row. row ∷ []) (sym (link_row_held basis.schema.model assoc link one.0)),
    )

  module _ (a : AssocId) (apart : (t : TableId) (fragment : LinkFragment) (assoc : Assoc) → IsJoinedTo basis.schema t fragment assoc → ¬ (fragment.assoc ≡ a)) where
    -- no row is kept of another association
    none_by : (assoc : Assoc) (told : LinkPlace) → At places a.index told → joined_where basis (a.index, assoc) told ≡ None
    none_by assoc (place.Hosted first_hosts number) at = refl
    none_by assoc (place.Joined number) at =
        let found = told_joined basis.schema is.sound places tell a number at in absurd (apart found.0 found.1 found.2 found.3 found.4)
    none_by assoc place.Unmapped at = refl
    none_by assoc place.Constraint at = refl

    none_at : (found : Option Assoc) → slice_get basis.schema.model.assocs a.index ≡ found → joined_at views a ≡ None
    none_at None none = past a none
    none_at (Some assoc) here = let told = told_at a assoc here in kept_where a assoc told.0 here told.1 ∙ none_by assoc told.0 told.1

    pub none_there : joined_row views a ≡ None
    none_there = ap (option_map row_by_link) (none_at (slice_get basis.schema.model.assocs a.index) refl)

  -- what is kept is of a table of the store
  within_by : (a : AssocId) (assoc : Assoc) (row : LinkRow) (told : LinkPlace) → joined_where basis (a.index, assoc) told ≡ Some row
      → row.table.index < length basis.schema.store.tables
  within_by a assoc row (place.Hosted first_hosts number) is_row = absurd (none-some row is_row)
  within_by a assoc row (place.Joined number) is_row = link_within basis a assoc row is_row
  within_by a assoc row place.Unmapped is_row = absurd (none-some row is_row)
  within_by a assoc row place.Constraint is_row = absurd (none-some row is_row)

  within_at : (a : AssocId) (row : LinkRow) → joined_at views a ≡ Some row → (found : Option Assoc) → slice_get basis.schema.model.assocs a.index ≡ found
      → row.table.index < length basis.schema.store.tables
  within_at a row is_row None none = absurd (none-some row (sym (past a none) ∙ is_row))
  within_at a row is_row (Some assoc) here =
      let told = told_at a assoc here in within_by a assoc row told.0 (sym (kept_where a assoc told.0 here told.1) ∙ is_row)

  pub joined_within : (a : AssocId) (row : LinkRow) → joined_at views a ≡ Some row → row.table.index < length basis.schema.store.tables
  joined_within a row is_row = within_at a row is_row (slice_get basis.schema.model.assocs a.index) refl
