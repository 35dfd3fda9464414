-- The rows of an association's own table have a cell in each column of both keys.
use Rattle.std.proofs.Common.{◌≡◌, ◌<◌, ℕ, List, ◌++◌, length, All, Contains, sym, subst}
use Rattle.std.specs.List.{AllZip}
use Rattle.std.proofs.lemmas.List.Elements.{All-append, All-contains, Contains-append_left, Contains-append_right}
use Rattle.emc_base.proofs.Lists.{all_from_members, item_at}
use Rattle.emc_base.proofs.facts.Standing.{place_of_member}
use Rattle.round_trip.specs.Words.{AreTables, Assoc, At, ColId, Column, LinkFragment, Pair, PropId, Row, Schema, Table, Tables, key_props, rows_in}
use Rattle.round_trip.specs.soundness.mappings.Mappings.{HasLinkFragmentIds, HasPairIds, IsSoundSchema}
use Rattle.schema_laws.proofs.sound_demand.Fitting.{columns_are, link_ids}
use Rattle.query_views.specs.LinkKeys.{AreKeyColumns, IsPairedWith}
use Rattle.query_views.proofs.Zips.{zip_before}

module _ (schema : Schema) (sound : IsSoundSchema schema) (tables : Tables) (shape : AreTables schema.store tables) (fragment : LinkFragment)
    (mapped : Contains schema.mapping.links fragment) where
  ids : HasLinkFragmentIds schema fragment
  ids = link_ids schema sound fragment mapped

  pub table_within : fragment.table.index < length tables
  table_within = subst (λ n. fragment.table.index < n) (sym shape.each) ids.table

  there : (table : Table) × At schema.store.tables fragment.table.index table
  there = item_at schema.store.tables fragment.table.index ids.table

  abbrev table : Table
  table = there.0

  -- the columns to which pairs of the fragment write are the table's
  columns_in : (pairs : List Pair) → ((pair : Pair) → Contains pairs pair → Contains (fragment.first ++ fragment.second) pair) → (props : List PropId) (cols : List ColId)
      → AllZip (IsPairedWith pairs) props cols → All (λ col. col.index < length table.cols) cols
  columns_in pairs among props cols zip = all_from_members (λ (col : ColId). col.index < length table.cols) cols (λ col has.
      let beside = zip_before (IsPairedWith pairs) props cols has.0 col zip (place_of_member cols col has) in
      let pair : Pair = record { prop = beside.0; col = col } in
      let inside = All-contains (HasPairIds schema fragment.table) (fragment.first ++ fragment.second) pair ids.pairs (among pair beside.2) in
      subst (λ (list : List Column). col.index < length list) (columns_are schema.store fragment.table table there.1) inside.1)

  pub rows_hold : (assoc : Assoc) (cols : List ColId) → AreKeyColumns schema.model assoc fragment cols
      → All (λ row. All (λ col. col.index < length row.cells) cols) (rows_in tables fragment.table)
  rows_hold assoc cols are =
      let Inside : List ColId → Type 0 = λ list. All (λ col. col.index < length table.cols) list in
      let inside : Inside cols = subst Inside (sym are.are) (All-append (λ (col : ColId). col.index < length table.cols) are.first are.second
      (columns_in fragment.first (λ pair has. Contains-append_left fragment.first fragment.second pair has) (key_props schema.model assoc.first.ty) are.first are.of_first)
      (columns_in fragment.second (λ pair has. Contains-append_right fragment.first fragment.second pair has) (key_props schema.model assoc.second.ty) are.second are.of_second)) in
      all_from_members (λ (row : Row). All (λ col. col.index < length row.cells) cols) (rows_in tables fragment.table) (λ row has.
      let size : length row.cells ≡ length table.cols = All-contains (λ (one : Row). length one.cells ≡ length table.cols) (rows_in tables fragment.table) row
      (shape.rows fragment.table table there.1) has in
      let Held : ℕ → Type 0 = λ n. All (λ (col : ColId). col.index < n) cols in
      subst Held (sym size) inside)
