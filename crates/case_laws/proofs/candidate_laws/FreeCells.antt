-- Cells tell which columns are free.
use Rattle.std.proofs.Common.{◌≡◌, ◌↔◌, ◌<◌, List, length, Bool, false, IsTrue, Option, Some, None, refl, sym, subst, ◌∙◌, slice_get, unwrap_or, option_and_then}
use Rattle.std.proofs.lemmas.Option.{slice_get_within}
use Rattle.emc_base.proofs.Lists.{at_once, item_at}
use Rattle.round_trip.specs.Words.{TableId, ColId, IsFree, Schema, Table, At}
use Rattle.table_owners.specs.FreeColumns.{TellFree, TellsFree}
use Rattle.cells.specs.Cells.{is_free_in}
use Rattle.cells.specs.Parts.{AreParts, schema_in}
use Rattle.cells.specs.declared.parts.Parts.{Parts}

module _ (schema : Schema) (free : List (List Bool)) (tell : TellFree schema free) (t : TableId) (col : ColId) where
  -- of a table's columns; where there is none nothing is told, and nothing is free
  column_told : (table : Table) (columns : List Bool) → At schema.store.tables t.index table → TellsFree schema t table columns → (found : Option Bool) → slice_get columns col.index ≡ found
      → IsTrue (unwrap_or found false) ↔ IsFree schema t col
  column_told table columns is_table tells None none = (
    λ never. absurd cc,
    λ is.
        let other : Table = is.stands.0 in
        let same : other ≡ table = at_once schema.store.tables t.index other table is.stands.2 is_table in
        let within : col.index < length other.cols = slice_get_within other.cols col.index is.stands.1 is.stands.3 in
        let InTable : Table → Type 0 = λ one. col.index < length one.cols in
        let there = item_at columns col.index (subst (λ n. col.index < n) (sym tells.size) (subst InTable same within)) in
        absurd (let never : None ≡ Some there.0 = sym none ∙ there.1 in cc),
  )
  column_told table columns is_table tells (Some is_free) here = tells.each col is_free here

  -- and so of tables
  pub free_told : (found : Option (List Bool)) → slice_get free t.index ≡ found → IsTrue (unwrap_or (option_and_then (λ columns. slice_get columns col.index) found) false) ↔ IsFree schema t col
  free_told None none = (
    λ never. absurd cc,
    λ is.
        let within : t.index < length schema.store.tables = slice_get_within schema.store.tables t.index is.stands.0 is.stands.2 in
        let there = item_at free t.index (subst (λ n. t.index < n) (sym tell.size) within) in
        absurd (let never : None ≡ Some there.0 = sym none ∙ there.1 in cc),
  )
  free_told (Some columns) here =
      let within : t.index < length free = slice_get_within free t.index columns here in
      let found = item_at schema.store.tables t.index (subst (λ n. t.index < n) tell.size within) in
      column_told found.0 columns found.1 (tell.each t found.0 columns found.1 here) (slice_get columns col.index) refl

pub cells_tell : (parts : Parts) → AreParts parts → (t : TableId) (col : ColId) → IsTrue (is_free_in parts.cells.now t col) ↔ IsFree (schema_in parts) t col
cells_tell parts are t col = free_told (schema_in parts) parts.cells.now.free are.cells.free t col (slice_get parts.cells.now.free t.index) refl
