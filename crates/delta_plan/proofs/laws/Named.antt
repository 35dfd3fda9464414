-- Gathered rows stand in the tables that they name.
use Rattle.std.proofs.Common.{◌≡◌, ◌∙◌, ◌<◌, ◌≤◌, ◌==◌, ⊎_elim, ℕ, List, [], Bool, Contains, Option, None, map, filter, length, option_map, slice_get, unwrap_or}
use Rattle.std.proofs.Common.{ap, arith, subst, sym}
use Rattle.std.specs.List.{enumerate_from}
use Rattle.std.proofs.lemmas.Bool.{cases_lt}
use Rattle.std.proofs.lemmas.Bool.Decides.{Decides-eqb}
use Rattle.std.proofs.lemmas.List.{length-map}
use Rattle.std.proofs.lemmas.List.FromFn.{length-enumerate_from}
use Rattle.std.proofs.lemmas.Option.{slice_get-map, slice_get_past}
use Rattle.emc_base.proofs.Lists.{item_at}
use Rattle.emc_base.proofs.Numbered.{numbered_at}
use Rattle.round_trip.specs.Words.{Row, StoreModel, Table, TableId, rows_in}
use Rattle.regions.proofs.region_laws.lists.Found.{filter_none}
use Rattle.table_files.specs.declared.tables.TableRow.{TableRow}
use Rattle.case_laws.specs.filled_rows.Gathered.{gathered}
use Rattle.delta_plan.specs.RowsOf.{named}

module _ (store : StoreModel) (rows : List TableRow) where
  abbrev rows_at : ℕ × Table → List Row
  rows_at entry = map (λ placed. placed.row) (filter (λ placed. placed.table.index == entry.0) rows)

  abbrev is_in : TableId → TableRow → Bool
  is_in t placed = placed.table.index == t.index

  -- those of a table of the store
  here : (t : TableId) → t.index < length store.tables → rows_in (gathered store rows) t ≡ named t rows
  here t within =
      let table = item_at store.tables t.index within in
      ap (λ (found : Option (List Row)). unwrap_or found [])
      (slice_get-map rows_at (enumerate_from 0 store.tables) t.index ∙ ap (option_map rows_at) (numbered_at store.tables t.index table.0 table.1))

  -- no row stands beyond
  beyond : (t : TableId) → length store.tables ≤ t.index → ((placed : TableRow) → Contains rows placed → placed.table.index < length store.tables)
      → rows_in (gathered store rows) t ≡ named t rows
  beyond t past within =
      let none : slice_get (gathered store rows) t.index ≡ None = slice_get_past (gathered store rows) t.index
      (subst (λ (n : ℕ). n ≤ t.index) (sym (length-map (enumerate_from 0 store.tables) rows_at ∙ length-enumerate_from 0 store.tables)) past) in
      let left : filter (is_in t) rows ≡ [] = filter_none (is_in t) (λ placed. placed.table.index ≡ t.index) (λ placed. Decides-eqb placed.table.index t.index) rows
      (λ placed has same. (let below = within placed has in absurd (omega (arith, past, below, same)))) in
      ap (λ (found : Option (List Row)). unwrap_or found []) none ∙ sym (ap (map (λ (placed : TableRow). placed.row)) left)

  -- so it is of each table, where all rows are of the store's tables
  pub rows_named : ((placed : TableRow) → Contains rows placed → placed.table.index < length store.tables) → (t : TableId)
      → rows_in (gathered store rows) t ≡ named t rows
  rows_named within t = ⊎_elim
      (λ (known : t.index < length store.tables). here t known)
      (λ (past : length store.tables ≤ t.index). beyond t past within)
      (cases_lt t.index (length store.tables))
