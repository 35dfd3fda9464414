-- The first difference of tables, table by table.
use Rattle.std.proofs.Common.{◌≡◌, ⊎_elim, ℕ, ◌+◌, ◌<◌, List, Bool, true, false, is_some, Option, Some, None, subst, arith}
use Rattle.std.proofs.lemmas.Bool.{cases_eq}
use Rattle.emc_base.proofs.Lists.{at_once}
use Rattle.round_trip.specs.Words.{TableId, ColId, Value, StoreModel, Table, Row, Tables, At, rows_in}
use Rattle.keyed_rows.specs.row_differences.Differences.{DifferAt, TellsDifference}
use Rattle.keyed_rows.specs.row_differences.InTable.{DifferInTable, TellsInTable}
use Rattle.keyed_rows.specs.declared.row_differences.differences.Difference.{Difference}

module _ (store : StoreModel) (is_free : TableId → ColId → Bool) (tables fresh : Tables) where
  -- no rows of the tables below a number differ
  abbrev pub NoneDiffers : ℕ → Type 0
  NoneDiffers n = (u : TableId) → u.index < n → (key : List Value) (one two : Option Row) → ¬ DifferAt store is_free tables fresh u key one two

  -- rows that differ do in their table
  pub in_table : (t : TableId) (table : Table) → At store.tables t.index table → (key : List Value) (one two : Option Row) → DifferAt store is_free tables fresh t key one two
      → DifferInTable (is_free t) table (rows_in tables t) (rows_in fresh t) key one two
  in_table t table at key one two differ =
      let P : Table → Type 0 = λ declared. DifferInTable (is_free t) declared (rows_in tables t) (rows_in fresh t) key one two in
      subst P (at_once store.tables t.index differ.table table differ.is_table at) (differ.held_is, differ.demanded_is, differ.differ)

  module _ (t : TableId) (table : Table) (at : At store.tables t.index table) (before : NoneDiffers t.index) where
    -- what is told of a table behind those without a difference
    pub table_told : (found : Option Difference) → true ≡ is_some found → TellsInTable (is_free t) table (rows_in tables t) (rows_in fresh t) found → TellsDifference store is_free tables fresh found
    table_told None is told = cc
    table_told (Some found) is told = record {
      t = t;
      table = table;
      is_table = at;
      key = told.key;
      differ = record { table = table; is_table = at; held_is = told.differ.0; demanded_is = told.differ.1; differ = told.differ.2 };
      first = λ u other one two place differ. ⊎_elim
          (λ (below : u.index < t.index). before u below other one two differ)
          (λ here.
          let P : TableId → Type 0 = λ v. DifferAt store is_free tables fresh v other one two in
          told.first other one two here.1 (in_table t table at other one two (subst P here.0 differ)))
          place;
      told = told.told;
    }

    -- where nothing is told, it has no difference either
    pub none_in_table : (found : Option Difference) → false ≡ is_some found → TellsInTable (is_free t) table (rows_in tables t) (rows_in fresh t) found → NoneDiffers (t.index + 1)
    none_in_table (Some found) is told = cc
    none_in_table None is told = λ u below key one two differ. ⊎_elim
        (λ (same : u.index ≡ t.index).
        let id : u ≡ t = λ i. record { index = same i } in
        let P : TableId → Type 0 = λ v. DifferAt store is_free tables fresh v key one two in
        told key one two (in_table t table at key one two (subst P id differ)))
        (λ other. before u (omega (arith, other)) key one two differ)
        (cases_eq u.index t.index)
