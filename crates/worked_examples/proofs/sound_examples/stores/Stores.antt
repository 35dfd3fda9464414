-- Sound stores, by tests and item by item.
use Rattle.std.proofs.Common.{◌≡◌, ◌≢◌, ◌<◌, ◌≤◌, List, [], ◌∷◌, map, length, sym, subst, ℕ}
use Rattle.std.specs.Prelude.{Bool, bytes_eq, true, option_map, All}
use Rattle.std.specs.List.{AllByRecursion, list_all}
use Rattle.std.proofs.Math.Dec.{ltb}
use Rattle.std.proofs.lemmas.Bool.{ltb-true}
use Rattle.round_trip.specs.Words.{TableId, ColId, StoreModel, Table, ForeignKey, key_columns}
use Rattle.worked_examples.proofs.facts.Small.{PairsByRecursion}
use Rattle.emc_base.specs.Lists.{AreApart, HoldsEachOnce}
use Rattle.round_trip.specs.soundness.Kinds.{without_bound}
use Rattle.round_trip.specs.soundness.Lookups.{columns_of, column_kind}
use Rattle.round_trip.specs.soundness.Stores.{IsColId, HasForeignIds, IsKeyColumn, IsSoundColumn, IsSoundTable, IsSoundForeignKey, IsSoundStore}
use Rattle.worked_examples.proofs.sound_examples.Names.{names_apart}
use Rattle.worked_examples.proofs.sound_examples.Tests.{all_true, each_true, all_pass, are_new}
use Rattle.worked_examples.proofs.sound_examples.Lists.{all, apart, one_held}

module _ (store : StoreModel) where
  -- the id is that of a column of the table
  abbrev is_column : TableId → ColId → Bool
  is_column table col = ltb col.index (length (columns_of store table))

  -- the tables and columns of a foreign key are in range
  abbrev foreign_tests : ForeignKey → List Bool
  foreign_tests key = ltb key.from.index (length store.tables) ∷ ltb key.to.index (length store.tables)
      ∷ list_all (is_column key.from) key.from_cols ∷ list_all (is_column key.to) key.to_cols ∷ []

  -- every id is in range, and no name stands twice among its kind
  abbrev store_tests : List Bool
  store_tests = list_all (λ table. list_all (λ col. ltb col.index (length table.cols)) table.key) store.tables
      ∷ list_all (λ key. all_true (foreign_tests key)) store.keys
      ∷ are_new bytes_eq (map (λ table. table.name) store.tables)
      ∷ list_all (λ table. are_new bytes_eq (map (λ column. column.name) table.cols)) store.tables
      ∷ are_new bytes_eq (map (λ key. key.name) store.keys)
      ∷ []

  foreign_told : (key : ForeignKey) → all_true (foreign_tests key) ≡ true → HasForeignIds store key
  foreign_told key tests =
      let told = each_true (foreign_tests key) tests in
      record {
        from = ltb-true key.from.index (length store.tables) told.0;
        to = ltb-true key.to.index (length store.tables) told.1.0;
        from_cols = all_pass (IsColId store key.from) (is_column key.from) (λ col. ltb-true col.index (length (columns_of store key.from))) key.from_cols told.1.1.0;
        to_cols = all_pass (IsColId store key.to) (is_column key.to) (λ col. ltb-true col.index (length (columns_of store key.to))) key.to_cols told.1.1.1.0;
      }

  pub store_from : all_true store_tests ≡ true → AllByRecursion IsSoundTable store.tables → AllByRecursion (IsSoundForeignKey store) store.keys → IsSoundStore store
  store_from tests tables keys =
      let told = each_true store_tests tests in
      record {
        ids = record {
          keys = all_pass (λ table. All (λ col. col.index < length table.cols) table.key) (λ table. list_all (λ col. ltb col.index (length table.cols)) table.key)
              (λ table test. all_pass (λ col. col.index < length table.cols) (λ col. ltb col.index (length table.cols)) (λ col. ltb-true col.index (length table.cols)) table.key test)
              store.tables told.0;
          foreign = all_pass (HasForeignIds store) (λ key. all_true (foreign_tests key)) foreign_told store.keys told.1.0;
        };
        names = record {
          tables = names_apart (map (λ table. table.name) store.tables) told.1.1.0;
          columns = all_pass (λ table. AreApart (map (λ column. column.name) table.cols)) (λ table. are_new bytes_eq (map (λ column. column.name) table.cols))
              (λ table test. names_apart (map (λ column. column.name) table.cols) test) store.tables told.1.1.1.0;
          keys = names_apart (map (λ key. key.name) store.keys) told.1.1.1.1.0;
        };
        tables = all IsSoundTable store.tables tables;
        keys = all (IsSoundForeignKey store) store.keys keys;
      }

pub table_from : (table : Table) → table.key ≢ [] → length table.key ≤ 4 → PairsByRecursion (λ one other. one ≢ other) table.key
    → AllByRecursion (IsKeyColumn table) table.key → AllByRecursion IsSoundColumn table.cols → IsSoundTable table
table_from table some few once key columns = record {
  columns = all IsSoundColumn table.cols columns;
  key = record { some = some; few = few; once = apart table.key once; columns = all (IsKeyColumn table) table.key key };
}

-- one column of one table points to one of another
module _ (store : StoreModel) (name : List ℕ) (from to : TableId) (from_col to_col : ColId) where
  abbrev pub single : ForeignKey
  single = record { name = name; from = from; from_cols = from_col ∷ []; to = to; to_cols = to_col ∷ [] }

  pub single_sound : key_columns store to ≡ to_col ∷ [] → map (λ col. option_map without_bound (column_kind store from col)) (from_col ∷ []) ≡ map (λ col. option_map without_bound (column_kind store to col)) (to_col ∷ [])
      → ¬ ((from ≡ to) × (from_col ∷ [] ≡ to_col ∷ [])) → IsSoundForeignKey store single
  single_sound whole kinds elsewhere = record {
    columns = record {
      whole = subst (λ these. HoldsEachOnce these (to_col ∷ [])) (sym whole) (one_held to_col);
      once = apart (from_col ∷ []) (tt, tt);
      kinds = kinds;
    };
    elsewhere = elsewhere;
  }
