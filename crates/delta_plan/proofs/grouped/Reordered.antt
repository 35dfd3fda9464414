-- Fresh tables in the order of the kept ones.
use Rattle.std.proofs.Common.{◌≡◌, ◌<◌, ◌≤◌, ℕ, List, [], length, ⊎_elim, subst, sym}
use Rattle.std.proofs.lemmas.Bool.{cases_lt}
use Rattle.std.proofs.lemmas.List.Sorted.{All-permutation, IsPermutation-refl}
use Rattle.std.proofs.lemmas.Option.{slice_get_within}
use Rattle.std.specs.List.{AllZip}
use Rattle.std.specs.List.Sorted.{IsPermutation}
use Rattle.edm_types.proofs.Lookups.{rows_beyond}
use Rattle.emc_base.proofs.Lists.{at_once, item_at}
use Rattle.round_trip.specs.Words.{AreSameTables, AreTables, At, IsKeptRow, KeepsFree, Row, StoreModel, Table, TableId, Tables, rows_in}
use Rattle.cells.specs.declared.cells.Cells.{Cells}
use Rattle.delta_plan.specs.Keeping.{AreKeptInOrder, Free}
use Rattle.delta_plan.proofs.grouped.Beside.{moved_beside}
use Rattle.delta_plan.proofs.grouped.Chosen.{chosen}

module _ (store : StoreModel) (cells : Cells) (tables fresh kept : Tables) (in_order : AreKeptInOrder store cells tables fresh kept) (are : AreTables store fresh) where
  abbrev Keeps : TableId → Table → Row → Row → Type 0
  Keeps t table = IsKeptRow (Free cells t) table (rows_in tables t)

  abbrev IsBeside : TableId → List Row → Type 0
  IsBeside t rows = IsPermutation (rows_in fresh t) rows × ((table : Table) → At store.tables t.index table → AllZip (Keeps t table) rows (rows_in kept t))

  in_table : (t : TableId) → t.index < length store.tables → (rows : List Row) × IsBeside t rows
  in_table t within =
      let found = item_at store.tables t.index within in
      let beside = moved_beside (Keeps t found.0) (rows_in fresh t) (rows_in in_order.paired t) (rows_in kept t) (in_order.keeps.rows t found.0 found.1) (in_order.same t) in
      let Beside : Table → Type 0 = λ table. AllZip (Keeps t table) beside.others (rows_in kept t) in
      (beside.others, (beside.moved, λ table at. subst Beside (at_once store.tables t.index found.0 table found.1 at) beside.beside))

  -- the fresh tables in the order of the kept ones
  pub record AreInOrderOfKept : Type 0 where
    pub others : Tables
    pub shape : AreTables store others
    pub same : AreSameTables fresh others
    pub keeps : KeepsFree store (Free cells) tables others kept

  pub in_order_of_kept : AreInOrderOfKept
  in_order_of_kept =
      let made = chosen IsBeside (length store.tables) in_table in
      let each : (t : TableId) → t.index < length store.tables → IsBeside t (rows_in made.0 t) = made.1.each in
      record {
        others = made.0;
        shape = record {
          each = made.1.size;
          rows = λ t table at. All-permutation (λ row. length row.cells ≡ length table.cols) (rows_in fresh t) (rows_in made.0 t)
              (each t (slice_get_within store.tables t.index table at)).0 (are.rows t table at);
        };
        same = λ t. ⊎_elim
            (λ (within : t.index < length store.tables). (each t within).0)
            (λ (past : length store.tables ≤ t.index). (
            let none : rows_in made.0 t ≡ [] = rows_beyond made.0 t (subst (λ (n : ℕ). n ≤ t.index) (sym made.1.size) past) in
            let none_fresh : rows_in fresh t ≡ [] = rows_beyond fresh t (subst (λ (n : ℕ). n ≤ t.index) (sym are.each) past) in
            let Both : List Row × List Row → Type 0 = λ both. IsPermutation both.0 both.1 in
            subst Both (λ i. (sym none_fresh i, sym none i)) (IsPermutation-refl [])))
            (cases_lt t.index (length store.tables));
        keeps = record {
          shape = in_order.shape;
          rows = λ t table at. (each t (slice_get_within store.tables t.index table at)).1 table at;
        };
      }
