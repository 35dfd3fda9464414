-- Kept tables, whose rows stand in the order of the fresh ones.
use Rattle.std.proofs.Common.{◌≡◌, ◌<◌, ◌≤◌, ℕ, zero, suc, List, [], ◌∷◌, ◌++◌, All, length, ⊎_elim, arith, subst, sym}
use Rattle.std.proofs.lemmas.Bool.{cases_lt}
use Rattle.std.proofs.lemmas.List.Sorted.{IsPermutation-refl}
use Rattle.std.proofs.lemmas.Option.{slice_get_within}
use Rattle.std.proofs.Math.Numerals.{suc-eq-add-one}
use Rattle.std.specs.List.{AllZip}
use Rattle.std.specs.List.Sorted.{IsPermutation}
use Rattle.edm_types.proofs.Lookups.{rows_beyond}
use Rattle.emc_base.proofs.Lists.{at_once, item_at}
use Rattle.round_trip.specs.Words.{At, IsKeptRow, Row, StoreModel, Table, TableId, Tables, rows_in}
use Rattle.cells.specs.Cells.{is_free_in}
use Rattle.cells.specs.declared.cells.Cells.{Cells}
use Rattle.row_plans.specs.Plans.{AreKeyed}
use Rattle.delta_plan.specs.Keeping.{AreKeptInOrder, Free, HoldsKept}
use Rattle.delta_plan.proofs.grouped.Paired.{kept_in_order}
use Rattle.delta_plan.proofs.grouped.Tabled.{IsMade, are_rows_of, more_made, none_made}

-- tables whose rows are chosen one table after another
pub chosen : (P : TableId → List Row → Type 0) (count : ℕ) → ((t : TableId) → t.index < count → (rows : List Row) × P t rows) → (tables : Tables) × IsMade P count tables
chosen P zero each = ([], none_made P)
chosen P (suc count) each =
    let before = chosen P count (λ t below. each t (omega (arith, below))) in
    let last = each (record { index = count }) (omega arith) in
    let Made : ℕ → Type 0 = λ n. (tables : Tables) × IsMade P n tables in
    subst Made (sym (suc-eq-add-one count)) (before.0 ++ last.0 ∷ [], more_made P count before.0 last.0 before.1 last.1)

module _ (store : StoreModel) (cells : Cells) (tables fresh kept : Tables) (keyed : AreKeyed store tables fresh) (holds : HoldsKept store cells tables fresh kept) where
  abbrev IsInOrder : TableId → List Row → Type 0
  IsInOrder t rows = (table : Table) → At store.tables t.index table
      → AllZip (IsKeptRow (Free cells t) table (rows_in tables t)) (rows_in fresh t) rows × IsPermutation rows (rows_in kept t) × All (λ row. length row.cells ≡ length table.cols) rows

  in_table : (t : TableId) → t.index < length store.tables → (rows : List Row) × IsInOrder t rows
  in_table t within =
      let found = item_at store.tables t.index within in
      let rows = kept_in_order (is_free_in cells t) found.0 (rows_in tables t) (rows_in fresh t) (rows_in kept t) (holds.rows t found.0 found.1)
      (are_rows_of store tables fresh keyed t found.0 found.1).new_apart in
      let Is : Table → Type 0 = λ table. AllZip (IsKeptRow (Free cells t) table (rows_in tables t)) (rows_in fresh t) rows.0 × IsPermutation rows.0 (rows_in kept t)
      × All (λ row. length row.cells ≡ length table.cols) rows.0 in
      (rows.0, λ table at. subst Is (at_once store.tables t.index found.0 table found.1 at) (rows.1, rows.2, rows.3))

  pub are_kept_in_order : AreKeptInOrder store cells tables fresh kept
  are_kept_in_order =
      let paired = chosen IsInOrder (length store.tables) in_table in
      record {
        shape = holds.shape;
        paired = paired.0;
        keeps = record {
          shape = record {
            each = paired.1.size;
            rows = λ t table at. (paired.1.each t (slice_get_within store.tables t.index table at) table at).2;
          };
          rows = λ t table at. (paired.1.each t (slice_get_within store.tables t.index table at) table at).0;
        };
        same = λ t. ⊎_elim
            (λ (within : t.index < length store.tables). (
            let found = item_at store.tables t.index within in
            (paired.1.each t within found.0 found.1).1))
            (λ (past : length store.tables ≤ t.index). (
            let none : rows_in paired.0 t ≡ [] = rows_beyond paired.0 t (subst (λ (n : ℕ). n ≤ t.index) (sym paired.1.size) past) in
            let none_kept : rows_in kept t ≡ [] = rows_beyond kept t (subst (λ (n : ℕ). n ≤ t.index) (sym holds.shape.each) past) in
            let Both : List Row × List Row → Type 0 = λ both. IsPermutation both.0 both.1 in
            subst Both (λ i. (sym none i, sym none_kept i)) (IsPermutation-refl [])))
            (cases_lt t.index (length store.tables));
        rising = λ t table at. (holds.rows t table at).rising;
      }
