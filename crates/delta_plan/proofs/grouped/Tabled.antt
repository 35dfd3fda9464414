-- Tables that are made one by one.
use Rattle.std.proofs.Common.{◌≡◌, ◌+◌, ◌<◌, ◌≤◌, ◌∙◌, ℕ, List, [], ◌∷◌, ◌++◌, All, Contains, length, unwrap_or, ⊎_elim, ap, arith, refl, subst, sym}
use Rattle.std.proofs.lemmas.Bool.{cases_lt}
use Rattle.std.proofs.lemmas.List.{length-append}
use Rattle.std.proofs.lemmas.List.Elements.{All-contains}
use Rattle.std.proofs.lemmas.Option.{slice_get_within}
use Rattle.emc_base.specs.Lists.{At}
use Rattle.emc_base.proofs.Lists.{all_from_members, item_at}
use Rattle.emc_base.proofs.Mapped.{contains_at}
use Rattle.emc_base.proofs.Members.{at_push_last, at_push_old}
use Rattle.round_trip.specs.Words.{AreTables, ColId, Row, StoreModel, Table, TableId, Tables, cells_of, rows_in}
use Rattle.round_trip.proofs.Lookups.{key_columns_at}
use Rattle.table_files.specs.InOrder.{AreToldApartBy}
use Rattle.row_plans.specs.Plans.{AreKeyed}
use Rattle.cells.specs.declared.cells.Cells.{Cells}
use Rattle.delta_plan.specs.Keeping.{AreHeldRows, AreKeptRows, AreRowsOf, Free, HoldsHeld, HoldsKept}

-- the rows at a place
rows_at : (lists : List (List Row)) (t : TableId) (rows : List Row) → At lists t.index rows → rows_in lists t ≡ rows
rows_at lists t rows here = ap (λ found. unwrap_or found []) here

module _ (P : TableId → List Row → Type 0) where
  -- so many tables are made
  pub record IsMade (count : ℕ) (lists : List (List Row)) : Type 0 where
    pub size : length lists ≡ count
    pub each : (t : TableId) → t.index < count → P t (rows_in lists t)

  pub none_made : IsMade 0 []
  none_made = record { size = refl; each = λ t never. absurd (omega (arith, never)) }

  -- one more is made
  pub more_made : (count : ℕ) (lists : List (List Row)) (rows : List Row) → IsMade count lists → P (record { index = count }) rows → IsMade (count + 1) (lists ++ rows ∷ [])
  more_made count lists rows made is = record {
    size = length-append lists (rows ∷ []) ∙ ap (λ n. n + 1) made.size;
    each = λ t below. ⊎_elim
        (λ (old : t.index < count). (
        let found = item_at lists t.index (subst (λ (n : ℕ). t.index < n) (sym made.size) old) in
        subst (P t) (rows_at lists t found.0 found.1 ∙ sym (rows_at (lists ++ rows ∷ []) t found.0 (at_push_old lists rows t.index found.0 found.1))) (made.each t old)))
        (λ (past : count ≤ t.index). (
        let same : count ≡ t.index = omega (arith, past, below) in
        let last : At (lists ++ rows ∷ []) t.index rows = subst (λ (n : ℕ). At (lists ++ rows ∷ []) n rows) (made.size ∙ same) (at_push_last lists rows) in
        let here : P t rows = subst (λ (n : ℕ). P (record { index = n }) rows) same is in
        subst (P t) (sym (rows_at (lists ++ rows ∷ []) t rows last)) here))
        (cases_lt t.index count);
  }

module _ (store : StoreModel) (tables fresh : Tables) where
  abbrev pub IsHeld : TableId → List Row → Type 0
  IsHeld t rows = (table : Table) → At store.tables t.index table → AreHeldRows table.key (rows_in tables t) (rows_in fresh t) rows

  abbrev pub IsKept : Cells → TableId → List Row → Type 0
  IsKept cells t rows = (table : Table) → At store.tables t.index table → AreKeptRows (Free cells t) table (rows_in tables t) (rows_in fresh t) rows

  abbrev IsLong : Table → Row → Type 0
  IsLong table row = length row.cells ≡ length table.cols

  within : (t : TableId) (table : Table) → At store.tables t.index table → t.index < length store.tables
  within t table at = slice_get_within store.tables t.index table at

  pub all_held : AreTables store tables → (count : ℕ) (held : Tables) → count ≡ length store.tables → IsMade IsHeld count held → HoldsHeld store tables fresh held
  all_held are count held all made = record {
    shape = record {
      each = made.size ∙ all;
      rows = λ t table at. (
          let is = made.each t (subst (λ (n : ℕ). t.index < n) (sym all) (within t table at)) table at in
          all_from_members (IsLong table) (rows_in held t) (λ row has.
          (let from : Contains (rows_in tables t) row × ((one : Row) × Contains (rows_in fresh t) one × (cells_of one table.key ≡ cells_of row table.key)) =
          All-contains (λ (row : Row). Contains (rows_in tables t) row × ((one : Row) × Contains (rows_in fresh t) one × (cells_of one table.key ≡ cells_of row table.key)))
          (rows_in held t) row is.only has in All-contains (IsLong table) (rows_in tables t) row (are.rows t table at) from.0)));
    };
    rows = λ t table at. made.each t (subst (λ (n : ℕ). t.index < n) (sym all) (within t table at)) table at;
  }

  pub all_kept : (cells : Cells) (count : ℕ) (kept : Tables) → count ≡ length store.tables → IsMade (IsKept cells) count kept → HoldsKept store cells tables fresh kept
  all_kept cells count kept all made = record {
    shape = record {
      each = made.size ∙ all;
      rows = λ t table at. (made.each t (subst (λ (n : ℕ). t.index < n) (sym all) (within t table at)) table at).long;
    };
    rows = λ t table at. made.each t (subst (λ (n : ℕ). t.index < n) (sym all) (within t table at)) table at;
  }

-- the rows of keyed tables
pub are_rows_of : (store : StoreModel) (old new : Tables) → AreKeyed store old new → (t : TableId) (table : Table) → At store.tables t.index table
    → AreRowsOf table (rows_in old t) (rows_in new t)
are_rows_of store old new keyed t table at =
    let Apart : List Row → List ColId → Type 0 = λ rows cols. AreToldApartBy cols rows in
    record {
      within = All-contains (λ (one : Table). All (λ col. col.index < length one.cols) one.key) store.tables table keyed.sound.ids.keys (contains_at store.tables t.index table at);
      old_long = keyed.old_tables.rows t table at;
      new_long = keyed.new_tables.rows t table at;
      old_apart = subst (Apart (rows_in old t)) (key_columns_at store t table at) (keyed.old_apart t);
      new_apart = subst (Apart (rows_in new t)) (key_columns_at store t table at) (keyed.new_apart t);
    }

-- a loop over all tables has ended
pub all_counted : (count end size : ℕ) → end ≡ size → count ≤ end → end ≤ count → count ≡ size
all_counted count end size is low high = omega (arith, is, low, high)
