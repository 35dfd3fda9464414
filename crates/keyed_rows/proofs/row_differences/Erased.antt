-- Tables with null in their free cells.
use Rattle.std.proofs.Common.{◌≡◌, ℕ, zero, suc, ◌+◌, zero-add, List, [], ◌∷◌, map, length, slice_get, unwrap_or, cond, Bool, true, false, IsTrue, All, refl, sym, ap, subst, ◌∙◌, arith}
use Rattle.std.specs.List.{AllZip}
use Rattle.std.proofs.lemmas.List.Elements.{All-map}
use Rattle.emc_base.proofs.Mapped.{all_zip-map}
use Rattle.round_trip.specs.Words.{TableId, ColId, Value, Null, StoreModel, Row, Tables, AreErased, AreTables, IsErasedRow, cell_of, rows_in}

-- cells with null where the test passes
abbrev erase_cells : (ℕ → Bool) → ℕ → List Value → List Value
erase_cells is_free n [] = []
erase_cells is_free n (cell ∷ cells) = cond (is_free n) Null cell ∷ erase_cells is_free (n + 1) cells

-- a row with null in its free cells
abbrev pub erase_row : (ColId → Bool) → Row → Row
erase_row is_free row = record { cells = erase_cells (λ n. is_free (record { index = n })) 0 row.cells }

-- each row of each table so
abbrev erase_from : (ℕ → ColId → Bool) → ℕ → List (List Row) → List (List Row)
erase_from is_free n [] = []
erase_from is_free n (rows ∷ tables) = map (erase_row (is_free n)) rows ∷ erase_from is_free (n + 1) tables

abbrev pub erase_tables : (TableId → ColId → Bool) → Tables → Tables
erase_tables is_free tables = erase_from (λ n. is_free (record { index = n })) 0 tables

-- there is a cell for each
length_cells : (is_free : ℕ → Bool) (n : ℕ) (cells : List Value) → length (erase_cells is_free n cells) ≡ length cells
length_cells is_free n [] = refl
length_cells is_free n (cell ∷ cells) = ap suc (length_cells is_free (n + 1) cells)

pub length_row : (is_free : ColId → Bool) (row : Row) → length (erase_row is_free row).cells ≡ length row.cells
length_row is_free row = length_cells (λ n. is_free (record { index = n })) 0 row.cells

length_tables : (is_free : ℕ → ColId → Bool) (n : ℕ) (tables : List (List Row)) → length (erase_from is_free n tables) ≡ length tables
length_tables is_free n [] = refl
length_tables is_free n (rows ∷ tables) = ap suc (length_tables is_free (n + 1) tables)

both_null : (b : Bool) → Null ≡ cond b Null Null
both_null true = refl
both_null false = refl

-- the cell at a place
cell_at : (is_free : ℕ → Bool) (n : ℕ) (cells : List Value) (i : ℕ) → unwrap_or (slice_get (erase_cells is_free n cells) i) Null ≡ cond (is_free (n + i)) Null (unwrap_or (slice_get cells i) Null)
cell_at is_free n [] i = both_null (is_free (n + i))
cell_at is_free n (cell ∷ cells) zero = let same : n ≡ n + 0 = omega arith in ap (λ k. cond (is_free k) Null cell) same
cell_at is_free n (cell ∷ cells) (suc i) =
    let same : n + 1 + i ≡ n + suc i = omega arith in
    cell_at is_free (n + 1) cells i ∙ ap (λ k. cond (is_free k) Null (unwrap_or (slice_get cells i) Null)) same

-- a cell of an erased row
pub erased_cell : (is_free : ColId → Bool) (row : Row) (col : ColId) → cell_of (erase_row is_free row) col ≡ cond (is_free col) Null (cell_of row col)
erased_cell is_free row col =
    let id : record { index = 0 + col.index } ≡ col = λ i. record { index = zero-add col.index i } in
    cell_at (λ n. is_free (record { index = n })) 0 row.cells col.index ∙ ap (λ c. cond (is_free c) Null (cell_of row col)) id

-- the rows at a place
rows_at : (is_free : ℕ → ColId → Bool) (n : ℕ) (tables : List (List Row)) (i : ℕ)
    → unwrap_or (slice_get (erase_from is_free n tables) i) [] ≡ map (erase_row (is_free (n + i))) (unwrap_or (slice_get tables i) [])
rows_at is_free n [] i = refl
rows_at is_free n (rows ∷ tables) zero = let same : n ≡ n + 0 = omega arith in ap (λ k. map (erase_row (is_free k)) rows) same
rows_at is_free n (rows ∷ tables) (suc i) =
    let same : n + 1 + i ≡ n + suc i = omega arith in
    rows_at is_free (n + 1) tables i ∙ ap (λ k. map (erase_row (is_free k)) (unwrap_or (slice_get tables i) [])) same

-- the rows of an erased table
pub erased_rows : (is_free : TableId → ColId → Bool) (tables : Tables) (t : TableId) → rows_in (erase_tables is_free tables) t ≡ map (erase_row (is_free t)) (rows_in tables t)
erased_rows is_free tables t =
    let id : record { index = 0 + t.index } ≡ t = λ i. record { index = zero-add t.index i } in
    rows_at (λ n. is_free (record { index = n })) 0 tables t.index ∙ ap (λ u. map (erase_row (is_free u)) (rows_in tables t)) id

-- such a row is erased
erases : (is_free : ColId → Bool) (row : Row) → IsErasedRow (λ col. IsTrue (is_free col)) row (erase_row is_free row)
erases is_free row = record {
  free = λ col free. erased_cell is_free row col ∙ ap (λ b. cond b Null (cell_of row col)) free;
  rest = λ col held. erased_cell is_free row col ∙ kept (is_free col) held (cell_of row col);
}
  where
    kept : (b : Bool) → ¬ IsTrue b → (value : Value) → cond b Null value ≡ value
    kept true held value = absurd (held refl)
    kept false held value = refl

-- so are the tables
pub are_erased : (store : StoreModel) (is_free : TableId → ColId → Bool) (tables : Tables) → AreTables store tables
    → AreErased store (λ t col. IsTrue (is_free t col)) tables (erase_tables is_free tables)
are_erased store is_free tables shape = record {
  shape = record {
    each = length_tables (λ n. is_free (record { index = n })) 0 tables ∙ shape.each;
    rows = λ t table at.
        let Long : Row → Type 0 = λ row. length row.cells ≡ length table.cols in
        subst (All Long) (sym (erased_rows is_free tables t))
        (All-map Long (erase_row (is_free t)) (rows_in tables t) (λ k d within. length_row (is_free t) _ ∙ shape.rows t table at k d within));
  };
  rows = λ t.
      let Erases : Row → Row → Type 0 = IsErasedRow (λ col. IsTrue (is_free t col)) in
      subst (AllZip Erases (rows_in tables t)) (sym (erased_rows is_free tables t))
      (all_zip-map (λ _. Unit {0}) Erases (erase_row (is_free t)) (λ row _. erases (is_free t) row) (rows_in tables t) (λ k d within. tt));
}
