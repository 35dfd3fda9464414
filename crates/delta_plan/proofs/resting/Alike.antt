-- Rows that are one: of the same cells, and what they are with free cells erased or kept.
use Rattle.std.proofs.Common.{◌≡◌, ◌∙◌, ℕ, suc, List, [], ◌∷◌, length, All, Bool, IsTrue, true, false, true≢false, Contains, Some, slice_get, unwrap_or, refl}
use Rattle.std.proofs.Common.{sym, ap, arith}
use Rattle.std.specs.List.{AllZip}
use Rattle.std.proofs.lemmas.Option.{slice_get-get_or}
use Rattle.emc_base.specs.Lists.{At}
use Rattle.emc_base.proofs.Mapped.{contains_at}
use Rattle.emc_base.proofs.facts.Zipped.{zipped_left, zipped_right}
use Rattle.round_trip.specs.Words.{ColId, IsErasedRow, Null, Row, Value, cell_of, cells_of}

-- lists of one length that hold the same at each place
same_list : (xs ys : List Value) → length xs ≡ length ys → ((i : ℕ) → unwrap_or (slice_get xs i) Null ≡ unwrap_or (slice_get ys i) Null) → xs ≡ ys
same_list [] [] long each = refl
same_list [] (y ∷ ys) long each = absurd (omega (arith, long))
same_list (x ∷ xs) [] long each = absurd (omega (arith, long))
same_list (x ∷ xs) (y ∷ ys) long each =
    let first : x ≡ y = each 0 in
    let rest : xs ≡ ys = same_list xs ys (omega (arith, long)) (λ i. each (suc i)) in
    λ k. first k ∷ rest k

-- rows of one length with the same cell at each column
pub same_row : (one two : Row) → length one.cells ≡ length two.cells → ((col : ColId) → cell_of one col ≡ cell_of two col) → one ≡ two
same_row one two long each =
    let cells : one.cells ≡ two.cells = same_list one.cells two.cells long (λ i. each (record { index = i })) in
    λ k. record { cells = cells k }

-- the cells of columns
pub same_key_cells : (key : List ColId) (one two : Row) → All (λ col. cell_of one col ≡ cell_of two col) key → cells_of one key ≡ cells_of two key
same_key_cells [] one two each = refl
same_key_cells (col ∷ key) one two each =
    let first : cell_of one col ≡ cell_of two col = each 0 col (omega arith) in
    let rest : cells_of one key ≡ cells_of two key = same_key_cells key one two (λ k d within. each (suc k) d (omega (arith, within))) in
    λ k. first k ∷ rest k

module _ (is_free : ColId → Bool) where
  abbrev Free : ColId → Type 0
  Free col = IsTrue (is_free col)

  -- a column that isn't free
  pub not_free : (col : ColId) → is_free col ≡ false → ¬ Free col
  not_free col isnt is = true≢false (sym is ∙ isnt)

  -- by whether each column is free
  pub by_column : (one two : Row) → length one.cells ≡ length two.cells → ((col : ColId) → Free col → cell_of one col ≡ cell_of two col)
      → ((col : ColId) → ¬ Free col → cell_of one col ≡ cell_of two col) → one ≡ two
  by_column one two long free other = same_row one two long (λ col. by col (is_free col) refl)
    where
      by : (col : ColId) (b : Bool) → is_free col ≡ b → cell_of one col ≡ cell_of two col
      by col true is = free col is
      by col false is = other col (not_free col is)

  -- an erased row has the same key, where no column of it is free
  pub erased_key : (key : List ColId) → All (λ col. is_free col ≡ false) key → (row erased : Row) → IsErasedRow Free row erased
      → cells_of erased key ≡ cells_of row key
  erased_key key kept row erased is = same_key_cells key erased row (λ k d within. is.rest _ (not_free _ (kept k d within)))

module _ {X Y : Type 0} (R : X → Y → Type 0) where
  at_member : {Z : Type 0} (zs : List Z) (z : Z) → (has : Contains zs z) → At zs has.0 z
  at_member zs z has = slice_get-get_or zs has.0 z has.1 ∙ ap Some has.2

  -- beside a member of the one list stands one of the other
  pub beside_left : (xs : List X) (ys : List Y) → AllZip R xs ys → (x : X) → Contains xs x → (y : Y) × Contains ys y × R x y
  beside_left xs ys zipped x has = let found = zipped_left R xs ys zipped has.0 x (at_member xs x has) in
      (found.0, contains_at ys has.0 found.0 found.1, found.2)

  pub beside_right : (xs : List X) (ys : List Y) → AllZip R xs ys → (y : Y) → Contains ys y → (x : X) × Contains xs x × R x y
  beside_right xs ys zipped y has = let found = zipped_right R xs ys zipped has.0 y (at_member ys y has) in
      (found.0, contains_at xs has.0 found.0 found.1, found.2)
