-- Rows that are added to empty tables one after another are gathered by their tables.
use Rattle.std.proofs.Common.{◌≡◌, ◌≢◌, ◌==◌, ◌<◌, ◌≤◌, ◌+◌, ◌∙◌, ⊎_elim, append-nil, append_assoc, refl, sym, ap, subst, ℕ, suc, List, [], ◌∷◌, ◌++◌, map, filter, length, slice_get, unwrap_or, All, Bool, true, false, if◌then◌else◌, Option, Some, None, option_map}
use Rattle.std.proofs.Math.ListN.{set}
use Rattle.std.specs.List.{enumerate_from}
use Rattle.std.proofs.lemmas.Bool.{cases_eq, cases_lt}
use Rattle.std.proofs.lemmas.Bool.Decides.{Decides-eqb}
use Rattle.std.proofs.lemmas.List.{get_or-set_other, get_or-set_same, length-map, length-set, map-append}
use Rattle.std.proofs.lemmas.List.Elements.{All-head, All-tail, filter-append}
use Rattle.std.proofs.lemmas.List.FromFn.{length-enumerate_from}
use Rattle.std.proofs.lemmas.Option.{none-some, same_Some, slice_get-get_or, slice_get-map, slice_get_past}
use Rattle.emc_base.specs.Lists.{At}
use Rattle.emc_base.proofs.Lists.{item_at}
use Rattle.emc_base.proofs.Numbered.{numbered_at}
use Rattle.round_trip.specs.Words.{Row, StoreModel, Table, rows_in}
use Rattle.table_files.specs.declared.tables.TableRow.{TableRow}
use Rattle.table_files.specs.Lists.{with_row}
use Rattle.case_laws.specs.filled_rows.Gathered.{gathered}
use Rattle.update_views.specs.Placed.{with_rows}

module _ {X : Type 0} where
  -- lists that have the same at each place are one
  same_lists : (xs ys : List X) → ((i : ℕ) → slice_get xs i ≡ slice_get ys i) → xs ≡ ys
  same_lists [] [] same = refl
  same_lists [] (y ∷ ys) same = absurd (none-some y (same 0))
  same_lists (x ∷ xs) [] same = absurd (none-some x (sym (same 0)))
  same_lists (x ∷ xs) (y ∷ ys) same = λ k. same_Some x y (same 0) k ∷ same_lists xs ys (λ i. same (suc i)) k

  module _ (xs : List X) (h : ℕ) (now : X) where
    -- what is put at a place, and what stands at others
    set_here : h < length xs → At (set xs h now) h now
    set_here within = slice_get-get_or (set xs h now) h now (subst (λ n. h < n) (sym (length-set xs h now)) within) ∙ ap Some (get_or-set_same xs h now now within)

    set_there : (j : ℕ) → j ≢ h → slice_get (set xs h now) j ≡ slice_get xs j
    set_there j other = ⊎_elim
        (λ (within : j < length xs).
        slice_get-get_or (set xs h now) j now (subst (λ n. j < n) (sym (length-set xs h now)) within) ∙ ap Some (get_or-set_other xs h j now now other)
        ∙ sym (slice_get-get_or xs j now within))
        (λ (past : length xs ≤ j). slice_get_past (set xs h now) j (subst (λ n. n ≤ j) (sym (length-set xs h now)) past) ∙ sym (slice_get_past xs j past))
        (cases_lt j (length xs))

-- numbers that are told to be different
not_same : (n i : ℕ) → n ≢ i → (n == i) ≡ false
not_same n i other = go (n == i) refl
  where
    go : (told : Bool) → (n == i) ≡ told → told ≡ false
    go true is = absurd (other ((Decides-eqb n i).0 is))
    go false is = refl

abbrev row_in : TableRow → Row
row_in placed = placed.row

abbrev is_in : ℕ → TableRow → Bool
is_in number placed = placed.table.index == number

-- the rows of a numbered table
abbrev rows_at : List TableRow → ℕ × Table → List Row
rows_at rows entry = map row_in (filter (is_in entry.0) rows)

module _ (rows : List TableRow) (placed : TableRow) where
  -- one row more
  one_more : (entry : ℕ × Table) → rows_at (rows ++ placed ∷ []) entry ≡ rows_at rows entry ++ rows_at (placed ∷ []) entry
  one_more entry = ap (map row_in) (filter-append (is_in entry.0) rows (placed ∷ [])) ∙ map-append row_in (filter (is_in entry.0) rows) (filter (is_in entry.0) (placed ∷ []))

  -- it stands in its own table
  own_more : (entry : ℕ × Table) → (placed.table.index == entry.0) ≡ true → rows_at (rows ++ placed ∷ []) entry ≡ rows_at rows entry ++ placed.row ∷ []
  own_more entry own = one_more entry ∙ ap (λ (told : Bool). rows_at rows entry ++ map row_in (if told then placed ∷ [] else [])) own

  -- and in no other
  other_more : (entry : ℕ × Table) → (placed.table.index == entry.0) ≡ false → rows_at (rows ++ placed ∷ []) entry ≡ rows_at rows entry
  other_more entry other = one_more entry ∙ ap (λ (told : Bool). rows_at rows entry ++ map row_in (if told then placed ∷ [] else [])) other ∙ append-nil (rows_at rows entry)

module _ (store : StoreModel) where
  -- what is gathered at a place
  gathered_at : (rows : List TableRow) (i : ℕ) (found : Option Table) → slice_get store.tables i ≡ found
      → slice_get (gathered store rows) i ≡ option_map (λ table. rows_at rows (i, table)) found
  gathered_at rows i None none = slice_get-map (rows_at rows) (enumerate_from 0 store.tables) i ∙ ap (option_map (rows_at rows)) past
    where
      past : slice_get (enumerate_from 0 store.tables) i ≡ None
      past = ⊎_elim
          (λ (within : i < length store.tables). let found = item_at store.tables i within in absurd (none-some found.0 (sym none ∙ found.1)))
          (λ (behind : length store.tables ≤ i). slice_get_past (enumerate_from 0 store.tables) i (subst (λ n. n ≤ i) (sym (length-enumerate_from 0 store.tables)) behind))
          (cases_lt i (length store.tables))
  gathered_at rows i (Some table) here = slice_get-map (rows_at rows) (enumerate_from 0 store.tables) i ∙ ap (option_map (rows_at rows)) (numbered_at store.tables i table here)

  size_gathered : (rows : List TableRow) → length (gathered store rows) ≡ length store.tables
  size_gathered rows = length-map (enumerate_from 0 store.tables) (rows_at rows) ∙ length-enumerate_from 0 store.tables

  module _ (rows : List TableRow) (placed : TableRow) (within : placed.table.index < length store.tables) where
    abbrev h : ℕ
    h = placed.table.index

    abbrev grown : List Row
    grown = rows_in (gathered store rows) placed.table ++ placed.row ∷ []

    at_own : slice_get (set (gathered store rows) h grown) h ≡ slice_get (gathered store (rows ++ placed ∷ [])) h
    at_own =
        let found = item_at store.tables h within in
        let held : rows_in (gathered store rows) placed.table ≡ rows_at rows (h, found.0) =
        ap (λ (list : Option (List Row)). unwrap_or list []) (gathered_at rows h (Some found.0) found.1) in
        set_here (gathered store rows) h grown (subst (λ n. h < n) (sym (size_gathered rows)) within)
        ∙ ap (λ (list : List Row). Some (list ++ placed.row ∷ [])) held
        ∙ ap Some (sym (own_more rows placed (h, found.0) ((Decides-eqb h h).1 refl)))
        ∙ sym (gathered_at (rows ++ placed ∷ []) h (Some found.0) found.1)

    same_by : (i : ℕ) → (h == i) ≡ false → (found : Option Table)
        → option_map (λ table. rows_at rows (i, table)) found ≡ option_map (λ table. rows_at (rows ++ placed ∷ []) (i, table)) found
    same_by i other None = refl
    same_by i other (Some table) = ap Some (sym (other_more rows placed (i, table) other))

    at_other : (i : ℕ) → h ≢ i → slice_get (set (gathered store rows) h grown) i ≡ slice_get (gathered store (rows ++ placed ∷ [])) i
    at_other i other =
        let told : (h == i) ≡ false = not_same h i other in
        let found = slice_get store.tables i in
        set_there (gathered store rows) h grown i (λ same. other (sym same))
        ∙ gathered_at rows i found refl ∙ same_by i told found ∙ sym (gathered_at (rows ++ placed ∷ []) i found refl)

    -- a row that is added behind those that are gathered
    row_gathered : with_row (gathered store rows) placed.table placed.row ≡ gathered store (rows ++ placed ∷ [])
    row_gathered = same_lists (set (gathered store rows) h grown) (gathered store (rows ++ placed ∷ [])) (λ i. ⊎_elim
        (λ (same : h ≡ i).
        let P : ℕ → Type 0 = λ n. slice_get (set (gathered store rows) h grown) n ≡ slice_get (gathered store (rows ++ placed ∷ [])) n in subst P same at_own)
        (λ (other : h ≢ i). at_other i other)
        (cases_eq h i))

  -- it is of one of the store's tables
  abbrev IsWithin : TableRow → Type 0
  IsWithin placed = placed.table.index < length store.tables

  -- all rows
  rows_gathered : (before rows : List TableRow) → All (λ placed. placed.table.index < length store.tables) rows
      → with_rows (gathered store before) rows ≡ gathered store (before ++ rows)
  rows_gathered before [] within = ap (gathered store) (sym (append-nil before))
  rows_gathered before (placed ∷ rows) within =
      ap (λ tables. with_rows tables rows) (row_gathered before placed (All-head IsWithin placed rows within))
      ∙ rows_gathered (before ++ placed ∷ []) rows (All-tail IsWithin placed rows within)
      ∙ ap (gathered store) (append_assoc before (placed ∷ []) rows)

  -- to tables without a row
  pub all_gathered : (rows : List TableRow) → All (λ placed. placed.table.index < length store.tables) rows
      → with_rows (map (λ _. []) store.tables) rows ≡ gathered store rows
  all_gathered rows within = ap (λ tables. with_rows tables rows) empty ∙ rows_gathered [] rows within
    where
      empty_from : (n : ℕ) (tables : List Table) → map (λ _. []) tables ≡ map (rows_at []) (enumerate_from n tables)
      empty_from n [] = refl
      empty_from n (table ∷ tables) = λ k. [] ∷ empty_from (n + 1) tables k

      empty : map (λ _. []) store.tables ≡ gathered store []
      empty = empty_from 0 store.tables
