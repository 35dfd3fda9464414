-- Rows are told apart exactly where entries of them that are in order rise strictly.
use Rattle.std.proofs.Common.{◌≡◌, ◌≢◌, ⊎_elim, ◌↔◌, ℕ, ◌+◌, ◌-◌, ◌<◌, ◌≤◌, List, length, map, get_or, AllPairs, All, refl, sym, ap, subst, ◌∙◌, arith}
use Rattle.std.specs.Cmp.Lexicographic.{slice_cmp}
use Rattle.std.specs.declared.cmp.Ordering.TheVariants.{Less}
use Rattle.std.specs.List.Sorted.{ties}
use Rattle.std.proofs.lemmas.Bool.{cases_eq}
use Rattle.std.proofs.lemmas.List.{get_or-map, length-map}
use Rattle.std.proofs.lemmas.List.Elements.{Contains-get_or}
use Rattle.std.proofs.lemmas.List.Kept.{AllPairs-filter}
use Rattle.emc_base.proofs.Numbered.{all_pairs_map}
use Rattle.emc_base.specs.Order.{value_cmp}
use Rattle.round_trip.specs.Words.{ColId, Row, cells_of}
use Rattle.table_files.specs.Entries.{HasFirstCells, entry_cmp}
use Rattle.table_files.specs.InOrder.{AreToldApartBy, IsInOrderOf}
use Rattle.table_files.specs.declared.sort_entry.SortEntry.{SortEntry}
use Rattle.table_files.proofs.Entries.{as_rows, entry_cmp_total, row_in}
use Rattle.table_files.proofs.Rising.{rise_strictly, rising_apart, row_lt, tie, two_kept}

module _ (cols : List ColId) where
  -- the first so many entries rise
  abbrev pub RisesTo : List SortEntry → ℕ → Type 0
  RisesTo entries n = (i j : ℕ) (d : SortEntry) → i < j → j < n → entry_cmp cols (get_or entries i d) (get_or entries j d) ≡ Less

  -- and one more does, which comes after the one before it
  pub rises_more : (entries : List SortEntry) (n : ℕ) → 1 ≤ n → ((d : SortEntry) → entry_cmp cols (get_or entries (n - 1) d) (get_or entries n d) ≡ Less) → RisesTo entries n
      → RisesTo entries (n + 1)
  rises_more entries n some next rises i j d before below = ⊎_elim
      (λ (last : j ≡ n). subst (λ (k : ℕ). entry_cmp cols (get_or entries i d) (get_or entries k d) ≡ Less) (sym last) (⊎_elim
      (λ (same : i ≡ n - 1). subst (λ (k : ℕ). entry_cmp cols (get_or entries k d) (get_or entries n d) ≡ Less) (sym same) (next d))
      (λ other. (entry_cmp_total cols).trans (get_or entries i d) (get_or entries (n - 1) d) (get_or entries n d) (rises i (n - 1) d (omega arith) (omega arith)) (next d))
      (cases_eq i (n - 1))))
      (λ earlier. rises i j d before (omega arith))
      (cases_eq j n)

  -- rows in order rise strictly where entries of them do
  as_entries : (entries : List SortEntry) → All (HasFirstCells cols) entries → AllPairs (λ one later. entry_cmp cols one later ≡ Less) entries
      → AllPairs (λ row later. slice_cmp value_cmp (cells_of row cols) (cells_of later cols) ≡ Less) (map row_in entries)
  as_entries entries hold rising = all_pairs_map (λ (row : Row) (later : Row). slice_cmp value_cmp (cells_of row cols) (cells_of later cols) ≡ Less) row_in entries
      (λ i j d before within. sym (as_rows cols (get_or entries i d) (get_or entries j d) (hold i d (omega (arith, before, within))) (hold j d within)) ∙ rising i j d before within)

  -- and the other way round
  as_rising : (entries : List SortEntry) → All (HasFirstCells cols) entries → AllPairs (λ row later. slice_cmp value_cmp (cells_of row cols) (cells_of later cols) ≡ Less) (map row_in entries)
      → AllPairs (λ one later. entry_cmp cols one later ≡ Less) entries
  as_rising entries hold rising i j d before within =
      let inside : i < length entries = omega (arith, before, within) in
      let rows : slice_cmp value_cmp (cells_of (row_in (get_or entries i d)) cols) (cells_of (row_in (get_or entries j d)) cols) ≡ Less =
      ap (λ (row : Row). slice_cmp value_cmp (cells_of row cols) (cells_of (row_in (get_or entries j d)) cols)) (sym (get_or-map row_in entries i d (row_in d) inside))
      ∙ ap (λ (row : Row). slice_cmp value_cmp (cells_of (get_or (map row_in entries) i (row_in d)) cols) (cells_of row cols)) (sym (get_or-map row_in entries j d (row_in d) within))
      ∙ rising i j (row_in d) before (subst (λ (n : ℕ). j < n) (sym (length-map entries row_in)) within) in
      as_rows cols (get_or entries i d) (get_or entries j d) (hold i d inside) (hold j d within) ∙ rows

  -- rows that are told apart in order are told apart
  unsorted_apart : (rows sorted : List Row) → IsInOrderOf cols rows sorted → AreToldApartBy cols sorted → AreToldApartBy cols rows
  unsorted_apart rows sorted order apart i j d before within same =
      let row = get_or rows i d in
      let R : Row → Row → Type 0 = λ one other. cells_of one cols ≢ cells_of other cols in
      let test = ties (row_lt cols) row in
      two_kept R test rows i j d before within (tie (cells_of row cols) (cells_of row cols) refl) (tie (cells_of row cols) (cells_of (get_or rows j d) cols) same)
      (subst (AllPairs R) (order.stable row) (AllPairs-filter R test sorted apart)) same

  pub tells_apart : (rows : List Row) (entries : List SortEntry) → IsInOrderOf cols rows (map row_in entries) → All (HasFirstCells cols) entries
      → AllPairs (λ one later. entry_cmp cols one later ≡ Less) entries ↔ AreToldApartBy cols rows
  tells_apart rows entries order hold = (
    λ rising. unsorted_apart rows (map row_in entries) order (rising_apart cols (map row_in entries) (as_entries entries hold rising)),
    λ apart. as_rising entries hold (rise_strictly cols cols rows (map row_in entries) (λ k d within. Contains-get_or cols k d within) apart order),
  )
