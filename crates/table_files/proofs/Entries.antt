-- Entries that a stable sort put in order: so are their rows, by their cells.
use Rattle.std.proofs.Common.{◌≡◌, suc, ◌+◌, ◌<◌, List, [], ◌∷◌, drop, length, map, filter, get_or, not, ◌&&◌, Bool, true, false, cond, All, IsPermutation, refl, sym, ap, ◌∙◌, arith}
use Rattle.std.specs.Cmp.{IsTotalOrder, on_total, then_total}
use Rattle.std.specs.Cmp.Lexicographic.{slice_cmp}
use Rattle.std.specs.List.Sorted.{IsSortedBy, IsStableBy, ties}
use Rattle.std.specs.declared.cmp.Ordering.{Ordering}
use Rattle.std.specs.declared.cmp.Ordering.TheVariants.{Less, Equal, Greater}
use Rattle.std.specs.Ordering.{is_lt, ordering_then}
use Rattle.std.proofs.lemmas.List.{get_or-map, length-map}
use Rattle.std.proofs.lemmas.List.Sorted.{All-permutation, IsPermutation-map}
use Rattle.emc_base.specs.Order.{value_cmp}
use Rattle.emc_base.specs.declared.value.Value.TheVariants as value
use Rattle.emc_base.specs.declared.value_ref.ValueRef.{ValueRef}
use Rattle.emc_base.specs.declared.value_ref.ValueRef.TheVariants.{Null, Whole, Flag, Text, Bytes}
use Rattle.emc_base.specs.OrderLaws.{key_cmp_total, value_cmp_total}
use Rattle.emc_base.specs.ValueRefs.{shown_value}
use Rattle.round_trip.specs.Words.{ColId, Value, Row, cell_of, cells_of}
use Rattle.table_files.specs.Entries.{HasFirstCells, entry_cmp, first_cell}
use Rattle.table_files.specs.InOrder.{IsInOrderOf}
use Rattle.table_files.specs.declared.sort_entry.SortEntry.{SortEntry}
use Rattle.table_files.proofs.Rising.{row_lt}

-- the row of an entry
abbrev pub row_in : SortEntry → Row
row_in entry = entry.row.now

-- orders that come again decide nothing
again : (first second rest : Ordering) → ordering_then first (ordering_then second (ordering_then first (ordering_then second rest))) ≡ ordering_then first (ordering_then second rest)
again Less second rest = refl
again Greater second rest = refl
again Equal Less rest = refl
again Equal Equal rest = refl
again Equal Greater rest = refl

-- an order after which nothing comes
alone : (order : Ordering) → ordering_then order (ordering_then order Equal) ≡ ordering_then order Equal
alone Less = refl
alone Equal = refl
alone Greater = refl

-- the first two cells decide what all of them decide, where they decide
by_first : (cols : List ColId) (one other : Row) → ordering_then (value_cmp (first_cell one cols) (first_cell other cols))
    (ordering_then (value_cmp (first_cell one (drop 1 cols)) (first_cell other (drop 1 cols))) (slice_cmp value_cmp (cells_of one cols) (cells_of other cols)))
    ≡ slice_cmp value_cmp (cells_of one cols) (cells_of other cols)
by_first [] one other = refl
by_first (col ∷ []) one other = alone (value_cmp (cell_of one col) (cell_of other col))
by_first (col ∷ next ∷ cols) one other =
    again (value_cmp (cell_of one col) (cell_of other col)) (value_cmp (cell_of one next) (cell_of other next)) (slice_cmp value_cmp (cells_of one cols) (cells_of other cols))

-- something lent that shows a value
some_lent : Value → ValueRef
some_lent value.Null = Null
some_lent (value.Whole number) = Whole number
some_lent (value.Flag flag) = Flag flag
some_lent (value.Text text) = Text (record { ref_ptr = (0, 0); now = text })
some_lent (value.Bytes bytes) = Bytes (record { ref_ptr = (0, 0); now = bytes })

shows : (v : Value) → shown_value (some_lent v) ≡ v
unfolding some_lent
shows value.Null = refl
shows (value.Whole number) = refl
shows (value.Flag flag) = refl
shows (value.Text text) = refl
shows (value.Bytes bytes) = refl

-- tests that agree on the elements of a list keep the same ones
filter_agree_on : {X : Type 0} (p q : X → Bool) (xs : List X) → All (λ x. p x ≡ q x) xs → filter p xs ≡ filter q xs
filter_agree_on p q [] agree = refl
filter_agree_on p q (x ∷ xs) agree =
    let rest = filter_agree_on p q xs (λ k d within. agree (suc k) d (omega arith)) in
    ap (λ kept. cond kept (x ∷ filter p xs) (filter p xs)) (agree 0 x (omega arith)) ∙ ap (λ kept. cond (q x) (x ∷ kept) kept) rest

-- a filter of what a function gives
filter-map : {X Y : Type 0} (f : X → Y) (test : Y → Bool) (xs : List X) → filter test (map f xs) ≡ map f (filter (λ x. test (f x)) xs)
filter-map f test [] = refl
filter-map f test (x ∷ xs) = by (test (f x)) (filter-map f test xs)
  where
    by : (b : Bool) → filter test (map f xs) ≡ map f (filter (λ x. test (f x)) xs)
        → cond b (f x ∷ filter test (map f xs)) (filter test (map f xs)) ≡ map f (cond b (x ∷ filter (λ x. test (f x)) xs) (filter (λ x. test (f x)) xs))
    by true rest = ap (λ l. f x ∷ l) rest
    by false rest = rest

module _ (cols : List ColId) where
  entry_lt : SortEntry → SortEntry → Bool
  entry_lt one other = is_lt (entry_cmp cols one other)

  -- entries with the first cells of their rows are ordered as these are
  pub as_rows : (one other : SortEntry) → HasFirstCells cols one → HasFirstCells cols other → entry_cmp cols one other ≡ slice_cmp value_cmp (cells_of (row_in one) cols) (cells_of (row_in other) cols)
  as_rows one other holds held =
      let all = slice_cmp value_cmp (cells_of (row_in one) cols) (cells_of (row_in other) cols) in
      let second : value_cmp (shown_value one.second) (shown_value other.second) ≡ value_cmp (first_cell (row_in one) (drop 1 cols)) (first_cell (row_in other) (drop 1 cols)) =
      λ k. value_cmp (holds.1 k) (held.1 k) in
      let first : value_cmp (shown_value one.first) (shown_value other.first) ≡ value_cmp (first_cell (row_in one) cols) (first_cell (row_in other) cols) =
      λ k. value_cmp (holds.0 k) (held.0 k) in
      (λ k. ordering_then (first k) (ordering_then (second k) all)) ∙ by_first cols (row_in one) (row_in other)

  -- an entry of a row
  entry_of : Row → SortEntry
  entry_of row = record { first = some_lent (first_cell row cols); second = some_lent (first_cell row (drop 1 cols)); row = record { ref_ptr = (0, 0); now = row } }

  alike : (row : Row) (entry : SortEntry) → HasFirstCells cols entry → ties entry_lt (entry_of row) entry ≡ ties (row_lt cols) row (row_in entry)
  unfolding entry_of entry_lt
  alike row entry holds =
      let own : HasFirstCells cols (entry_of row) = (shows (first_cell row cols), shows (first_cell row (drop 1 cols))) in
      ap (λ below. not below && not (entry_lt entry (entry_of row))) (ap is_lt (as_rows (entry_of row) entry own holds))
      ∙ ap (λ above. not (row_lt cols row (row_in entry)) && not above) (ap is_lt (as_rows entry (entry_of row) holds own))

  kept_alike : (row : Row) (entries : List SortEntry) → All (HasFirstCells cols) entries
      → filter (ties (row_lt cols) row) (map row_in entries) ≡ map row_in (filter (ties entry_lt (entry_of row)) entries)
  kept_alike row entries hold =
      filter-map row_in (ties (row_lt cols) row) entries
      ∙ ap (map row_in) (sym (filter_agree_on (ties entry_lt (entry_of row)) (λ entry. ties (row_lt cols) row (row_in entry)) entries (λ k d within. alike row (get_or entries k d) (hold k d within))))

  rising_rows : (entries : List SortEntry) → All (HasFirstCells cols) entries → IsSortedBy entry_lt entries → IsSortedBy (row_lt cols) (map row_in entries)
  unfolding entry_lt
  rising_rows [] hold sorted k d low high = absurd (omega arith)
  rising_rows (entry ∷ entries) hold sorted k d low high =
      let all = entry ∷ entries in
      let within : k + 1 < length all = rw length-map at high in
      rw (get_or-map row_in all (k + 1) entry d within, get_or-map row_in all k entry d (omega arith))
      (sym (ap is_lt (as_rows (get_or all (k + 1) entry) (get_or all k entry) (hold (k + 1) entry within) (hold k entry (omega arith)))) ∙ sorted k entry low within)

  -- what a stable sort of entries ensures of their rows
  pub entries_in_order : (entries sorted : List SortEntry) → All (HasFirstCells cols) entries → IsPermutation entries sorted
      → IsSortedBy (λ one other. is_lt (entry_cmp cols one other)) sorted → IsStableBy (λ one other. is_lt (entry_cmp cols one other)) entries sorted
      → IsInOrderOf cols (map row_in entries) (map row_in sorted)
  unfolding entry_lt
  entries_in_order entries sorted hold same rising stable =
      let still : All (HasFirstCells cols) sorted = All-permutation (HasFirstCells cols) entries sorted same hold in
      record {
        same = IsPermutation-map row_in entries sorted same;
        rising = rising_rows sorted still rising;
        stable = λ row. kept_alike row sorted still ∙ ap (map row_in) (stable (entry_of row)) ∙ sym (kept_alike row entries hold);
      }

  -- the order of entries is total
  pub entry_cmp_total : IsTotalOrder (entry_cmp cols)
  entry_cmp_total =
      then_total (on_total (λ (entry : SortEntry). shown_value entry.first) value_cmp_total)
      (then_total (on_total (λ (entry : SortEntry). shown_value entry.second) value_cmp_total) (on_total (λ entry. cells_of (row_in entry) cols) key_cmp_total))
