-- Rows that a stable sort put in order rise strictly where some columns tell them apart.
use Rattle.std.proofs.Common.{◌≡◌, ◌≢◌, ℕ, zero, suc, ◌<◌, List, [], ◌∷◌, length, filter, get_or, not, ◌&&◌, Bool, true, false, cond, true≢false, All, AllPairs, Contains, refl, sym, ap, subst, ◌∙◌, arith}
use Rattle.std.specs.Cmp.{tied_itself}
use Rattle.std.specs.Cmp.Lexicographic.{slice_cmp}
use Rattle.std.specs.List.Sorted.{ties}
use Rattle.std.specs.declared.cmp.Ordering.{Ordering}
use Rattle.std.specs.declared.cmp.Ordering.TheVariants.{Less, Equal, Greater}
use Rattle.std.specs.Ordering.{is_lt, ordering_reverse}
use Rattle.std.proofs.lemmas.List.Elements.{All-contains, Contains-get_or}
use Rattle.std.proofs.lemmas.List.Kept.{AllPairs-filter}
use Rattle.std.proofs.lemmas.List.Sorted.{ranks_by, sorted_far}
use Rattle.emc_base.proofs.Mapped.{contains_filter}
use Rattle.emc_base.specs.Order.{value_cmp}
use Rattle.emc_base.specs.OrderLaws.{key_cmp_apart, key_cmp_total}
use Rattle.round_trip.specs.Words.{ColId, Value, Row, cells_of}
use Rattle.table_files.specs.InOrder.{AreToldApartBy, IsInOrderOf}
use Rattle.table_files.proofs.SameCells.{same_cells}

-- the order of rows by their cells in some columns
abbrev pub row_lt : List ColId → Row → Row → Bool
row_lt cols one two = is_lt (slice_cmp value_cmp (cells_of one cols) (cells_of two cols))

module _ {X : Type 0} (R : X → X → Type 0) (p : X → Bool) where
  -- two that a filter leaves are so as all that it leaves are
  pub two_kept : (xs : List X) (i j : ℕ) (d : X) → i < j → j < length xs → p (get_or xs i d) ≡ true → p (get_or xs j d) ≡ true → AllPairs R (filter p xs) → R (get_or xs i d) (get_or xs j d)
  two_kept [] i j d below within first second pairs = absurd (omega arith)
  two_kept (x ∷ xs) zero zero d below within first second pairs = absurd (omega arith)
  two_kept (x ∷ xs) (suc i) zero d below within first second pairs = absurd (omega arith)
  two_kept (x ∷ xs) zero (suc j) d below within first second pairs =
      let P : Bool → Type 0 = λ b. AllPairs R (cond b (x ∷ filter p xs) (filter p xs)) in
      let kept : AllPairs R (x ∷ filter p xs) = subst P first pairs in
      All-contains (R x) (filter p xs) (get_or xs j d) (λ k e inside. kept 0 (suc k) e (omega arith) (omega arith))
      (contains_filter p xs (get_or xs j d) (Contains-get_or xs j d (omega arith)) second)
  two_kept (x ∷ xs) (suc i) (suc j) d below within first second pairs =
      two_kept xs i j d (omega arith) (omega arith) first second (rest (p x) pairs)
    where
      rest : (b : Bool) → AllPairs R (cond b (x ∷ filter p xs) (filter p xs)) → AllPairs R (filter p xs)
      rest true all = λ i j d below within. all (suc i) (suc j) d (omega arith) (omega arith)
      rest false all = all

-- keys that are the same tie
pub tie : (one two : List Value) → one ≡ two → not (is_lt (slice_cmp value_cmp one two)) && not (is_lt (slice_cmp value_cmp two one)) ≡ true
tie one two same =
    ap (λ key. not (is_lt (slice_cmp value_cmp one key)) && not (is_lt (slice_cmp value_cmp key one))) (sym same)
    ∙ ap (λ order. not (is_lt order) && not (is_lt order)) (tied_itself key_cmp_total one)

module _ (cols key : List ColId) (rows sorted : List Row) (among : All (Contains cols) key) (apart : AreToldApartBy key rows) (order : IsInOrderOf cols rows sorted) where
  -- no two of the sorted rows are alike in these columns
  none_alike : (i j : ℕ) (d : Row) → i < j → j < length sorted → cells_of (get_or sorted i d) cols ≢ cells_of (get_or sorted j d) cols
  none_alike i j d below within same =
      let row = get_or sorted i d in
      let R : Row → Row → Type 0 = λ one other. cells_of one key ≢ cells_of other key in
      let test = ties (row_lt cols) row in
      let pairs : AllPairs R (filter test sorted) = subst (AllPairs R) (sym (order.stable row)) (AllPairs-filter R test rows apart) in
      two_kept R test sorted i j d below within (tie (cells_of row cols) (cells_of row cols) refl) (tie (cells_of row cols) (cells_of (get_or sorted j d) cols) same) pairs
      (same_cells row (get_or sorted j d) cols key same (λ col has. All-contains (Contains cols) key col among has))

  strict : (up back : Ordering) → up ≡ ordering_reverse back → is_lt back ≡ false → up ≢ Equal → up ≡ Less
  strict Less back turned not_back uneven = refl
  strict Equal back turned not_back uneven = absurd (uneven refl)
  strict Greater Less turned not_back uneven = absurd (true≢false not_back)
  strict Greater Equal turned not_back uneven = absurd (true≢false (ap is_equal (sym turned)))
    where
      is_equal : Ordering → Bool
      is_equal Less = false
      is_equal Equal = true
      is_equal Greater = false
  strict Greater Greater turned not_back uneven = absurd (true≢false (ap is_lt (sym turned)))

  -- they rise strictly
  pub rise_strictly : AllPairs (λ row later. slice_cmp value_cmp (cells_of row cols) (cells_of later cols) ≡ Less) sorted
  rise_strictly i j d below within =
      let one = cells_of (get_or sorted i d) cols in
      let two = cells_of (get_or sorted j d) cols in
      strict (slice_cmp value_cmp one two) (slice_cmp value_cmp two one) (key_cmp_total.antisymm one two)
      (sorted_far (row_lt cols) (ranks_by key_cmp_total (λ (row : Row). cells_of row cols)) sorted order.rising i j d (omega arith) within)
      (λ even. none_alike i j d below within (key_cmp_apart one two even))

-- keys that rise are different
differ : (one later : List Value) → slice_cmp value_cmp one later ≡ Less → one ≢ later
differ one later less same = (let never : Less ≡ Equal = sym less ∙ ap (slice_cmp value_cmp one) (sym same) ∙ tied_itself key_cmp_total one in cc)

-- so rows that rise strictly by some columns are told apart by them
pub rising_apart : (cols : List ColId) (rows : List Row) → AllPairs (λ (row later : Row). slice_cmp value_cmp (cells_of row cols) (cells_of later cols) ≡ Less) rows
    → AreToldApartBy cols rows
rising_apart cols rows rising i j d below inside = differ (cells_of (get_or rows i d) cols) (cells_of (get_or rows j d) cols) (rising i j d below inside)
