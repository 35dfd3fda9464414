-- The cells of a row by what is given to its columns, and the rows of a table by the writings to it.
use Rattle.std.proofs.Common.{◌≡◌, ◌≢◌, ◌⊎◌, inl, inr, ℕ, ◌+◌, List, [], ◌∷◌, ◌++◌, ◌==◌, ◌||◌, append-nil, take, cond, filter, flat_map, length, map, Bool, true, false, if◌then◌else◌, refl, sym, ap, ◌∙◌}
use Rattle.std.specs.Global.{Vec}
use Rattle.std.specs.List.{enumerate_from, list_any}
use Rattle.std.proofs.lemmas.List.{map-append}
use Rattle.std.proofs.lemmas.List.Concat.{flat_map-append}
use Rattle.std.proofs.lemmas.List.Elements.{filter-append}
use Rattle.std.proofs.lemmas.List.FromFn.{length-enumerate_from}
use Rattle.emc_base.specs.Lists.{At}
use Rattle.emc_base.proofs.Loops.{take_item}
use Rattle.round_trip.specs.Words.{ColId, Column, Table, TableId}
use Rattle.member_groups.specs.group_numbers.Numbers.{HoldsEach}
use Rattle.regions.specs.declared.pattern.Symbol.{Symbol}
use Rattle.regions.specs.Lists.{firsts}
use Rattle.regions.specs.Patterns.{pattern_row, rows_at, symbols_in}
use Rattle.regions.specs.Symbols.{SymbolWriting, same_symbol}
use Rattle.symbolic_rows.specs.declared.writing.Writing.{Writing}
use Rattle.symbolic_rows.specs.Grouped.{AreIn, given_by, row_by, rows_by, written_to}
use Rattle.symbolic_rows.specs.Written.{in_symbols}
use Rattle.symbolic_rows.proofs.Placed.{number_is, same_images}

-- what writings list in a column, writing by writing
listed_by : (col : ColId) (writings : List Writing) → symbols_in col (given_by writings) ≡ flat_map (λ writing. symbols_in col writing.cells) (map in_symbols writings)
listed_by col [] = refl
listed_by col (one ∷ others) =
    let p : ColId × Symbol → Bool = λ cell. cell.0.index == col.index in
    ap (map (λ cell. cell.1)) (filter-append p one.cells (given_by others))
    ∙ map-append (λ (cell : ColId × Symbol). cell.1) (filter p one.cells) (filter p (given_by others))
    ∙ ap (λ symbols. symbols_in col one.cells ++ symbols) (listed_by col others)

-- what one writing more gives
pub given_more : (writings : List Writing) (i : ℕ) (one : Writing) → At writings i one → given_by (take (i + 1) writings) ≡ given_by (take i writings) ++ one.cells
given_more writings i one here =
    ap given_by (take_item writings i one here) ∙ flat_map-append (λ (writing : Writing). writing.cells) (take i writings) (one ∷ [])
    ∙ ap (λ cells. given_by (take i writings) ++ cells) (append-nil one.cells)

-- the cells are those of the row
pub cells_are : (cols : List Column) (writings : List Writing) (cells : List (Vec Symbol)) → HoldsEach (AreIn (given_by writings)) (length cols) cells
    → map (λ own. own.items) cells
    ≡ map (λ placed. firsts same_symbol (flat_map (λ writing. symbols_in (record { index = placed.0 }) writing.cells) (map in_symbols writings))) (enumerate_from 0 cols)
cells_are cols writings cells holds = same_images (λ (own : Vec Symbol). own.items)
    (λ (placed : ℕ × Column). firsts same_symbol (flat_map (λ writing. symbols_in (record { index = placed.0 }) writing.cells) (map in_symbols writings)))
    cells (enumerate_from 0 cols) (holds.size ∙ sym (length-enumerate_from 0 cols))
    (λ i own placed here there.
    let number = number_is cols i placed there in
    holds.each i own here
    ∙ ap (firsts same_symbol) (listed_by (record { index = i }) writings)
    ∙ (λ k. firsts same_symbol (flat_map (λ writing. symbols_in (record { index = number k }) writing.cells) (map in_symbols writings))))

-- a filter leaves nothing, or something, as any passes
some_or_none : {X : Type 0} (p : X → Bool) (xs : List X)
    → ((list_any p xs ≡ false) × (filter p xs ≡ [])) ⊎ ((list_any p xs ≡ true) × (x : X) × (others : List X) × (filter p xs ≡ x ∷ others))
some_or_none p [] = inl (refl, refl)
some_or_none {X} p (x ∷ xs) = by (p x) refl (some_or_none p xs)
  where
    by : (b : Bool) → p x ≡ b → ((list_any p xs ≡ false) × (filter p xs ≡ [])) ⊎ ((list_any p xs ≡ true) × (y : X) × (others : List X) × (filter p xs ≡ y ∷ others))
        → ((list_any p (x ∷ xs) ≡ false) × (filter p (x ∷ xs) ≡ [])) ⊎ ((list_any p (x ∷ xs) ≡ true) × (y : X) × (others : List X) × (filter p (x ∷ xs) ≡ y ∷ others))
    by true is rest = inr (ap (λ b. b || list_any p xs) is, x, filter p xs, ap (λ b. cond b (x ∷ filter p xs) (filter p xs)) is)
    by false is (inl none) = inl (ap (λ b. b || list_any p xs) is ∙ none.0, ap (λ b. cond b (x ∷ filter p xs) (filter p xs)) is ∙ none.1)
    by false is (inr some) = inr (ap (λ b. b || list_any p xs) is ∙ some.0, some.1, some.2, ap (λ b. cond b (x ∷ filter p xs) (filter p xs)) is ∙ some.3)

-- the row of a table that is written
pub rows_some : (t : TableId) (table : Table) (own : List SymbolWriting) → own ≢ [] → rows_by t table own ≡ row_by t table own ∷ []
rows_some t table [] some = absurd (some refl)
rows_some t table (one ∷ others) some = refl

-- the rows of a table by the writings to it are those by all writings
pub rows_are : (writings : List SymbolWriting) (t : TableId) (table : Table) → rows_by t table (written_to writings t.index) ≡ rows_at writings t table
rows_are writings t table = elim (some_or_none (λ (writing : SymbolWriting). writing.table.index == t.index) writings) [
  | inl none ↦ ap (rows_by t table) none.1 ∙ sym (ap (λ b. if b then pattern_row writings t table ∷ [] else []) none.0)
  | inr some ↦ rows_some t table (written_to writings t.index) (λ none. let both = sym some.3 ∙ none in cc)
      ∙ sym (ap (λ b. if b then pattern_row writings t table ∷ [] else []) some.0)
]
