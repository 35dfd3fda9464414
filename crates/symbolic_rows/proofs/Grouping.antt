-- One writing more to its table, and one symbol more in its column.
use Rattle.std.proofs.Common.{◌≡◌, ◌≢◌, ℕ, List, [], ◌∷◌, ◌++◌, ◌==◌, append-nil, cond, filter, map, set, slice_get, None, Bool, true, false, true≢false, refl, sym, ap, ◌∙◌}
use Rattle.std.specs.Global.{Vec}
use Rattle.std.proofs.lemmas.Bool.Decides.{Decides-eqb, same_from_decides}
use Rattle.std.proofs.lemmas.List.{map-append}
use Rattle.std.proofs.lemmas.List.Elements.{filter-append}
use Rattle.emc_base.specs.Lists.{At}
use Rattle.round_trip.specs.Words.{ColId}
use Rattle.member_groups.specs.group_numbers.Numbers.{HoldsEach}
use Rattle.regions.specs.declared.pattern.Symbol.{Symbol}
use Rattle.regions.specs.Lists.{firsts}
use Rattle.regions.specs.Patterns.{symbols_in}
use Rattle.regions.specs.Symbols.{SymbolWriting, same_symbol}
use Rattle.regions.proofs.region_laws.values.Symbols.{Decides-symbol}
use Rattle.symbolic_rows.specs.declared.writing.Writing.{Writing}
use Rattle.symbolic_rows.specs.Grouped.{AreIn, AreTo, with_once}
use Rattle.symbolic_rows.specs.Written.{in_symbols}
use Rattle.symbolic_rows.proofs.Behind.{behind}
use Rattle.symbolic_rows.proofs.Once.{one_more_once}
use Rattle.symbolic_rows.proofs.Placed.{holds_past, holds_set}

-- one item more that passes a filter, or doesn't
module _ {X : Type 0} (p : X → Bool) (xs : List X) (x : X) where
  passes_more : p x ≡ true → filter p (xs ++ x ∷ []) ≡ filter p xs ++ x ∷ []
  passes_more is = filter-append p xs (x ∷ []) ∙ ap (λ b. filter p xs ++ cond b (x ∷ []) []) is

  fails_more : p x ≡ false → filter p (xs ++ x ∷ []) ≡ filter p xs
  fails_more is = filter-append p xs (x ∷ []) ∙ ap (λ b. filter p xs ++ cond b (x ∷ []) []) is ∙ append-nil (filter p xs)

same_number : (n : ℕ) → (n == n) ≡ true
same_number n = (Decides-eqb n n).1 refl

other_number : (n i : ℕ) → i ≢ n → (n == i) ≡ false
other_number n i other = same_from_decides (n == i) false (Decides-eqb n i) (λ told. absurd (true≢false (sym told)), λ same. absurd (other (sym same)))

module _ (writings : List SymbolWriting) (writing : Writing) where
  abbrev more : List SymbolWriting
  more = writings ++ in_symbols writing ∷ []

  own_more : (own now : Vec Writing) → now.items ≡ own.items ++ writing ∷ [] → AreTo writings writing.table.index own → AreTo more writing.table.index now
  own_more own now is to =
      behind in_symbols own.items now.items writing (in_symbols writing) is refl
      ∙ ap (λ before. before ++ in_symbols writing ∷ []) to
      ∙ sym (passes_more (λ one. one.table.index == writing.table.index) writings (in_symbols writing) (same_number writing.table.index))

  others_stay : (t : ℕ) (own : Vec Writing) → t ≢ writing.table.index → AreTo writings t own → AreTo more t own
  others_stay t own other to = to ∙ sym (fails_more (λ one. one.table.index == t) writings (in_symbols writing) (other_number writing.table.index t other))

  module _ (count : ℕ) (grouped : List (Vec Writing)) (holds : HoldsEach (AreTo writings) count grouped) where
    pub table_takes : (own now : Vec Writing) → At grouped writing.table.index own → now.items ≡ own.items ++ writing ∷ []
        → HoldsEach (AreTo more) count (set grouped writing.table.index now)
    table_takes own now here is = holds_set (AreTo writings) (AreTo more) writing.table.index others_stay count grouped holds own now here (own_more own now is)

    pub no_table : slice_get grouped writing.table.index ≡ None → HoldsEach (AreTo more) count grouped
    no_table none = holds_past (AreTo writings) (AreTo more) writing.table.index others_stay count grouped holds none

module _ (given : List (ColId × Symbol)) (col : ColId) (symbol : Symbol) where
  abbrev also : List (ColId × Symbol)
  also = given ++ (col, symbol) ∷ []

  listed_more : symbols_in col also ≡ symbols_in col given ++ symbol ∷ []
  listed_more =
      let p : ColId × Symbol → Bool = λ cell. cell.0.index == col.index in
      ap (map (λ cell. cell.1)) (passes_more p given (col, symbol) (same_number col.index)) ∙ map-append (λ (cell : ColId × Symbol). cell.1) (filter p given) ((col, symbol) ∷ [])

  column_more : (own now : Vec Symbol) → now.items ≡ with_once symbol own.items → AreIn given col.index own → AreIn also col.index now
  column_more own now is lists =
      is ∙ ap (with_once symbol) lists ∙ sym (one_more_once same_symbol Decides-symbol symbol (symbols_in col given)) ∙ ap (firsts same_symbol) (sym listed_more)

  columns_stay : (i : ℕ) (own : Vec Symbol) → i ≢ col.index → AreIn given i own → AreIn also i own
  columns_stay i own other lists =
      lists ∙ ap (λ cells. firsts same_symbol (map (λ cell. cell.1) cells)) (sym (fails_more (λ cell. cell.0.index == i) given (col, symbol) (other_number col.index i other)))

  module _ (count : ℕ) (cells : List (Vec Symbol)) (holds : HoldsEach (AreIn given) count cells) where
    pub column_takes : (own now : Vec Symbol) → At cells col.index own → now.items ≡ with_once symbol own.items → HoldsEach (AreIn also) count (set cells col.index now)
    column_takes own now here is = holds_set (AreIn given) (AreIn also) col.index columns_stay count cells holds own now here (column_more own now is)

    pub no_column : slice_get cells col.index ≡ None → HoldsEach (AreIn also) count cells
    no_column none = holds_past (AreIn given) (AreIn also) col.index columns_stay count cells holds none
