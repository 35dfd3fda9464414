-- Numbers in rising order: they rise, and are those that were given.
use Rattle.std.proofs.Common.{◌≡◌, ◌≢◌, ℤ, List, [], ◌∷◌, All, AllPairs, refl, arith}
use Rattle.std.specs.declared.cmp.Ordering.{Ordering}
use Rattle.std.specs.declared.cmp.Ordering.TheVariants.{Less, Equal, Greater}
use Rattle.std.specs.Prelude.{◌<ℤ◌, if◌then◌else◌}
use Rattle.std.specs.Cmp.{int_chain, int_ranks}
use Rattle.std.specs.Ordering.{MatchOrdering, int_cmp, is_eq, is_lt}
use Rattle.std.proofs.lemmas.List.Elements.{All-cons, All-head, All-nil, All-tail, All-weaker}
use Rattle.std.proofs.lemmas.List.Kept.{AllPairs-cons}
use Rattle.csdl_meaning.specs.Rising.{rising, with_number}
use Rattle.emc_base.proofs.Joined.{pairs_head, pairs_tail}

-- what holds of a number and of the others holds of all
with_number_all : (P : ℤ → Type 0) (number : ℤ) (numbers : List ℤ) → P number → All P numbers → All P (with_number number numbers)
with_number_all P number [] here all = All-cons P number [] here all
with_number_all P number (first ∷ rest) here all = by (int_cmp number first) (with_number_all P number rest here (All-tail P first rest all))
  where
    by : (order : Ordering) → All P (with_number number rest)
        → All P (if is_lt order then number ∷ first ∷ rest else if is_eq order then first ∷ rest else first ∷ with_number number rest)
    by Less later = All-cons P number (first ∷ rest) here all
    by Equal later = all
    by Greater later = All-cons P first (with_number number rest) (All-head P first rest all) later

-- what holds of all numbers holds of them in rising order
pub rising_all : (P : ℤ → Type 0) (numbers : List ℤ) → All P numbers → All P (rising numbers)
rising_all P [] all = all
rising_all P (number ∷ numbers) all = with_number_all P number (rising numbers) (All-head P number numbers all) (rising_all P numbers (All-tail P number numbers all))

-- with one number more, numbers still rise
with_number_rises : (number : ℤ) (numbers : List ℤ) → AllPairs (λ one next. one <ℤ next) numbers → AllPairs (λ one next. one <ℤ next) (with_number number numbers)
with_number_rises number [] up = AllPairs-cons (λ one next. one <ℤ next) number [] (All-nil (λ next. number <ℤ next)) up
with_number_rises number (first ∷ rest) up =
    by (int_cmp number first) (int_ranks number first) (with_number_rises number rest (pairs_tail (λ one next. one <ℤ next) first rest up))
  where
    by : (order : Ordering) → MatchOrdering order (number <ℤ first) (number ≡ first) (first <ℤ number) → AllPairs (λ one next. one <ℤ next) (with_number number rest)
        → AllPairs (λ one next. one <ℤ next) (if is_lt order then number ∷ first ∷ rest else if is_eq order then first ∷ rest else first ∷ with_number number rest)
    by Less less later = AllPairs-cons (λ one next. one <ℤ next) number (first ∷ rest)
        (All-cons (λ next. number <ℤ next) first rest less
        (All-weaker (λ next. first <ℤ next) (λ next. number <ℤ next) (λ next above. int_chain number first next less above) rest (pairs_head (λ one next. one <ℤ next) first rest up)))
        up
    by Equal same later = up
    by Greater greater later = AllPairs-cons (λ one next. one <ℤ next) first (with_number number rest)
        (with_number_all (λ next. first <ℤ next) number rest greater (pairs_head (λ one next. one <ℤ next) first rest up))
        later

-- numbers in rising order rise
pub rising_rises : (numbers : List ℤ) → AllPairs (λ one next. one <ℤ next) (rising numbers)
rising_rises [] = λ i j d below within. absurd (omega arith)
rising_rises (number ∷ numbers) = with_number_rises number (rising numbers) (rising_rises numbers)

-- where there are numbers, there are some in rising order
with_number_some : (number : ℤ) (numbers : List ℤ) → with_number number numbers ≢ []
with_number_some number [] none = absurd cc
with_number_some number (first ∷ rest) none = by (int_cmp number first) none
  where
    by : (order : Ordering) → ¬ ((if is_lt order then number ∷ first ∷ rest else if is_eq order then first ∷ rest else first ∷ with_number number rest) ≡ [])
    by Less is = absurd cc
    by Equal is = absurd cc
    by Greater is = absurd cc

pub rising_some : (numbers : List ℤ) → numbers ≢ [] → rising numbers ≢ []
rising_some [] some none = some refl
rising_some (number ∷ numbers) some none = with_number_some number (rising numbers) none
