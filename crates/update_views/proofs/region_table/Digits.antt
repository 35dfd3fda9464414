-- Numbers by digits: the place of a choice among all choices, counted up to a bound.
use Rattle.std.proofs.Common.{◌≡◌, ◌+◌, ◌*◌, ℕ, List, [], ◌∷◌, ◌++◌, map, length, Contains, Option, Some, None, option_and_then, min, refl, sym, ap, ◌∙◌, mul_assoc, add-mul, add-zero, mul-one, arith}
use Rattle.std.specs.List.{AllZip}
use Rattle.emc_base.specs.Lists.{At}
use Rattle.round_trip.specs.Words.{Entity, Hosted}
use Rattle.schema_laws.proofs.state_demand.lists.Lists.{head_stands, tail_stands}
use Rattle.regions.specs.Lists.{choices}
use Rattle.regions.proofs.region_laws.listing.Choices.{length_choices}
use Rattle.region_partition.specs.region_lists.Counts.{capped}
use Rattle.region_partition.proofs.region_lists.Counts.{capped_times}
use Rattle.update_views.specs.declared.region_table.telling.Test.{Test}
use Rattle.update_views.specs.region_table.Digits.{digit_of, size_of}
use Rattle.update_views.specs.region_table.Numbers.{numbered}
use Rattle.update_views.proofs.region_table.Standing.{at_choice}

-- a number behind one that is counted up to the bound
pub capped_behind : (a b c : ℕ) → capped (capped a * b + c) ≡ capped (a * b + c)
capped_behind a b c =
    let one : ℕ = capped a * b in
    let other : ℕ = a * b in
    let same : min one 1048576 ≡ min other 1048576 = capped_times a b in
    let more : min (one + c) 1048576 ≡ min (other + c) 1048576 = omega (arith, same) in
    more

-- two digits
digits_joined : (a size i n m : ℕ) → (a * size + i) * n + m ≡ a * (size * n) + (i * n + m)
digits_joined a size i n m =
    let one : (a * size + i) * n ≡ a * size * n + i * n = add-mul (a * size) i n in
    let two : a * size * n ≡ a * (size * n) = mul_assoc a size n in
    let left : ℕ = (a * size + i) * n in
    let split : ℕ = a * size * n in
    let whole : ℕ = a * (size * n) in
    let last : ℕ = i * n in
    let all : left + m ≡ whole + (last + m) = omega (arith, one, two) in
    all

module _ (entity : Entity) (links : List Hosted) where
  -- numbers by tests with others behind them
  pub numbered_parts : (tests others : List Test) (number n : ℕ) → numbered entity links number (tests ++ others) ≡ Some n
      → (m : ℕ) × (numbered entity links number tests ≡ Some m) × (numbered entity links m others ≡ Some n)
  numbered_parts [] others number n is = (number, refl, is)
  numbered_parts (test ∷ tests) others number n is =
      by (digit_of test entity links) (λ digit. numbered_parts tests others (capped (number * size_of test + digit)) n) is
    where
      by : (digit : Option ℕ) → ((one : ℕ) → numbered entity links (capped (number * size_of test + one)) (tests ++ others) ≡ Some n
          → (m : ℕ) × (numbered entity links (capped (number * size_of test + one)) tests ≡ Some m) × (numbered entity links m others ≡ Some n))
          → option_and_then (λ one. numbered entity links (capped (number * size_of test + one)) (tests ++ others)) digit ≡ Some n
          → (m : ℕ) × (option_and_then (λ one. numbered entity links (capped (number * size_of test + one)) tests) digit ≡ Some m)
          × (numbered entity links m others ≡ Some n)
      by None rest given = cc
      by (Some digit) rest given = rest digit given

  -- where each test has a digit there is a number
  pub some_number : {K : Type 0} (test : K → Test) (ks : List K) (others : List Test)
      → ((k : K) → Contains ks k → (digit : ℕ) × (digit_of (test k) entity links ≡ Some digit))
      → ((number : ℕ) → (n : ℕ) × (numbered entity links number others ≡ Some n))
      → (number : ℕ) → (n : ℕ) × (numbered entity links number (map test ks ++ others) ≡ Some n)
  some_number test [] others each rest number = rest number
  some_number test (k ∷ ks) others each rest number =
      let digit = each k (head_stands k ks) in
      let later = some_number test ks others (λ one has. each one (tail_stands k ks one has)) rest (capped (number * size_of (test k) + digit.0)) in
      let step = λ (one : ℕ). numbered entity links (capped (number * size_of (test k) + one)) (map test ks ++ others) in
      (later.0, ap (option_and_then step) digit.1 ∙ later.1)

  -- the choice that stands at the number, by items that stand at the digits
  pub record Chosen {K X : Type 0} (f : K → List X) (Good : K → X → Type 0) (ks : List K) (before number : ℕ) : Type 0 where
    pub choice : List X
    pub place : ℕ
    pub stands : At (choices (map f ks)) place choice
    pub good : AllZip Good ks choice
    pub is : number ≡ capped (before * length (choices (map f ks)) + place)

  module _ {K X : Type 0} (f : K → List X) (Good : K → X → Type 0) (test : K → Test) (size : (k : K) → size_of (test k) ≡ length (f k)) where
    one_more : (k : K) (ks : List K) (digit : ℕ) (x : X) (before n : ℕ) → At (f k) digit x → Good k x
        → Chosen f Good ks (before * length (f k) + digit) n → Chosen f Good (k ∷ ks) before n
    one_more k ks digit x before n here good rest =
        let all = length (choices (map f ks)) in
        record {
          choice = x ∷ rest.choice;
          place = digit * all + rest.place;
          stands = at_choice (f k) (map f ks) digit rest.place x rest.choice here rest.stands;
          good = (good, rest.good);
          is = rest.is ∙ ap capped (digits_joined before (length (f k)) digit all rest.place
              ∙ ap (λ m. before * m + (digit * all + rest.place)) (sym (length_choices (f k) (map f ks))));
        }

    pub chosen : (ks : List K) (before number n : ℕ)
        → ((k : K) → Contains ks k → (digit : ℕ) → digit_of (test k) entity links ≡ Some digit → (x : X) × At (f k) digit x × Good k x)
        → number ≡ capped before → numbered entity links number (map test ks) ≡ Some n → Chosen f Good ks before n
    chosen [] before number n each counted is =
        let same : number ≡ n = cc in
        let whole : before * 1 + 0 ≡ before = add-zero (before * 1) ∙ mul-one before in
        record { choice = []; place = 0; stands = refl; good = tt; is = sym same ∙ counted ∙ ap capped (sym whole) }
    chosen (k ∷ ks) before number n each counted is =
        by (digit_of (test k) entity links) refl (λ digit.
        chosen ks (before * length (f k) + digit) (capped (number * size_of (test k) + digit)) n (λ one has. each one (tail_stands k ks one has))) is
      where
        by : (digit : Option ℕ) → digit_of (test k) entity links ≡ digit
            → ((one : ℕ) → capped (number * size_of (test k) + one) ≡ capped (before * length (f k) + one)
            → numbered entity links (capped (number * size_of (test k) + one)) (map test ks) ≡ Some n → Chosen f Good ks (before * length (f k) + one) n)
            → option_and_then (λ one. numbered entity links (capped (number * size_of (test k) + one)) (map test ks)) digit ≡ Some n → Chosen f Good (k ∷ ks) before n
        by None at rest given = cc
        by (Some digit) at rest given =
            let item = each k (head_stands k ks) digit at in
            let next : capped (number * size_of (test k) + digit) ≡ capped (before * length (f k) + digit) =
            (λ i. capped (counted i * size k i + digit)) ∙ capped_behind before (length (f k)) digit in
            one_more k ks digit item.0 before n item.1 item.2 (rest digit next given)
