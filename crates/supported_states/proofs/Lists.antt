-- Tests over lists.
use Rattle.std.proofs.Common.{◌≡◌, ◌&&◌, ◌||◌, ◌+◌, ◌<◌, ⊎_elim, ℕ, List, [], ◌∷◌, map, filter, Contains, Bool, true, false, refl, sym, ap, ◌∙◌, arith}
use Rattle.std.specs.List.{list_any}
use Rattle.std.proofs.lemmas.List.{map-append}
use Rattle.std.proofs.lemmas.List.Folds.{list_any-append}
use Rattle.emc_base.proofs.Joined.{filter-drops, filter-keeps}
use Rattle.emc_base.proofs.Mapped.{contains_map}
use Rattle.emc_base.proofs.Members.{contains_cons_cases, contains_nil}
use Rattle.schema_laws.specs.short_values.Numbers.{numbers_from}
use Rattle.population.proofs.plain.Lists.{number_there}
use Rattle.supported_states.proofs.Turns.{next_number}

-- a test of some items, and a test of what is made of them
pub any_of_some : {X Y : Type 0} (p : Y → Bool) (f : X → Y) (q : X → Bool) (xs : List X) → list_any (λ x. q x && p (f x)) xs ≡ list_any p (map f (filter q xs))
any_of_some p f q [] = refl
any_of_some p f q (x ∷ xs) = by (q x) refl (any_of_some p f q xs)
  where
    by : (told : Bool) → q x ≡ told → list_any (λ y. q y && p (f y)) xs ≡ list_any p (map f (filter q xs))
        → list_any (λ y. q y && p (f y)) (x ∷ xs) ≡ list_any p (map f (filter q (x ∷ xs)))
    by true told rest = ap (λ b. (b && p (f x)) || list_any (λ y. q y && p (f y)) xs) told ∙ ap (λ b. p (f x) || b) rest ∙ sym (ap (λ list. list_any p (map f list)) (filter-keeps q x xs told))
    by false told rest = ap (λ b. (b && p (f x)) || list_any (λ y. q y && p (f y)) xs) told ∙ rest ∙ sym (ap (λ list. list_any p (map f list)) (filter-drops q x xs told))

pub any-map : {X Y : Type 0} (p : Y → Bool) (f : X → Y) (xs : List X) → list_any p (map f xs) ≡ list_any (λ x. p (f x)) xs
any-map p f [] = refl
any-map p f (x ∷ xs) = ap (λ b. p (f x) || b) (any-map p f xs)

-- a test that a member passes, and a test over what is made of numbers
pub any_stands : {X : Type 0} (p : X → Bool) (xs : List X) (x : X) → Contains xs x → p x ≡ true → list_any p xs ≡ true
any_stands p [] x has told = absurd (contains_nil x has)
any_stands p (y ∷ ys) x has told = ⊎_elim
    (λ (here : x ≡ y). ap (λ b. b || list_any p ys) (sym (ap p here) ∙ told))
    (λ (later : Contains ys x). ap (λ b. p y || b) (any_stands p ys x later told) ∙ or-true (p y))
    (contains_cons_cases y ys x has)
  where
    or-true : (b : Bool) → (b || true) ≡ true
    or-true true = refl
    or-true false = refl

module _ {Y : Type 0} (p : Y → Bool) (f : ℕ → Y) where
  pub number_found : (n i : ℕ) → i < n → p (f i) ≡ true → list_any p (map f (numbers_from 0 n)) ≡ true
  number_found n i below told = any_stands p (map f (numbers_from 0 n)) (f i) (contains_map f (numbers_from 0 n) i (number_there 0 n i (omega arith) (omega (arith, below)))) told

  pub no_number : (n : ℕ) → list_any p (map f (numbers_from 0 n)) ≡ false → p (f n) ≡ false → list_any p (map f (numbers_from 0 (n + 1))) ≡ false
  no_number n none fails =
      ap (λ list. list_any p (map f list)) (next_number n)
      ∙ ap (list_any p) (map-append f (numbers_from 0 n) (n ∷ []))
      ∙ list_any-append p (map f (numbers_from 0 n)) (f n ∷ [])
      ∙ ap (λ b. b || (p (f n) || false)) none
      ∙ ap (λ b. b || false) fails
