-- Lists that loops make turn by turn.
use Rattle.std.proofs.Common.{◌≡◌, ℕ, zero, suc, ◌+◌, ◌≤◌, List, [], ◌∷◌, ◌++◌, append_assoc, map, filter, flat_map, length, take, Bool, sym, ap, ◌∙◌, arith}
use Rattle.std.proofs.lemmas.Grind.{flat_map-append}
use Rattle.std.proofs.lemmas.List.{append-nil, map-append, take_all}
use Rattle.std.proofs.lemmas.List.Elements.{filter-append}
use Rattle.emc_base.specs.Lists.{At}
use Rattle.emc_base.proofs.Loops.{take_item}
use Rattle.schema_laws.specs.short_values.Numbers.{numbers_from}

-- what is made of a longer list is what was made, and then what is made of the last item
abbrev pub Joins : {X Y : Type 0} → (List X → List Y) → Type 0
Joins {X} F = (xs : List X) (x : X) → F (xs ++ x ∷ []) ≡ F xs ++ F (x ∷ [])

pub joins-map : {X Y : Type 0} (f : X → Y) → Joins (map f)
joins-map f xs x = map-append f xs (x ∷ [])

pub joins-filter : {X : Type 0} (p : X → Bool) → Joins (filter p)
joins-filter p xs x = filter-append p xs (x ∷ [])

pub joins-flat_map : {X Y : Type 0} (f : X → List Y) → Joins (flat_map f)
joins-flat_map f xs x = flat_map-append f xs (x ∷ [])

-- of what is made so, more may be made
pub map-joins : {X Y Z : Type 0} (F : List X → List Y) (g : Y → Z) → Joins F → Joins (λ xs. map g (F xs))
map-joins F g joins xs x = ap (map g) (joins xs x) ∙ map-append g (F xs) (F (x ∷ []))

pub filter-joins : {X Y : Type 0} (F : List X → List Y) (p : Y → Bool) → Joins F → Joins (λ xs. filter p (F xs))
filter-joins F p joins xs x = ap (filter p) (joins xs x) ∙ filter-append p (F xs) (F (x ∷ []))

module _ {X Y : Type 0} (F : List X → List Y) (joins : Joins F) where
  -- one more turn
  pub one_more : (items : List X) (i : ℕ) (x : X) → At items i x → (before between after : List Y) → between ≡ before ++ F (take i items) → after ≡ between ++ F (x ∷ [])
      → after ≡ before ++ F (take (i + 1) items)
  one_more items i x here before between after so_far more =
      more
      ∙ ap (λ list. list ++ F (x ∷ [])) so_far
      ∙ append_assoc before (F (take i items)) (F (x ∷ []))
      ∙ ap (λ list. before ++ list) (sym (joins (take i items) x) ∙ ap F (sym (take_item items i x here)))

-- after the last turn
pub all_turns : {X Y : Type 0} (F : List X → List Y) (items : List X) (i : ℕ) → length items ≤ i → (before after : List Y) → after ≡ before ++ F (take i items) → after ≡ before ++ F items
all_turns F items i end before after is = is ∙ ap (λ some. before ++ F some) (take_all i items end)

-- before the first
pub no_turn : {X Y : Type 0} (F : List X → List Y) → F [] ≡ [] → (before : List Y) → before ≡ before ++ F []
no_turn F none before = sym (ap (λ list. before ++ list) none ∙ append-nil before)

-- one number more
pub numbers_more : (first n : ℕ) → numbers_from first (suc n) ≡ numbers_from first n ++ (first + n) ∷ []
numbers_more first zero = let is : first ≡ first + 0 = omega arith in ap (λ k. k ∷ []) is
numbers_more first (suc n) =
    let is : suc first + n ≡ first + suc n = omega arith in
    ap (λ list. first ∷ list) (numbers_more (suc first) n ∙ ap (λ k. numbers_from (suc first) n ++ k ∷ []) is)

pub next_number : (n : ℕ) → numbers_from 0 (n + 1) ≡ numbers_from 0 n ++ n ∷ []
next_number n =
    let one : n + 1 ≡ suc n = omega arith in
    let is : 0 + n ≡ n = omega arith in
    ap (numbers_from 0) one ∙ numbers_more 0 n ∙ ap (λ k. numbers_from 0 n ++ k ∷ []) is

module _ {Y : Type 0} (F : List ℕ → List Y) (joins : Joins F) where
  pub one_number : (n : ℕ) → (before between after : List Y) → between ≡ before ++ F (numbers_from 0 n) → after ≡ between ++ F (n ∷ []) → after ≡ before ++ F (numbers_from 0 (n + 1))
  one_number n before between after so_far more =
      more
      ∙ ap (λ list. list ++ F (n ∷ [])) so_far
      ∙ append_assoc before (F (numbers_from 0 n)) (F (n ∷ []))
      ∙ ap (λ list. before ++ list) (sym (joins (numbers_from 0 n) n) ∙ ap F (sym (next_number n)))

-- a number in the place of an equal one
pub same_number : {Y : Type 0} (F : List ℕ → List Y) (n m : ℕ) → n ≤ m → m ≤ n → (before after : List Y) → after ≡ before ++ F (numbers_from 0 n) → after ≡ before ++ F (numbers_from 0 m)
same_number F n m up down before after is = let same : n ≡ m = omega (arith, up, down) in is ∙ ap (λ k. before ++ F (numbers_from 0 k)) same
