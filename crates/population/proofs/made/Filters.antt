-- What filters leave: where tests agree, of images, in any order of two tests, and of what is made of items that pass.
use Rattle.std.proofs.Common.{◌≡◌, ◌&&◌, List, [], ◌∷◌, map, filter, cond, Contains, Bool, true, false, if◌then◌else◌, refl, sym, ap, ◌∙◌}
use Rattle.std.proofs.Math.Bool.{and-true, and-false, and_comm}
use Rattle.std.proofs.lemmas.List.Elements.{filter_agree}
use Rattle.emc_base.proofs.Members.{contains_head, contains_tail}

-- tests that agree at each member leave the same
pub filter_members : {X : Type 0} (p q : X → Bool) (xs : List X) → ((x : X) → Contains xs x → p x ≡ q x) → filter p xs ≡ filter q xs
filter_members p q [] each = refl
filter_members p q (x ∷ xs) each =
    let here : p x ≡ q x = each x (contains_head x xs) in
    let rest : filter p xs ≡ filter q xs = filter_members p q xs (λ y has. each y (contains_tail x xs y has)) in
    λ k. cond (here k) (x ∷ rest k) (rest k)

-- images that pass are those of the items whose images pass
pub filter_images : {X Y : Type 0} (make : X → Y) (p : Y → Bool) (q : X → Bool) (xs : List X) → ((x : X) → Contains xs x → p (make x) ≡ q x)
    → filter p (map make xs) ≡ map make (filter q xs)
filter_images make p q [] each = refl
filter_images make p q (x ∷ xs) each =
    ap (λ b. cond b (make x ∷ filter p (map make xs)) (filter p (map make xs))) (each x (contains_head x xs))
    ∙ by (q x) (filter_images make p q xs (λ y has. each y (contains_tail x xs y has)))
  where
    by : (b : Bool) → filter p (map make xs) ≡ map make (filter q xs)
        → cond b (make x ∷ filter p (map make xs)) (filter p (map make xs)) ≡ map make (cond b (x ∷ filter q xs) (filter q xs))
    by true rest = ap (λ list. make x ∷ list) rest
    by false rest = rest

module _ {X : Type 0} where
  -- no item passes where none may
  filter_never : (xs : List X) → filter (λ x. false) xs ≡ []
  filter_never [] = refl
  filter_never (x ∷ xs) = filter_never xs

  filter_both : (p q : X → Bool) (xs : List X) → filter p (filter q xs) ≡ filter (λ x. q x && p x) xs
  filter_both p q [] = refl
  filter_both p q (x ∷ xs) = by (q x) (filter_both p q xs)
    where
      by : (b : Bool) → filter p (filter q xs) ≡ filter (λ y. q y && p y) xs
          → filter p (cond b (x ∷ filter q xs) (filter q xs)) ≡ cond (b && p x) (x ∷ filter (λ y. q y && p y) xs) (filter (λ y. q y && p y) xs)
      by true rest = ap (λ list. cond (p x) (x ∷ list) list) rest
      by false rest = rest

  -- the order of two tests doesn't matter
  pub filter_swap : (p q : X → Bool) (xs : List X) → filter p (filter q xs) ≡ filter q (filter p xs)
  filter_swap p q xs = filter_both p q xs ∙ filter_agree (λ x. q x && p x) (λ x. p x && q x) (λ x. and_comm (q x) (p x)) xs ∙ sym (filter_both q p xs)

-- what is made of the items that lack something, and passes, is made of those that pass
pub filter_made : {X Y : Type 0} (make : X → Y) (p : Y → Bool) (q lacks : X → Bool) (xs ys : List X) → filter q xs ≡ ys → ((x : X) → p (make x) ≡ q x)
    → filter p (map make (filter lacks xs)) ≡ map make (filter lacks ys)
filter_made make p q lacks xs ys same each =
    filter_images make p q (filter lacks xs) (λ x has. each x)
    ∙ ap (map make) (filter_swap q lacks xs ∙ ap (filter lacks) same)

-- and it is none, where something else fails
pub filter_made_if : {X Y : Type 0} (make : X → Y) (p : Y → Bool) (q lacks : X → Bool) (xs ys : List X) → filter q xs ≡ ys → (one other : Bool)
    → ((x : X) → p (make x) ≡ (q x && other))
    → filter p (if one then map make (filter lacks xs) else []) ≡ (if one && other then map make (filter lacks ys) else [])
filter_made_if make p q lacks xs ys same false other each = refl
filter_made_if make p q lacks xs ys same true true each = filter_made make p q lacks xs ys same (λ x. each x ∙ and-true (q x))
filter_made_if make p q lacks xs ys same true false each =
    filter_images make p (λ x. false) (filter lacks xs) (λ x has. each x ∙ and-false (q x)) ∙ ap (map make) (filter_never (filter lacks xs))

-- lists that are told alike under a test
pub where_told : {X : Type 0} (b : Bool) (xs ys : List X) → (b ≡ true → xs ≡ ys) → (if b then xs else []) ≡ (if b then ys else [])
where_told true xs ys same = same refl
where_told false xs ys same = refl

pub none_told : {X : Type 0} (b : Bool) (xs : List X) → xs ≡ [] → (if b then xs else []) ≡ []
none_told true xs none = none
none_told false xs none = refl
