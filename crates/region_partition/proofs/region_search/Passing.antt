-- The first of several answers that isn't Equal, in loops and over lists that are joined.
use Rattle.std.proofs.Common.{◌≡◌, ◌+◌, ◌≤◌, ℕ, suc, List, [], ◌∷◌, ◌++◌, drop, flat_map, length, All, true, false, true≢false, Decides, is_eq, refl, sym, ap, ◌∙◌, arith}
use Rattle.std.specs.declared.cmp.Ordering.{Ordering}
use Rattle.std.specs.declared.cmp.Ordering.TheVariants.{Less, Equal, Greater}
use Rattle.std.specs.Ordering.{is_ne, ordering_then}
use Rattle.std.proofs.Math.Seq.{drop-cons}
use Rattle.std.proofs.lemmas.List.{drop_all}
use Rattle.std.proofs.lemmas.List.Elements.{All-cons, All-head, All-nil, All-tail}
use Rattle.std.proofs.lemmas.Option.{get_or_from_slice_get, slice_get_within}
use Rattle.emc_base.specs.Lists.{At}
use Rattle.region_partition.specs.region_search.Standing.{all_cmp}

-- an item and those after it
drop_item : {Z : Type 0} (zs : List Z) (i : ℕ) (z : Z) → At zs i z → drop i zs ≡ z ∷ drop (i + 1) zs
drop_item zs i z here =
    let next : suc i ≡ i + 1 = omega arith in
    drop-cons zs i z (slice_get_within zs i z here) ∙ ap (λ one. one ∷ drop (suc i) zs) (get_or_from_slice_get zs i z z here) ∙ ap (λ n. z ∷ drop n zs) next

pub stops : (one rest : Ordering) → is_ne one ≡ true → ordering_then one rest ≡ one
stops Less rest is = refl
stops Equal rest is = absurd (true≢false (sym is))
stops Greater rest is = refl

pub goes_on : (one rest : Ordering) → is_ne one ≡ false → ordering_then one rest ≡ rest
goes_on Less rest is = absurd (true≢false is)
goes_on Equal rest is = refl
goes_on Greater rest is = absurd (true≢false is)

then_joined : (one two three : Ordering) → ordering_then one (ordering_then two three) ≡ ordering_then (ordering_then one two) three
then_joined Less two three = refl
then_joined Equal two three = refl
then_joined Greater two three = refl

-- both are Equal
Decides-then : {P Q R : Type 0} (one two : Ordering) → Decides (is_eq one) P → Decides (is_eq two) Q → (P → Q → R) → (R → P × Q) → Decides (is_eq (ordering_then one two)) R
Decides-then Less two p q make parts = (λ told. absurd (let none : ⊥ = cc in none), λ r. p.1 (parts r).0)
Decides-then Equal two p q make parts = (λ told. make (p.0 refl) (q.0 told), λ r. q.1 (parts r).1)
Decides-then Greater two p q make parts = (λ told. absurd (let none : ⊥ = cc in none), λ r. p.1 (parts r).0)

module _ {X : Type 0} (cmp : X → Ordering) where
  pub all_cmp-append : (xs ys : List X) → all_cmp cmp (xs ++ ys) ≡ ordering_then (all_cmp cmp xs) (all_cmp cmp ys)
  all_cmp-append [] ys = refl
  all_cmp-append (x ∷ xs) ys = ap (ordering_then (cmp x)) (all_cmp-append xs ys) ∙ then_joined (cmp x) (all_cmp cmp xs) (all_cmp cmp ys)

  -- a loop over lists that are joined
  module _ {Z : Type 0} (f : Z → List X) (zs : List Z) (i : ℕ) where
    pub turn : (z : Z) → At zs i z → all_cmp cmp (flat_map f (drop i zs)) ≡ ordering_then (all_cmp cmp (f z)) (all_cmp cmp (flat_map f (drop (i + 1) zs)))
    turn z here = ap (λ rest. all_cmp cmp (flat_map f rest)) (drop_item zs i z here) ∙ all_cmp-append (f z) (flat_map f (drop (i + 1) zs))

    pub after : length zs ≤ i → all_cmp cmp (flat_map f (drop i zs)) ≡ Equal
    after end = ap (λ rest. all_cmp cmp (flat_map f rest)) (drop_all i zs end)

  -- none differs
  pub Decides-all_cmp : (P : X → Type 0) → ((x : X) → Decides (is_eq (cmp x)) (P x)) → (xs : List X) → Decides (is_eq (all_cmp cmp xs)) (All P xs)
  Decides-all_cmp P each [] = (λ told. All-nil P, λ all. refl)
  Decides-all_cmp P each (x ∷ xs) = Decides-then (cmp x) (all_cmp cmp xs) (each x) (Decides-all_cmp P each xs)
      (λ here rest. All-cons P x xs here rest) (λ all. (All-head P x xs all, All-tail P x xs all))
