-- What is found in a list, and what is found for each item of another.
use Rattle.std.proofs.Common.{◌≡◌, ◌==◌, inl, inr, Bool, true, false, true≢false, cond, List, [], ◌∷◌, ◌++◌, append-nil, Contains, Option, Some, None, refl, sym, ap, subst, ◌∙◌}
use Rattle.std.specs.List.{AllZip, cons_option, filter_map, find}
use Rattle.std.proofs.lemmas.List.Elements.{filter_map-append}
use Rattle.std.proofs.lemmas.Bool.Decides.{Decides-eqb}
use Rattle.emc_base.proofs.Members.{contains_cons_cases, contains_head, contains_nil, contains_tail}
use Rattle.round_trip.specs.Words.{ColId, Pair}

-- where something is found for each item, it stands beside it
pub zip_found : {X Y : Type 0} (R : X → Y → Type 0) (f : X → Option Y) (xs : List X) → ((x : X) → Contains xs x → (y : Y) × (f x ≡ Some y) × R x y) → AllZip R xs (filter_map f xs)
zip_found R f [] each = tt
zip_found {X} {Y} R f (x ∷ xs) each =
    let one = each x (contains_head x xs) in
    subst (λ (found : Option Y). AllZip R (x ∷ xs) (cons_option found (filter_map f xs))) (sym one.1) (one.2, zip_found R f xs (λ y has. each y (contains_tail x xs y has)))

-- among pairs of which one has the column, one with the column is found
pub pair_found : (col : ColId) (pairs : List Pair) (pair : Pair) → Contains pairs pair → pair.col ≡ col
    → (found : Pair) × (find (λ (other : Pair). other.col.index == col.index) pairs ≡ Some found) × Contains pairs found × (found.col ≡ col)
pair_found col [] pair has same = absurd (contains_nil pair has)
pair_found col (first ∷ rest) pair has same = by (first.col.index == col.index) refl (λ there. pair_found col rest pair there same)
  where
    test : Pair → Bool
    test other = other.col.index == col.index

    behind : (first.col.index == col.index) ≡ false → Contains (first ∷ rest) pair → Contains rest pair
    behind is there = elim (contains_cons_cases first rest pair there) [
      | inl here ↦
          absurd (true≢false (sym ((Decides-eqb first.col.index col.index).1
          (ap (λ (other : Pair). other.col.index) (sym here) ∙ ap (λ (id : ColId). id.index) same)) ∙ is))
      | inr later ↦ later
    ]

    by : (b : Bool) → (first.col.index == col.index) ≡ b → (Contains rest pair → (found : Pair) × (find test rest ≡ Some found) × Contains rest found × (found.col ≡ col))
        → (found : Pair) × (find test (first ∷ rest) ≡ Some found) × Contains (first ∷ rest) found × (found.col ≡ col)
    by true is later = (
      first,
      ap (λ (b : Bool). cond b (Some first) (find test rest)) is,
      contains_head first rest,
      (let index : first.col.index ≡ col.index = (Decides-eqb first.col.index col.index).0 is in λ i. record { index = index i }),
    )
    by false is later =
        let found = later (behind is has) in
        (found.0, ap (λ (b : Bool). cond b (Some first) (find test rest)) is ∙ found.1, contains_tail first rest found.0 found.2, found.3)

module _ {X Y : Type 0} (f : X → Option Y) (xs : List X) (x : X) (so_far : List Y) (is : so_far ≡ filter_map f xs) where
  -- something more is found
  pub one_found : (y : Y) → f x ≡ Some y → so_far ++ y ∷ [] ≡ filter_map f (xs ++ x ∷ [])
  one_found y found =
      ap (λ (ys : List Y). ys ++ y ∷ []) is ∙ sym (filter_map-append f xs (x ∷ []) ∙ ap (λ (o : Option Y). filter_map f xs ++ cons_option o []) found)

  -- nothing more is found
  pub nothing_found : f x ≡ None → so_far ≡ filter_map f (xs ++ x ∷ [])
  nothing_found none = is ∙ sym (filter_map-append f xs (x ∷ []) ∙ ap (λ (o : Option Y). filter_map f xs ++ cons_option o []) none ∙ append-nil (filter_map f xs))
