-- Items of lists: of which something holds, behind others, and made one by one.
use Rattle.std.proofs.Common.{◌≡◌, ◌⊎◌, inl, inr, ℕ, ◌+◌, ◌<◌, List, [], ◌∷◌, ◌++◌, length, Any, Contains, Some, refl, sym, ap, subst, ◌∙◌, arith}
use Rattle.std.proofs.lemmas.Bool.{cases_lt}
use Rattle.std.proofs.lemmas.List.{get_or_push, length_push}
use Rattle.std.proofs.Math.ListN.{get_or-append}
use Rattle.std.proofs.lemmas.Option.{get_or_from_slice_get, slice_get_read, slice_get_within}
use Rattle.emc_base.specs.Lists.{At}
use Rattle.emc_base.proofs.Mapped.{contains_at}
use Rattle.table_owners.specs.Made.{Made}

module _ {X : Type 0} where
  -- an item behind others
  pub at_push : (xs : List X) (y : X) (i : ℕ) (z : X) → At (xs ++ y ∷ []) i z → At xs i z ⊎ ((i ≡ length xs) × (y ≡ z))
  at_push xs y i z here = elim (cases_lt i (length xs)) [
    | inl before ↦ inl (slice_get_read xs (length xs) i z refl before (sym (get_or_from_slice_get (xs ++ y ∷ []) i z z here) ∙ get_or-append xs (y ∷ []) z i before))
    | inr behind ↦
        let within : i < length (xs ++ y ∷ []) = slice_get_within (xs ++ y ∷ []) i z here in
        let last : i ≡ length xs = omega (arith, within, behind, length_push xs y) in
        inr (last, sym (get_or_push xs y z i (sym last)) ∙ get_or_from_slice_get (xs ++ y ∷ []) i z z here)
  ]

module _ {X : Type 0} (P : X → Type 0) (xs : List X) where
  -- a member is some item
  pub member_some : (x : X) → Contains xs x → P x → Any P xs
  member_some x has holds = (has.0, x, has.1, has.2, holds)

  -- some item has a place
  pub some_at : Any P xs → (i : ℕ) × (x : X) × At xs i x × P x
  some_at some = (some.0, some.1, slice_get_read xs (length xs) some.0 some.1 refl some.2 (sym some.3), some.4)

  -- an item at a place is some
  pub at_some : (i : ℕ) (x : X) → At xs i x → P x → Any P xs
  at_some i x here holds = member_some x (contains_at xs i x here) holds

module _ {X Y : Type 0} (IsMade : ℕ → X → Y → Type 0) (items : List X) where
  -- nothing is made of no items
  pub none_made : Made IsMade items 0 []
  none_made = record { size = refl; each = λ i item one here made. absurd (let within : i < 0 = slice_get_within [] i one made in omega arith) }

  -- one more is made
  pub one_made : (n : ℕ) (made : List Y) (item : X) (one : Y) → At items n item → IsMade n item one → Made IsMade items n made → Made IsMade items (n + 1) (made ++ one ∷ [])
  one_made n made item one here is so_far = record {
    size = length_push made one ∙ ap (λ k. k + 1) so_far.size;
    each = λ i other y there in_made. elim (at_push made one i y in_made) [
      | inl before ↦ so_far.each i other y there before
      | inr last ↦
          let place : n ≡ i = sym so_far.size ∙ sym last.0 in
          let P : ℕ → Type 0 = λ k. IsMade k other y in
          let same : item ≡ other = by i other place there in
          subst P place (is_too other y same last.1)
    ];
  }
    where
      by : (i : ℕ) (other : X) → n ≡ i → At items i other → item ≡ other
      by i other place there =
          let P : ℕ → Type 0 = λ k. At items k other in
          at_same (subst P (sym place) there)
        where
          at_same : At items n other → item ≡ other
          at_same too = let both : Some item ≡ Some other = sym here ∙ too in cc

      is_too : (other : X) (y : Y) → item ≡ other → one ≡ y → IsMade n other y
      is_too other y same last = subst (λ (z : Y). IsMade n other z) last (subst (λ (x : X). IsMade n x one) same is)
