-- Lists told by what they are made of, and items found by their names.
use Rattle.std.proofs.Common.{◌≡◌, ◌≢◌, ℕ, suc, List, [], ◌∷◌, length, map, filter, All, Bool, true, slice_get, Option, None, Some, unwrap_or, option_and_then, refl, ap, ◌∙◌, arith}
use Rattle.std.specs.List.{AllZip, enumerate_from}
use Rattle.std.proofs.lemmas.List.Elements.{All-contains, All-head, All-map, All-tail}
use Rattle.emc_base.specs.Lists.{AreApart, At}
use Rattle.emc_base.proofs.Lists.{all_from_members, same_place}
use Rattle.emc_base.proofs.Mapped.{contains_at}
use Rattle.emc_base.proofs.Numbered.{enumerated_at, filter_contains}
use Rattle.groupings.specs.name_places.GivenNames.{first_place}
use Rattle.groupings.proofs.name_places.FirstPlaces.{first_has, first_upto}
use Rattle.data_documents.proofs.sound_names.Apart.{pairs_of_images}

module _ {X Y : Type 0} where
  -- images that stand in another list at the places of their items are this list
  pub images_agree : (f : X → Y) (none : Y) (xs : List X) (ys : List Y) → length ys ≡ length xs → ((i : ℕ) (x : X) → At xs i x → f x ≡ unwrap_or (slice_get ys i) none) → map f xs ≡ ys
  images_agree f none [] [] long agree = refl
  images_agree f none [] (y ∷ ys) long agree = absurd (omega (arith, long))
  images_agree f none (x ∷ xs) [] long agree = absurd (omega (arith, long))
  images_agree f none (x ∷ xs) (y ∷ ys) long agree =
      let head : f x ≡ y = agree 0 x refl in
      let shorter : length ys ≡ length xs = omega (arith, long) in
      let tail : map f xs ≡ ys = images_agree f none xs ys shorter (λ i z here. agree (suc i) z here) in
      λ k. head k ∷ tail k

  -- where each item is given by what tells it, what tells the list gives it
  pub given_back : (P : X → Type 0) (R : X → Y → Type 0) (f : Y → X) → ((x : X) (y : Y) → P x → R x y → f y ≡ x) → (xs : List X) (ys : List Y) → All P xs → AllZip R xs ys → map f ys ≡ xs
  given_back P R f back [] [] all each = refl
  given_back P R f back [] (y ∷ ys) all each = absurd each
  given_back P R f back (x ∷ xs) [] all each = absurd each
  given_back P R f back (x ∷ xs) (y ∷ ys) all each =
      let head : f y ≡ x = back x y (All-head P x xs all) each.0 in
      let tail : map f ys ≡ xs = given_back P R f back xs ys (All-tail P x xs all) each.1 in
      λ k. head k ∷ tail k

  module _ (P : Y → Type 0) (f : ℕ × X → Y) (xs : List X) where
    -- what is so of the image of each numbered item is so of all
    pub each_numbered : ((entry : ℕ × X) → At xs entry.0 entry.1 → P (f entry)) → All P (map f (enumerate_from 0 xs))
    each_numbered holds = All-map P f (enumerate_from 0 xs)
        (all_from_members (λ entry. P (f entry)) (enumerate_from 0 xs) (λ entry has. holds entry (enumerated_at xs entry has)))

    -- and what is so of those that pass a test, of all of these
    pub each_kept : (test : X → Bool) → ((entry : ℕ × X) → At xs entry.0 entry.1 → test entry.1 ≡ true → P (f entry))
        → All P (map f (filter (λ entry. test entry.1) (enumerate_from 0 xs)))
    each_kept test holds =
        let kept = filter (λ entry. test entry.1) (enumerate_from 0 xs) in
        All-map P f kept (all_from_members (λ entry. P (f entry)) kept (λ entry has.
        let stands = filter_contains (λ (one : ℕ × X). test one.1) (enumerate_from 0 xs) entry has in
        holds entry (enumerated_at xs entry stands.0) stands.1))

module _ {X : Type 0} where
  -- what is so of each item is so of the one at a place
  pub all_at : (P : X → Type 0) (xs : List X) (i : ℕ) (x : X) → All P xs → At xs i x → P x
  all_at P xs i x all here = All-contains P xs x all (contains_at xs i x here)

  -- where names are apart, the first place of an item's name is its own
  pub own_first : (name_in : X → List ℕ) (items : List X) (i : ℕ) (item : X) → AreApart (map name_in items) → At items i item → first_place name_in items (name_in item) ≡ Some i
  own_first name_in items i item apart here =
      let first = first_upto name_in items (name_in item) i item here refl in
      let has = first_has name_in items (name_in item) first.0 first.1 in
      let same : first.0 ≡ i = same_place name_in items first.0 i has.0 item (pairs_of_images ◌≢◌ name_in items apart) has.1 here has.2 in
      first.1 ∙ ap Some same

  -- so it is found by its name
  pub named_at : (name_in : X → List ℕ) (items : List X) (i : ℕ) (item : X) → AreApart (map name_in items) → At items i item
      → option_and_then (slice_get items) (first_place name_in items (name_in item)) ≡ Some item
  named_at name_in items i item apart here = ap (option_and_then (slice_get items)) (own_first name_in items i item apart here) ∙ here

  -- a name that no item has has no place
  pub named_nowhere : (name_in : X → List ℕ) (items : List X) (name : List ℕ) → ((i : ℕ) (item : X) → At items i item → name_in item ≢ name) → first_place name_in items name ≡ None
  named_nowhere name_in items name none = by (first_place name_in items name) refl
    where
      by : (found : Option ℕ) → first_place name_in items name ≡ found → found ≡ None
      by None is = refl
      by (Some i) is = let has = first_has name_in items name i is in absurd (none i has.0 has.1 has.2)
