-- Lists of which something is so at each place, changed at one place, and lists that hold the same at each place.
use Rattle.std.proofs.Common.{◌≡◌, ◌≢◌, ◌⊎◌, ◌↔◌, ⊎_elim, inl, inr, true, false, true≢false, ℕ, suc, ◌+◌, ◌<◌, ◌≤◌, List, [], ◌∷◌, ◌++◌, length, map, set, slice_get, None, length-set, refl, sym, ap, subst, ◌∙◌, zero-add, arith}
use Rattle.std.specs.Global.{Vec}
use Rattle.std.specs.List.{enumerate_from}
use Rattle.std.proofs.lemmas.Bool.{cases_eq, cases_lt}
use Rattle.std.proofs.lemmas.List.{length_push}
use Rattle.std.proofs.lemmas.List.FromFn.{get_or-enumerate_from, length-enumerate_from}
use Rattle.std.proofs.lemmas.Option.{get_or_from_slice_get, none-some, slice_get_past, slice_get_within}
use Rattle.emc_base.specs.Lists.{At}
use Rattle.emc_base.proofs.Lists.{at_once}
use Rattle.emc_base.proofs.Members.{at_push_cases}
use Rattle.member_groups.specs.group_numbers.Numbers.{HoldsEach}
use Rattle.symbolic_rows.specs.Grouped.{AreEmpty}
use Rattle.groupings.proofs.linked_places.Lists.{at_before_set, at_set}

module _ {X : Type 0} (P Q : ℕ → X → Type 0) (k : ℕ) (others : (i : ℕ) (y : X) → i ≢ k → P i y → Q i y) (n : ℕ) (xs : List X) (holds : HoldsEach P n xs) where
  -- another item is put at the place
  pub holds_set : (x now : X) → At xs k x → (P k x → Q k now) → HoldsEach Q n (set xs k now)
  holds_set x now here changed = record { size = length-set xs k now ∙ holds.size; each = λ i y at. by i y at (cases_eq k i) }
    where
      by : (i : ℕ) (y : X) → At (set xs k now) i y → (k ≡ i) ⊎ (k ≢ i) → Q i y
      by i y at (inl same) =
          let There : ℕ → Type 0 = λ place. At (set xs k now) place y in
          let is : now ≡ y = at_once (set xs k now) k now y (at_set xs k now (slice_get_within xs k x here)) (subst There (sym same) at) in
          let Here : ℕ → Type 0 = λ place. Q place y in
          subst Here same (subst (Q k) is (changed (holds.each k x here)))
      by i y at (inr other) = others i y (λ same. other (sym same)) (holds.each i y (at_before_set xs k i now y other at))

  -- nothing stands at the place
  pub holds_past : slice_get xs k ≡ None → HoldsEach Q n xs
  holds_past none = record {
    size = holds.size;
    each = λ i y at. others i y (λ same. let P : ℕ → Type 0 = λ place. At xs place y in none-some y (sym none ∙ subst P same at)) (holds.each i y at);
  }

-- where no place is found, nothing stands
pub nothing_there : {X : Type 0} (xs : List X) (n k : ℕ) → n ≡ length xs → (false ≡ true) ↔ (k < n) → slice_get xs k ≡ None
nothing_there xs n k size found = ⊎_elim
    (λ (inside : k < n). absurd (true≢false (sym (found.1 inside))))
    (λ (outside : n ≤ k). slice_get_past xs k (omega (arith, size, outside)))
    (cases_lt k n)

-- the number of a numbered item is its place
pub number_is : {X : Type 0} (xs : List X) (i : ℕ) (entry : ℕ × X) → At (enumerate_from 0 xs) i entry → i ≡ entry.0
number_is xs i entry at =
    let within : i < length xs = subst (λ n. i < n) (length-enumerate_from 0 xs) (slice_get_within (enumerate_from 0 xs) i entry at) in
    let is = sym (get_or_from_slice_get (enumerate_from 0 xs) i entry entry at) ∙ get_or-enumerate_from 0 xs i entry within in
    sym (zero-add i) ∙ sym (ap (λ e. e.0) is)

-- images that are the same at each place
pub same_images : {X Y Z : Type 0} (f : X → Z) (g : Y → Z) (xs : List X) (ys : List Y) → length xs ≡ length ys
    → ((i : ℕ) (x : X) (y : Y) → At xs i x → At ys i y → f x ≡ g y) → map f xs ≡ map g ys
same_images f g [] [] size each = refl
same_images f g [] (y ∷ ys) size each = absurd (cc)
same_images f g (x ∷ xs) [] size each = absurd (cc)
same_images f g (x ∷ xs) (y ∷ ys) size each =
    let head : f x ≡ g y = each 0 x y refl refl in
    let longer : suc (length xs) ≡ suc (length ys) = size in
    let tail : map f xs ≡ map g ys = same_images f g xs ys (omega (arith, longer)) (λ i a b at_a at_b. each (suc i) a b at_a at_b) in
    λ k. head k ∷ tail k

-- lists that are all empty: none yet, one more, and so many after the last turn
module _ {X : Type 0} where
  pub none_empty : (lists : List (Vec X)) → lists ≡ [] → AreEmpty 0 lists
  none_empty lists none = let Empty : List (Vec X) → Type 0 = AreEmpty 0 in subst Empty (sym none) (record { size = refl; each = λ i one at. absurd cc })

  pub one_more_empty : (n : ℕ) (lists after : List (Vec X)) (one : Vec X) → AreEmpty n lists → after ≡ lists ++ one ∷ [] → one.items ≡ [] → AreEmpty (n + 1) after
  one_more_empty n lists after one so_far is bare =
      let longer : AreEmpty (n + 1) (lists ++ one ∷ []) = record {
        size = length_push lists one ∙ ap (λ m. m + 1) so_far.size;
        each = λ i list at. elim (at_push_cases lists one i list at) [
          | inl old ↦ so_far.each i list old
          | inr last ↦ ap (λ (same : Vec X). same.items) last.1 ∙ bare
        ];
      } in
      let Empty : List (Vec X) → Type 0 = AreEmpty (n + 1) in subst Empty (sym is) longer

  pub all_empty : (n count : ℕ) (lists : List (Vec X)) → n ≤ count → count ≤ n → AreEmpty n lists → AreEmpty count lists
  all_empty n count lists within past so_far =
      let same : n ≡ count = omega (arith, within, past) in
      let Empty : ℕ → Type 0 = λ m. AreEmpty m lists in
      subst Empty same so_far
