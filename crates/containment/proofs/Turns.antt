-- Turns of loops over written regions and their places.
use Rattle.std.proofs.Common.{◌≡◌, ◌+◌, ◌<◌, ℕ, List, [], ◌∷◌, ◌++◌, All, get_or, length, min, take, IsTrue, Some, inl, inr, sym, ap, subst, ◌∙◌, arith}
use Rattle.std.proofs.lemmas.List.{get_or-take, length-take, length_push}
use Rattle.std.proofs.lemmas.List.Elements.{All-push}
use Rattle.std.proofs.lemmas.Option.{get_or_from_slice_get, slice_get-get_or, slice_get_within}
use Rattle.emc_base.specs.Lists.{At}
use Rattle.emc_base.proofs.Loops.{take_item}
use Rattle.emc_base.proofs.Members.{at_push_cases}
use Rattle.member_groups.specs.group_numbers.Numbers.{HoldsEach}
use Rattle.regions.specs.Basis.{Basis}
use Rattle.containment.specs.declared.same_conflicts.rivals.Rivals.{Rivals}
use Rattle.containment.specs.declared.same_conflicts.written.Written.{Written}
use Rattle.containment.specs.same_conflicts.Matching.{rows_alike}
use Rattle.containment.specs.same_conflicts.Rivals.{AreTwoOf}
use Rattle.containment.specs.same_conflicts.Written.{region_in}

-- what is so of all items so far and of the next is so of one more
pub all_further : {X : Type 0} (P : X → Type 0) (xs : List X) (i : ℕ) (x : X) → At xs i x → All P (take i xs) → P x → All P (take (i + 1) xs)
all_further P xs i x here so_far next = subst (All P) (sym (take_item xs i x here)) (All-push P (take i xs) x so_far next)

-- one more item behind, of which something is so at its place
pub holds_more : {X : Type 0} (P : ℕ → X → Type 0) (n : ℕ) (xs after : List X) (x : X) → HoldsEach P n xs → after ≡ xs ++ x ∷ [] → P n x → HoldsEach P (n + 1) after
holds_more {X} P n xs after x so_far is new =
    let longer : HoldsEach P (n + 1) (xs ++ x ∷ []) = record {
      size = length_push xs x ∙ ap (λ m. m + 1) so_far.size;
      each = λ i item at. elim (at_push_cases xs x i item at) [
        | inl old ↦ so_far.each i item old
        | inr last ↦
            let Here : ℕ → Type 0 = λ k. P k item in
            subst Here (sym (last.0 ∙ so_far.size)) (subst (P n) (sym last.1) new)
      ];
    } in
    let Holds : List X → Type 0 = HoldsEach P (n + 1) in subst Holds (sym is) longer

-- the region at an earlier place and the one at this place
pub two_of : (basis : Basis) (written : List Written) (alike : List ℕ) (j i p : ℕ) (one two : Written) (rivals : Rivals) → j < length alike
    → At (take j alike) i p → At written p one → At written (get_or alike j 0) two → rivals.one.now ≡ region_in one → rivals.two.now ≡ region_in two
    → IsTrue (rows_alike basis one two) → AreTwoOf basis written alike rivals
two_of basis written alike j i p one two rivals within at here there is_one is_two same =
    let taken : i < length (take j alike) = slice_get_within (take j alike) i p at in
    let size : length (take j alike) ≡ min j (length alike) = length-take j alike in
    let before : i < j = omega (arith, taken, size) in
    let inside : i < length alike = omega (arith, before, within) in
    let is : get_or alike i p ≡ p = sym (get_or-take j alike i p before) ∙ get_or_from_slice_get (take j alike) i p p at in
    record {
      i = i;
      j = j;
      p = p;
      q = get_or alike j 0;
      one = one;
      two = two;
      before = before;
      first = slice_get-get_or alike i p inside ∙ ap Some is;
      later = slice_get-get_or alike j 0 within;
      here = here;
      there = there;
      is_one = is_one;
      is_two = is_two;
      alike = same;
    }
