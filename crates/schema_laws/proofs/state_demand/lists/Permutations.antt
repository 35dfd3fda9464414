-- Lists without repeats that have the same members are the same in some order.
use Rattle.std.proofs.Common.{◌≡◌, ◌≢◌, ⊎_elim, ℕ, suc, ◌+◌, ◌<◌, ◌≤◌, List, [], ◌∷◌, length, get_or, AllPairs, Contains, sym, subst, ◌∙◌, remove, arith, IsPermutation}
use Rattle.std.proofs.lemmas.Bool.{cases_lt}
use Rattle.std.proofs.lemmas.List.Edits.{get_or-remove_below, get_or-remove_above, length-remove}
use Rattle.std.proofs.lemmas.List.Quantifiers.{all_pairs_remove}
use Rattle.std.proofs.lemmas.List.Sorted.{IsPermutation-refl, IsPermutation-sym, IsPermutation-cons, IsPermutation-trans, IsPermutation-remove, Contains-permutation}
use Rattle.schema_laws.proofs.state_demand.lists.Lists.{head_stands, member_cases, none_in_nil, tail_stands}
pub use Rattle.emc_base.proofs.Members.{apart_tail as rest_apart}

module _ {X : Type 0} where
  -- the head is none of the rest
  pub head_apart : (x : X) (xs : List X) (y : X) → AllPairs (λ a b. a ≢ b) (x ∷ xs) → Contains xs y → x ≢ y
  head_apart x xs y apart has same = apart 0 (suc has.0) y (omega arith) (omega arith) (same ∙ sym has.2)

  -- what is removed from a list without repeats is gone
  removed_gone : (xs : List X) (i : ℕ) (x : X) → i < length xs → get_or xs i x ≡ x → AllPairs (λ a b. a ≢ b) xs → Contains (remove xs i) x → ⊥
  removed_gone xs i x within is apart has =
      let j = has.0 in
      let shorter = length-remove xs i within in
      let j_in : j < length (remove xs i) = has.1 in
      ⊎_elim
      (λ (below : j < i). apart j i x below within (sym (get_or-remove_below xs i x j below within) ∙ (has.2 ∙ sym is)))
      (λ (above : i ≤ j). apart i (j + 1) x (omega arith) (omega arith) (is ∙ (sym has.2 ∙ get_or-remove_above xs i x j above within)))
      (cases_lt j i)

  -- the same members, and no repeats in either list
  pub same_members_permute : (xs ys : List X) → AllPairs (λ a b. a ≢ b) xs → AllPairs (λ a b. a ≢ b) ys
      → ((x : X) → Contains xs x → Contains ys x) → ((x : X) → Contains ys x → Contains xs x) → IsPermutation xs ys
  same_members_permute [] [] apart others forth back = IsPermutation-refl []
  same_members_permute [] (y ∷ ys) apart others forth back = absurd (none_in_nil y (back y (head_stands y ys)))
  same_members_permute (x ∷ xs) ys apart others forth back =
      let at = forth x (head_stands x xs) in
      let i = at.0 in
      let within : i < length ys = at.1 in
      let rest = remove ys i in
      let moved : IsPermutation ys (x ∷ rest) = IsPermutation-remove ys i x within (sym at.2) in
      let moved_back : IsPermutation (x ∷ rest) ys = IsPermutation-sym ys (x ∷ rest) moved in
      let to_rest : (z : X) → Contains xs z → Contains rest z = λ z has. ⊎_elim
      (λ (same : z ≡ x). absurd (head_apart x xs z apart has (sym same)))
      (λ stays. stays)
      (member_cases x rest z (Contains-permutation ys (x ∷ rest) z moved (forth z (tail_stands x xs z has)))) in
      let from_rest : (z : X) → Contains rest z → Contains xs z = λ z has. ⊎_elim
      (λ (same : z ≡ x). absurd (removed_gone ys i x within at.2 others (subst (Contains rest) same has)))
      (λ stays. stays)
      (member_cases x xs z (back z (Contains-permutation (x ∷ rest) ys z moved_back (tail_stands x rest z has)))) in
      let below : IsPermutation xs rest = same_members_permute xs rest (rest_apart x xs apart) (all_pairs_remove (λ a b. a ≢ b) ys i within others) to_rest from_rest in
      IsPermutation-trans (x ∷ xs) (x ∷ rest) ys (IsPermutation-cons x xs rest below) moved_back
