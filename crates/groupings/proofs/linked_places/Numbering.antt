-- Places that are given a number, one after another.
use Rattle.std.proofs.Common.{inl, inr, ℕ, ◌<◌, List, [], ◌∷◌, ◌++◌, length, set, Contains, length-set, subst, ◌∙◌}
use Rattle.std.proofs.lemmas.Bool.{cases_eq}
use Rattle.std.proofs.lemmas.List.Elements.{Contains-append_left, Contains-push, Contains-push_cases}
use Rattle.emc_base.specs.Lists.{At}
use Rattle.groupings.specs.linked_places.Joinings.{AreNumbered}
use Rattle.groupings.proofs.linked_places.Lists.{at_set, at_set_other}

-- one place more
pub one_numbered : (number : ℕ) (places before after : List ℕ) (place : ℕ) → place < length after → AreNumbered number places before after
    → AreNumbered number (places ++ place ∷ []) before (set after place number)
one_numbered number places before after place inside so_far = record {
  size = length-set after place number ∙ so_far.size;
  each = λ p has. elim (cases_eq place p) [
    | inl here ↦ let P : ℕ → Type 0 = λ k. At (set after place number) k number in subst P here (at_set after place number inside)
    | inr other ↦ elim (Contains-push_cases places place p has) [
      | inl old ↦ at_set_other after place p number number other (so_far.each p old)
      | inr last ↦ absurd (other last)
    ]
  ];
  kept = λ p own at apart.
      let P : ℕ → Type 0 = λ k. Contains (places ++ place ∷ []) k in
      at_set_other after place p number own (λ here. apart (subst P here (Contains-push places place)))
      (so_far.kept p own at (λ has. apart (Contains-append_left places (place ∷ []) p has)));
}
