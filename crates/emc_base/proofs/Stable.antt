-- Facts that can be tested hold where they can't but hold.
use Rattle.std.proofs.Common.{◌≡◌, ◌≢◌, ◌⊎◌, ⊎_elim, inl, inr, ℕ, zero, suc, ◌<◌, Bool, true, false, List, Contains, Option, Some, None, refl, ap, subst, arith}
use Rattle.std.specs.Bool.{Decides}
use Rattle.std.specs.Set.{is_member}
use Rattle.std.specs.Str.{bytes_eq}
use Rattle.std.proofs.lemmas.Bool.{both_ways, cases_eq}
use Rattle.std.proofs.lemmas.List.Elements.{All-contains}
use Rattle.std.proofs.lemmas.Map.Made.{is_member-Decides}
use Rattle.std.proofs.lemmas.Slice.Eq.{bytes_eq-Decides}
use Rattle.emc_base.specs.Lists.{HoldsEachOnce}
use Rattle.emc_base.proofs.Lists.{all_from_members}

-- what a test tells
pub stable : {P : Type 0} (answer : Bool) → Decides answer P → ¬ (¬ P) → P
stable true tells never = tells.0 refl
stable false tells never = absurd (never (λ holds. both_ways false refl (tells.1 holds)))

-- what a test tells is so, or isn't
pub told : {P : Type 0} (answer : Bool) → Decides answer P → P ⊎ (¬ P)
told true tells = inl (tells.0 refl)
told false tells = inr (λ holds. both_ways false refl (tells.1 holds))

-- what is so or isn't
pub settled : {P : Type 0} → P ⊎ (¬ P) → ¬ (¬ P) → P
settled {P} either never = ⊎_elim (λ (holds : P). holds) (λ (not : ¬ P). absurd (never not)) either

-- names are equal
pub same_names : (one other : List ℕ) → ¬ (one ≢ other) → one ≡ other
same_names one other = stable (bytes_eq one other) (bytes_eq-Decides one other)

-- places are equal, as far as there are any
pub same_places : (one other : Option ℕ) → ¬ (one ≢ other) → one ≡ other
same_places None None never = refl
same_places None (Some j) never = absurd (never (λ same. absurd cc))
same_places (Some i) None never = absurd (never (λ same. absurd cc))
same_places (Some i) (Some j) never = ⊎_elim
    (λ (same : i ≡ j). ap Some same)
    (λ (other : i ≢ j). absurd (never (λ same. other cc)))
    (cases_eq i j)

-- a name stands in a list
pub has_name : (names : List (List ℕ)) (name : List ℕ) → ¬ (¬ Contains names name) → Contains names name
has_name names name = stable (is_member bytes_eq names name) (is_member-Decides bytes_eq-Decides names name)

-- a list has each of some names once
pub has_each : (these names : List (List ℕ)) → ¬ (¬ HoldsEachOnce these names) → HoldsEachOnce these names
has_each these names never = record {
  once = λ i j d before within same. never (λ holds. holds.once i j d before within same);
  all = all_from_members (Contains names) these (λ name has. has_name names name (λ lacks. never (λ holds. lacks (All-contains (Contains names) these name holds.all has))));
  only = all_from_members (Contains these) names (λ name has. has_name these name (λ lacks. never (λ holds. lacks (All-contains (Contains these) names name holds.only has))));
}

-- some number below a bound has a property that is so or isn't, or none has
pub below : (P : ℕ → Type 0) → ((j : ℕ) → P j ⊎ (¬ P j)) → (n : ℕ) → ((j : ℕ) × P j) ⊎ ((j : ℕ) → j < n → ¬ P j)
below P either zero = inr (λ j within. absurd (omega arith))
below P either (suc n) = ⊎_elim
    (λ (here : P n). inl (n, here))
    (λ (not : ¬ P n). ⊎_elim
    (λ (found : (j : ℕ) × P j). inl found)
    (λ (none : (j : ℕ) → j < n → ¬ P j). inr (λ j within holds. ⊎_elim
    (λ (last : j ≡ n). not (subst P last holds))
    (λ (other : j ≢ n). none j (omega arith) holds)
    (cases_eq j n)))
    (below P either n))
    (either n)
