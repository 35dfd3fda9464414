-- What holds of some item of a list, or of none, and how many partners there are where it can't be otherwise.
use Rattle.std.proofs.Common.{◌≡◌, ◌≢◌, ◌⊎◌, ⊎_elim, inl, inr, ℕ, zero, suc, ◌<◌, List, [], ◌∷◌, length, get_or, Any, All, Bool, true, false, refl, sym, subst, arith}
use Rattle.std.specs.Cmp.Lexicographic.{slice_cmp}
use Rattle.std.specs.Ordering.{eq_by_cmp}
use Rattle.std.proofs.lemmas.Bool.{both_ways, cases_eq}
use Rattle.std.proofs.lemmas.Option.{slice_get-get_or}
use Rattle.emc_base.specs.Lists.{At, AtMostOne}
use Rattle.emc_base.specs.Order.{value_cmp}
use Rattle.emc_base.proofs.facts.Keys.{tied_keys}
use Rattle.round_trip.specs.Words.{Value, Link, Mult, HasCount}
use Rattle.edm_types.specs.declared.model.Mult.TheVariants.{One, ZeroOrOne, Many}

-- it holds, or it doesn't
abbrev pub Decided : Type 0 → Type 0
Decided P = P ⊎ ¬ P

-- two keys are equal or they aren't
pub keys_decided : (one other : List Value) → Decided (one ≡ other)
keys_decided one other = by (eq_by_cmp (slice_cmp value_cmp) one other) refl
  where
    by : (test : Bool) → eq_by_cmp (slice_cmp value_cmp) one other ≡ test → Decided (one ≡ other)
    by true is = inl ((tied_keys one other).0 is)
    by false is = inr (λ same. both_ways (eq_by_cmp (slice_cmp value_cmp) one other) is ((tied_keys one other).1 same))

module _ {X : Type 0} (P : X → Type 0) where
  pub any_decided : ((x : X) → Decided (P x)) → (xs : List X) → Decided (Any P xs)
  any_decided each [] = inr (λ some. let below : some.0 < 0 = some.2 in absurd (omega arith))
  any_decided each (x ∷ xs) = by (each x) (any_decided each xs)
    where
      neither : ¬ P x → ¬ Any P xs → ¬ Any P (x ∷ xs)
      neither not none (zero, y, within, is, holds) = not (subst P (sym is) holds)
      neither not none (suc k, y, within, is, holds) = none (k, y, omega arith, is, holds)

      by : Decided (P x) → Decided (Any P xs) → Decided (Any P (x ∷ xs))
      by (inl holds) rest = inl (0, x, omega arith, refl, holds)
      by (inr not) (inl some) = inl (suc some.0, some.1, (let within : some.0 < length xs = some.2 in omega arith), some.3, some.4)
      by (inr not) (inr none) = inr (neither not none)

  -- from what holds at each place
  pub all_at : (xs : List X) → ((i : ℕ) (x : X) → At xs i x → P x) → All P xs
  all_at xs each i d within = each i (get_or xs i d) (slice_get-get_or xs i d within)

-- one at most, where it can't be otherwise
pub at_most_one : {X : Type 0} (P : X → Type 0) (xs : List X) → ¬ ¬ AtMostOne P xs → AtMostOne P xs
at_most_one P xs must i j x y here there one other = ⊎_elim
    (λ (same : i ≡ j). same)
    (λ (differ : i ≢ j). absurd (must (λ once. differ (once i j x y here there one other))))
    (cases_eq i j)

-- as many partners as the multiplicity allows, where it can't be otherwise
pub must_count : (P : Link → Type 0) → ((link : Link) → Decided (P link)) → (links : List Link) (mult : Mult) → ¬ ¬ HasCount mult P links → HasCount mult P links
must_count P each links One must = (
  ⊎_elim (λ (some : Any P links). some) (λ none. absurd (must (λ count. none count.0))) (any_decided P each links),
  at_most_one P links (λ not. must (λ count. not count.1)),
)
must_count P each links ZeroOrOne must = at_most_one P links must
must_count P each links Many must = tt
