-- Where no writer breaks a rule: writers of one table have one owner, and those of one table and owner pair the key alike.
use Rattle.std.proofs.Common.{◌≡◌, ◌≢◌, ⊎_elim, ℕ, ◌<◌, ◌≤◌, List, Bool, true, false, refl, sym, subst, arith}
use Rattle.std.proofs.lemmas.Bool.{both_ways, cases_eq, cases_lt}
use Rattle.emc_base.proofs.Lists.{at_once}
use Rattle.emc_base.specs.Lists.{At}
use Rattle.table_owners.specs.table_writers.Writers.{HasOtherOwner, HoldSame, IsOtherPairing, PairsOtherwise}
use Rattle.table_owners.specs.declared.table_writers.writer.Owner.{Owner}
use Rattle.table_owners.specs.declared.table_writers.writer.Writer.{Writer}
use Rattle.table_owners.proofs.table_writers.Orders.{owner_eq, tells_owner}
use Rattle.table_owners.proofs.table_writers.Pairs.{same_itself, same_or_other}

-- owners that aren't two are one
not_two : (o p : Owner) → ¬ (o ≢ p) → o ≡ p
not_two o p never = by (owner_eq o p) refl
  where
    by : (b : Bool) → owner_eq o p ≡ b → o ≡ p
    by true is = (tells_owner o p).0 is
    by false is = absurd (never (λ same. both_ways (owner_eq o p) is ((tells_owner o p).1 same)))

module _ (writers : List Writer) where
  -- what holds of an earlier writer and a later one, and of each and itself, and either way round, holds of any two
  any_two : (R : Writer → Writer → Type 0) → ((x : Writer) → R x x) → ((x y : Writer) → R x y → R y x) → (i j : ℕ) (one other : Writer) → At writers i one → At writers j other
      → (i < j → R one other) → (j < i → R other one) → R one other
  any_two R itself turned i j one other at_i at_j earlier later = ⊎_elim
      (λ (same : i ≡ j). subst (R one) (at_once writers j one other (subst (λ (k : ℕ). At writers k one) same at_i) at_j) (itself one))
      (λ (apart : i ≢ j). ⊎_elim
      (λ (before : i < j). earlier before)
      (λ (after : j ≤ i). turned other one (later (omega arith)))
      (cases_lt i j))
      (cases_eq i j)

  -- where no table has two owners, writers of one table have one owner
  pub one_owner : ((k : ℕ) → ¬ HasOtherOwner writers k) → (i j : ℕ) (one other : Writer) → At writers i one → At writers j other
      → one.table ≡ other.table → one.owner ≡ other.owner
  one_owner never i j one other at_i at_j table =
      any_two (λ x y. x.owner ≡ y.owner) (λ x. refl) (λ x y same. sym same) i j one other at_i at_j
      (λ before. not_two one.owner other.owner (λ two. never j (record { i = i; one = one; later = other; before = before; there = at_i; here = at_j; table = table; other = two })))
      (λ before. not_two other.owner one.owner (λ two. never i (record { i = j; one = other; later = one; before = before; there = at_j; here = at_i; table = sym table; other = two })))

  -- where none pairs the key otherwise, writers of one table and owner pair it alike
  pub one_pairing : ((k : ℕ) → ¬ PairsOtherwise writers k) → (i j : ℕ) (one other : Writer) → At writers i one → At writers j other
      → one.table ≡ other.table → one.owner ≡ other.owner → HoldSame one.key other.key
  one_pairing never i j one other at_i at_j table owner =
      any_two (λ x y. HoldSame x.key y.key) (λ x. same_itself x.key) (λ x y same. (same.1, same.0)) i j one other at_i at_j
      (λ before. ⊎_elim (λ (same : HoldSame one.key other.key). same)
      (λ (differ : IsOtherPairing one.key other.key).
      absurd (never j (record { i = i; one = one; later = other; before = before; there = at_i; here = at_j; table = table; owner = owner; other = differ })))
      (same_or_other one.key other.key))
      (λ before. ⊎_elim (λ (same : HoldSame other.key one.key). same)
      (λ (differ : IsOtherPairing other.key one.key).
      absurd (never i (record { i = j; one = other; later = one; before = before; there = at_j; here = at_i; table = sym table; owner = sym owner; other = differ })))
      (same_or_other other.key one.key))
