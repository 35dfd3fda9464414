-- What a map has no number of.
use Rattle.std.proofs.Common.{◌≡◌, ℕ, Contains, Option, Some, None, refl, sym, subst}
use Rattle.std.specs.BTreeMap.{BTreeMap, get, keys}
use Rattle.std.specs.Ordering.{is_eq}
use Rattle.std.proofs.lemmas.Map.Entries.{place_from_lookup}
use Rattle.emc_base.specs.Order.{value_cmp}
use Rattle.emc_base.specs.OrderLaws.{value_cmp_apart}
use Rattle.emc_base.proofs.Mapped.{contains_at, contains_map}
use Rattle.emc_base.proofs.facts.Orderings.{is_equal}
use Rattle.round_trip.specs.Words.{Value}

-- a value that is none of the keys has no number
pub none_known : (numbers : BTreeMap Value ℕ) (value : Value) → ¬ Contains (keys numbers) value → get value_cmp numbers value ≡ None
none_known numbers value none = by (get value_cmp numbers value) refl
  where
    by : (found : Option ℕ) → get value_cmp numbers value ≡ found → get value_cmp numbers value ≡ None
    by None is = is
    by (Some n) is =
        let place = place_from_lookup (λ key. is_eq (value_cmp value key)) numbers.entries n is in
        let same : value ≡ place.1 = value_cmp_apart value place.1 (is_equal (value_cmp value place.1) place.3) in
        let has : Contains (keys numbers) place.1 =
        contains_map (λ (e : Value × ℕ). e.0) numbers.entries (place.1, n) (contains_at numbers.entries place.0 (place.1, n) place.2) in
        absurd (none (subst (Contains (keys numbers)) (sym same) has))
