-- The items of a key: which they are.
use Rattle.std.proofs.Common.{List, filter, Bool, Contains, ap, subst, ◌≡◌}
use Rattle.std.specs.Cmp.{tied_itself}
use Rattle.std.specs.Cmp.Lexicographic.{slice_cmp}
use Rattle.std.specs.Ordering.{is_eq}
use Rattle.emc_base.proofs.Mapped.{contains_filter, contains_map}
use Rattle.emc_base.proofs.Numbered.{filter_contains, map_contains}
use Rattle.emc_base.specs.Order.{value_cmp}
use Rattle.emc_base.specs.OrderLaws.{key_cmp_apart, key_cmp_total}
use Rattle.emc_base.proofs.facts.Orderings.{is_equal}
use Rattle.edm_types.specs.Types.{Value}
use Rattle.keyed_rows.specs.row_groups.KeyGroups.{with_key}

module _ {X : Type 0} (keyed : List (List Value × X)) (key : List Value) where
  abbrev has_key : List Value × X → Bool
  has_key one = is_eq (slice_cmp value_cmp one.0 key)

  abbrev item : List Value × X → X
  item one = one.1

  -- an item that has the key stands among those of the key
  pub key_has : (x : X) → Contains keyed (key, x) → Contains (with_key keyed key) x
  key_has x stands = contains_map item (filter has_key keyed) (key, x) (contains_filter has_key keyed (key, x) stands (ap is_eq (tied_itself key_cmp_total key)))

  -- and what stands there has the key
  pub has_its_key : (x : X) → Contains (with_key keyed key) x → Contains keyed (key, x)
  has_its_key x stands =
      let found = map_contains item (filter has_key keyed) x stands in
      let passed = filter_contains has_key keyed found.0 found.1 in
      let same : found.0.0 ≡ key = key_cmp_apart found.0.0 key (is_equal (slice_cmp value_cmp found.0.0 key) passed.1) in
      subst (Contains keyed) (λ i. (same i, found.2 i)) passed.0
