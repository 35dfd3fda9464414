-- What a map lists of a key that is a number, where so much is known of all that went into it.
use Rattle.std.proofs.Common.{◌≡◌, ℕ, List, filter, All, Contains, sym, subst}
use Rattle.std.specs.BTreeMap.{BTreeMap}
use Rattle.std.specs.FinMap.{nat_cmp-IsAntisymmetric}
use Rattle.std.specs.Global.{Vec}
use Rattle.std.specs.Ordering.{is_eq, nat_cmp}
use Rattle.std.proofs.lemmas.List.Elements.{All-contains}
use Rattle.emc_base.proofs.Lists.{all_from_members}
use Rattle.emc_base.proofs.Numbered.{filter_contains, map_contains}
use Rattle.emc_base.proofs.facts.Orderings.{is_equal}
use Rattle.groupings.specs.item_groups.Groups.{items_at, items_of}

-- what is so of each item with its key is so of what is listed at a key
pub all_listed : {X : Type 0} (P : ℕ → X → Type 0) (groups : BTreeMap ℕ (Vec X)) (keyed : List (ℕ × X))
    → ((key : ℕ) → items_at nat_cmp groups key ≡ items_of nat_cmp keyed key) → All (λ one. P one.0 one.1) keyed → (key : ℕ) → All (P key) (items_at nat_cmp groups key)
all_listed {X} P groups keyed grouped all key = subst (All (P key)) (sym (grouped key)) (all_from_members (P key) (items_of nat_cmp keyed key) each)
  where
    each : (x : X) → Contains (items_of nat_cmp keyed key) x → P key x
    each x has =
        let image = map_contains (λ (one : ℕ × X). one.1) (filter (λ (one : ℕ × X). is_eq (nat_cmp one.0 key)) keyed) x has in
        let kept = filter_contains (λ (one : ℕ × X). is_eq (nat_cmp one.0 key)) keyed image.0 image.1 in
        let same : image.0.0 ≡ key = nat_cmp-IsAntisymmetric image.0.0 key (is_equal (nat_cmp image.0.0 key) kept.1) in
        let so : P image.0.0 image.0.1 = All-contains (λ (one : ℕ × X). P one.0 one.1) keyed image.0 all kept.0 in
        let with_key : P key image.0.1 = subst (λ n. P n image.0.1) same so in
        subst (P key) image.2 with_key
