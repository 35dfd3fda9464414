-- Disagreements of a region by its fragments.
use Rattle.std.proofs.Common.{◌≡◌, ◌&&◌, ℕ, List, bytes_eq, find, None, Some, Bool, true, false, IsTrue, refl}
use Rattle.std.specs.List.{list_any}
use Rattle.std.proofs.lemmas.Bool.{and_from, and_right, false_from_ne_true, or_from, or_left, or_right}
use Rattle.std.proofs.lemmas.List.Folds.{list_any-from_Any, list_any_none}
use Rattle.std.proofs.lemmas.Slice.Eq.{bytes_eq-Decides}
use Rattle.emc_base.proofs.Lists.{all_from_members}
use Rattle.round_trip.specs.Words.{Fragment, LinkFragment}
use Rattle.schema_laws.proofs.state_demand.lists.Lists.{any_of}
use Rattle.regions.specs.Basis.{Basis}
use Rattle.regions.specs.declared.pattern.Focus.TheVariants as focus
use Rattle.regions.specs.declared.region.Region.{Region}
use Rattle.regions.proofs.region_laws.pattern.Choices.{found_passes, none_passes}
use Rattle.region_states.specs.conflicts.Facts.{differs_at, differs_at_links, disagrees_at}

-- an item that is found, by its place, and that there is none at any place where none is found
module _ {X : Type 0} (place_of : X → List ℕ) (differs : X → Bool) (xs : List X) where
  abbrev at_place : List ℕ → X → Bool
  at_place place x = bytes_eq (place_of x) place && differs x

  pub differs_there : (x : X) → find differs xs ≡ Some x → list_any (at_place (place_of x)) xs ≡ true
  differs_there x is =
      let found = found_passes differs xs x is in
      list_any-from_Any (at_place (place_of x)) xs (any_of (λ one. at_place (place_of x) one ≡ true) xs x found.0
      (and_from (bytes_eq (place_of x) (place_of x)) (differs x) ((bytes_eq-Decides (place_of x) (place_of x)).1 refl) found.1))

  pub differs_nowhere : find differs xs ≡ None → (place : List ℕ) → list_any (at_place place) xs ≡ false
  differs_nowhere none place = list_any_none (at_place place) xs (all_from_members (λ x. at_place place x ≡ false) xs
      (λ x has. and_right (bytes_eq (place_of x) place) (differs x) (false_from_ne_true (differs x) (none_passes differs xs x none has))))

module _ (basis : Basis) (region : Region) where
  abbrev by_fragments : List ℕ → Bool
  by_fragments place = list_any (λ fragment. bytes_eq fragment.place place && differs_at basis region fragment) basis.schema.mapping.fragments

  abbrev by_links : List ℕ → Bool
  by_links place = list_any (λ fragment. bytes_eq fragment.place place && differs_at_links basis region fragment) basis.schema.mapping.links

  pub fragment_told : (fragment : Fragment) → find (differs_at basis region) basis.schema.mapping.fragments ≡ Some fragment
      → IsTrue (disagrees_at basis (focus.Entity region) fragment.place)
  fragment_told fragment is = or_left (by_fragments fragment.place) (by_links fragment.place)
      (differs_there (λ (one : Fragment). one.place) (differs_at basis region) basis.schema.mapping.fragments fragment is)

  pub link_told : (fragment : LinkFragment) → find (differs_at_links basis region) basis.schema.mapping.links ≡ Some fragment
      → IsTrue (disagrees_at basis (focus.Entity region) fragment.place)
  link_told fragment is = or_right (by_fragments fragment.place) (by_links fragment.place)
      (differs_there (λ (one : LinkFragment). one.place) (differs_at_links basis region) basis.schema.mapping.links fragment is)

  pub none_told : find (differs_at basis region) basis.schema.mapping.fragments ≡ None → find (differs_at_links basis region) basis.schema.mapping.links ≡ None
      → (place : List ℕ) → disagrees_at basis (focus.Entity region) place ≡ false
  none_told none_of none_link place = or_from (by_fragments place) (by_links place)
      (differs_nowhere (λ (one : Fragment). one.place) (differs_at basis region) basis.schema.mapping.fragments none_of place)
      (differs_nowhere (λ (one : LinkFragment). one.place) (differs_at_links basis region) basis.schema.mapping.links none_link place)
