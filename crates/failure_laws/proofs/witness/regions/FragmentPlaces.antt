-- Each fragment has a place of its own.
use Rattle.std.proofs.Common.{◌≡◌, ◌≢◌, ℕ, List, ◌++◌, map, Contains, subst}
use Rattle.emc_base.specs.Lists.{AreApart}
use Rattle.emc_base.proofs.Mapped.{contains_map}
use Rattle.emc_base.proofs.facts.Pairs.{apart_between}
use Rattle.round_trip.specs.Words.{Fragment, LinkFragment}
use Rattle.schema_laws.proofs.state_demand.lists.Lists.{same_by_key}
use Rattle.schema_laws.proofs.state_demand.owners.Owners.{pairs_from_map}
use Rattle.schema_laws.proofs.sound_demand.owners.Pairing.{apart_first, apart_second}
use Rattle.regions.specs.Basis.{Basis}
use Rattle.regions.specs.region_laws.IsBasis.{IsBasis}

module _ (basis : Basis) (is : IsBasis basis) where
  abbrev name : Fragment → List ℕ
  name fragment = fragment.place

  abbrev link_name : LinkFragment → List ℕ
  link_name fragment = fragment.place

  abbrev names : List (List ℕ)
  names = map name basis.schema.mapping.fragments

  abbrev link_names : List (List ℕ)
  link_names = map link_name basis.schema.mapping.links

  module _ (fragment : Fragment) (mapped : Contains basis.schema.mapping.fragments fragment) where
    pub one_named : (other : Fragment) → Contains basis.schema.mapping.fragments other → fragment.place ≡ other.place → fragment ≡ other
    one_named other has same = same_by_key name basis.schema.mapping.fragments fragment other
        (pairs_from_map (λ (x y : List ℕ). x ≢ y) name basis.schema.mapping.fragments (apart_first names link_names is.sound.mapping.places)) mapped has same

    -- no fragment of links has it
    pub named_apart : (other : LinkFragment) → Contains basis.schema.mapping.links other → fragment.place ≡ other.place → ⊥
    named_apart other has same = apart_between names link_names other.place is.sound.mapping.places
        (subst (Contains names) same (contains_map name basis.schema.mapping.fragments fragment mapped)) (contains_map link_name basis.schema.mapping.links other has)

  pub one_link_named : (fragment other : LinkFragment) → Contains basis.schema.mapping.links fragment → Contains basis.schema.mapping.links other → fragment.place ≡ other.place
      → fragment ≡ other
  one_link_named fragment other mapped has same = same_by_key link_name basis.schema.mapping.links fragment other
      (pairs_from_map (λ (x y : List ℕ). x ≢ y) link_name basis.schema.mapping.links (apart_second names link_names is.sound.mapping.places)) mapped has same
