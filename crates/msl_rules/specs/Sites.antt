-- The fragments of a mapping document one after the other, each with what stands above it and its place.
-- Source: MSL version 3, EntitySetMapping, EntityTypeMapping, MappingFragment and AssociationSetMapping.
use Rattle.std.specs.Prelude.{ℕ, List, [], ◌∷◌, map, codes}
use Rattle.std.specs.List.{enumerate_from, flat_map}
use Rattle.json_form.specs.declared.pointer.Step.{Step}
use Rattle.json_form.specs.declared.pointer.Step.TheVariants.{Member, Item}
use Rattle.msl_rules.specs.declared.msl_lists.raw.RawFragment.{RawFragment}
use Rattle.msl_rules.specs.declared.msl_lists.raw.RawTypeMapping.{RawTypeMapping}
use Rattle.msl_rules.specs.declared.msl_lists.raw.RawSetMapping.{RawSetMapping}
use Rattle.msl_rules.specs.declared.msl_lists.raw.RawLinkMapping.{RawLinkMapping}
use Rattle.msl_rules.specs.declared.msl_lists.raw.RawMapping.{RawMapping}

-- a MappingFragment
pub record Site : Type 0 where
  pub place : List Step
  pub set : RawSetMapping
  pub types : RawTypeMapping
  pub fragment : RawFragment

-- an AssociationSetMapping
pub record LinkSite : Type 0 where
  pub place : List Step
  pub link : RawLinkMapping

-- the item of a list at a member, and what it leads to
abbrev pub at_item : List ℕ → ℕ → List Step → List Step
at_item member k rest = Member member ∷ Item k ∷ rest

-- the place of a fragment, of an association's mapping
abbrev pub fragment_place : ℕ → ℕ → ℕ → List Step
fragment_place i j k =
    Member (codes "EntityContainerMapping") ∷ at_item (codes "EntitySetMapping") i (at_item (codes "EntityTypeMapping") j (at_item (codes "MappingFragment") k []))

abbrev pub link_place : ℕ → List Step
link_place i = Member (codes "EntityContainerMapping") ∷ at_item (codes "AssociationSetMapping") i []

-- the fragments of a type mapping, of a set's mapping, and of all sets
abbrev pub sites_of_types : ℕ → RawSetMapping → ℕ → RawTypeMapping → List Site
sites_of_types i set j types = map (λ k. record { place = fragment_place i j k.0; set = set; types = types; fragment = k.1 }) (enumerate_from 0 types.fragments)

abbrev pub sites_of_set : ℕ → RawSetMapping → List Site
sites_of_set i set = flat_map (λ j. sites_of_types i set j.0 j.1) (enumerate_from 0 set.types)

abbrev pub sites : RawMapping → List Site
sites raw = flat_map (λ i. sites_of_set i.0 i.1) (enumerate_from 0 raw.sets)

-- the mappings of associations
abbrev pub link_sites : RawMapping → List LinkSite
link_sites raw = map (λ i. record { place = link_place i.0; link = i.1 }) (enumerate_from 0 raw.links)
