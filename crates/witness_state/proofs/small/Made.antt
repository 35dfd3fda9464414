-- What is made by the entity of a region alone is what its values tell.
use Rattle.std.proofs.Common.{◌≡◌, ℕ, Bool, ◌∷◌, flat_map, sym}
use Rattle.round_trip.specs.Words.{Assoc, AssocId, Entity, PropId, Value, key_of}
use Rattle.regions.specs.declared.region.Region.{Region}
use Rattle.regions.specs.Basis.{Basis, Host}
use Rattle.regions.specs.Patterns.{Valuation}
use Rattle.population.specs.Supported.{link_of}
use Rattle.population.specs.declared.placed.PlacedLink.{PlacedLink}
use Rattle.host_states.specs.FocusStates.{by_assoc, given_by, linked_hosts, links_by, partner_of, told_key}
use Rattle.witness_state.specs.Small.{HasValues}
use Rattle.witness_state.specs.SmallRegions.{given_with, links_with, usual}

module _ (basis : Basis) (outer : ℕ) (region : Region) (entity : Entity) (values : Valuation) (has : HasValues basis outer region entity values) where
  abbrev with_part : (AssocId → Bool → PropId → Value) → Valuation
  with_part part = record { prop = (usual basis outer).prop; part = part }

  pub given_is : given_with basis outer region entity ≡ given_by basis outer (linked_hosts basis region) region values
  given_is = λ i. record { set = region.set; entity = has.is i } ∷ flat_map (by_assoc basis (partner_of basis outer (with_part (sym has.parts i)))) (linked_hosts basis region)

  pub links_are : links_with basis outer region entity ≡ links_by basis region values (linked_hosts basis region)
  links_are =
      let link : Entity → (AssocId → Bool → PropId → Value) → Host → Assoc → PlacedLink = λ one part host assoc. record {
        assoc = host.assoc;
        link = link_of host.first_hosts (key_of basis.schema.model one) (told_key basis (with_part part) host assoc);
      } in
      λ i. flat_map (by_assoc basis (link (has.is i) (sym has.parts i))) (linked_hosts basis region)
