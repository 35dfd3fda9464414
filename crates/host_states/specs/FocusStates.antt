-- The states that hold an entity of a region: with its partners, and with what supports these.
-- Source: this project's choice of the states that it shows; CSDL version 3, EntitySet, AssociationSet and ReferentialConstraint.
use Rattle.std.specs.Prelude.{ℕ, List, [], ◌∷◌, ◌++◌, map, filter, flat_map, slice_get, Bool, true, false, not}
use Rattle.std.specs.Option.{option_map_or}
use Rattle.round_trip.specs.Words.{Value, Assoc, Mult, State, key_of, key_props}
use Rattle.edm_types.specs.declared.model.Mult.TheVariants.{One, ZeroOrOne, Many}
use Rattle.regions.specs.declared.region.Region.{Region}
use Rattle.regions.specs.Basis.{Basis, Host, partner_end}
use Rattle.regions.specs.Patterns.{Valuation}
use Rattle.regions.specs.Symbols.{is_linked}
use Rattle.region_states.specs.conflicts.Facts.{is_many}
use Rattle.region_states.specs.Entities.{focus_entity}
use Rattle.population.specs.Plain.{plain}
use Rattle.population.specs.Principals.{principals}
use Rattle.population.specs.declared.placed.PlacedKey.{PlacedKey}
use Rattle.population.specs.Supported.{link_of, supported}
use Rattle.population.specs.declared.placed.Placed.{Placed}
use Rattle.population.specs.declared.placed.PlacedLink.{PlacedLink}
use Rattle.population.specs.Support.{support}

module _ (basis : Basis) where
  -- what is made of a hosted association
  abbrev pub by_assoc : {X : Type 0} → (Host → Assoc → X) → Host → List X
  by_assoc make host = option_map_or (λ assoc. make host assoc ∷ []) (slice_get basis.schema.model.assocs host.assoc.index) []

  -- the hosted associations of which a region has a link
  abbrev pub linked_hosts : Region → List Host
  linked_hosts region = filter (λ host. is_linked basis region.linked host.assoc) (basis.hosts region.set)

  -- whether an entity has few partners by a hosted association
  abbrev pub has_few : Host → Bool
  has_few host = option_map_or (λ assoc. not (is_many (partner_end host.first_hosts assoc).mult)) (slice_get basis.schema.model.assocs host.assoc.index) false

  -- those of them by which it has few
  abbrev pub few_hosts : Region → List Host
  few_hosts region = filter has_few (linked_hosts region)

  -- the key that is told of a partner
  abbrev pub told_key : Valuation → Host → Assoc → List Value
  told_key values host assoc = map (values.part host.assoc (not host.first_hosts)) (key_props basis.schema.model (partner_end host.first_hosts assoc).ty)

  module _ (region : Region) (values : Valuation) where
    -- the entity in its set
    abbrev pub focus : Placed
    focus = record { set = region.set; entity = focus_entity basis region values }

    -- its link to a partner
    abbrev pub link_to : Host → Assoc → PlacedLink
    link_to host assoc = record { assoc = host.assoc; link = link_of host.first_hosts (key_of basis.schema.model (focus_entity basis region values)) (told_key values host assoc) }

    -- its links by these hosted associations
    abbrev pub links_by : List Host → List PlacedLink
    links_by hosts = flat_map (by_assoc link_to) hosts

  module _ (outer : ℕ) where
    -- the plain entity that is the partner
    abbrev pub partner_of : Valuation → Host → Assoc → Placed
    partner_of values host assoc = record {
      set = (partner_end host.first_hosts assoc).set;
      entity = plain basis.schema.model outer 0 (partner_end host.first_hosts assoc).ty (told_key values host assoc);
    }

    -- the entity with its partners by these hosted associations
    abbrev pub given_by : List Host → Region → Valuation → List Placed
    given_by hosts region values = focus region values ∷ flat_map (by_assoc (partner_of values)) hosts

    -- what entities ask for
    abbrev pub wanted_by : List Placed → List PlacedKey
    wanted_by given = flat_map (λ placed. principals basis.schema.model placed.set placed.entity) given

    -- the state with the entity, its partners by these hosted associations, the links to them, and what supports the wanted keys
    abbrev pub state_by : List Host → List PlacedKey → Region → Valuation → State
    state_by hosts wanted region values =
        supported basis.schema.model outer (given_by hosts region values) (support basis.schema.model outer (given_by hosts region values) wanted) (links_by region values hosts)

    -- the state with an entity of a region
    abbrev pub focus_state : Region → Valuation → State
    focus_state region values = state_by (linked_hosts region) (wanted_by (given_by (linked_hosts region) region values)) region values

    -- two with entities of two regions: what supports both is in both
    abbrev pub wanted_by_both : Region → Valuation → Region → Valuation → List PlacedKey
    wanted_by_both one values two others = wanted_by (given_by (linked_hosts one) one values) ++ wanted_by (given_by (linked_hosts two) two others)

    abbrev pub rival_states : Region → Valuation → Region → Valuation → State × State
    rival_states one values two others =
        (state_by (linked_hosts one) (wanted_by_both one values two others) one values, state_by (linked_hosts two) (wanted_by_both one values two others) two others)

    -- the state with the entity of a region without links, and the one without it
    abbrev pub leaving_states : Region → Valuation → State × State
    leaving_states region values =
        let wanted = wanted_by (given_by (linked_hosts region) region values) in
        (focus_state region values, supported basis.schema.model outer [] (support basis.schema.model outer [] wanted) [])
