-- The states that are shown of foreign keys that dangle: small parts, which hold a focus whose row refers by the key and what it needs, and nothing else.
-- Source: this project's choice of the states that it shows, and of how places are told.
use Rattle.std.specs.Prelude.{◌≡◌, ◌==◌, ℕ, List, [], ◌∷◌, ◌++◌, find, flat_map, map, slice_get, Contains, Bool, false, Option, None, Some, if◌then◌else◌}
use Rattle.std.specs.Option.{option_map_or}
use Rattle.round_trip.specs.Words.{Assoc, AssocId, At, Entity, ForeignKey, IsLegal, LinkFragment, Null, Pair, Place, PropId, SetId, State, Table, TableId, Value, place_at, written_key}
use Rattle.schema_laws.specs.state_demand.Owners.{IsJoinedTo, IsOwned, paired_key}
use Rattle.schema_laws.specs.state_demand.Writings.{link_writing}
use Rattle.population.specs.Given.{HasShortParts}
use Rattle.population.specs.Kept.{part_of}
use Rattle.population.specs.LinkStates.{of_assoc, placed_at, plain_link}
use Rattle.population.specs.declared.placed.Placed.{Placed}
use Rattle.population.specs.declared.placed.PlacedKey.{PlacedKey}
use Rattle.population.specs.declared.placed.PlacedLink.{PlacedLink}
use Rattle.regions.specs.Basis.{Basis, Host, partner_end}
use Rattle.regions.specs.Patterns.{Valuation, value_under}
use Rattle.regions.specs.Settled.{Settled, free, known}
use Rattle.regions.specs.declared.pattern.Focus.{Focus}
use Rattle.regions.specs.declared.pattern.Focus.TheVariants as focus
use Rattle.regions.specs.declared.region.Region.{Region}
use Rattle.region_states.specs.Entities.{focus_entity}
use Rattle.host_states.specs.FocusStates.{by_assoc, given_by, linked_hosts, links_by, told_key}
use Rattle.host_states.specs.SmallStates.{key_of_placed, small_focus}
use Rattle.failure_laws.specs.SmallLinks.{both_ends, small_link}
use Rattle.failure_laws.specs.Witnesses.{empty_state}
use Rattle.forced_entities.specs.Forced.{own_member}
use Rattle.dangling_keys.specs.FlowStates.{flow_values, values_of_focus}
use Rattle.dangling_keys.specs.OtherStates.{other_state, other_values, other_wanted}
use Rattle.dangling_keys.specs.Outer.{outer_row}
use Rattle.dangling_keys.specs.Showing.{fits, not_null_for, shown_at}

-- the value that a cell holds
abbrev pub held_value : Valuation → Settled → Value
held_value values (known value) = value
held_value values (free one nullable) = value_under values one

module _ (basis : Basis) where
  -- a place that names the row of an entity, in a table that its set owns
  pub record IsEntityRow (t : TableId) (name : List ℕ) (s : SetId) (entity : Entity) (place : Place) : Type 0 where
    pub table : Table
    pub is_table : At basis.schema.store.tables t.index table
    pub pairing : List Pair
    pub owned : IsOwned basis.schema t s pairing
    pub is : place ≡ place_at table.name (paired_key basis.schema.model pairing entity) name

  -- one that names the row of the plain link of an association, in its own table
  pub record IsLinkRow (t : TableId) (name : List ℕ) (outer : ℕ) (a : AssocId) (place : Place) : Type 0 where
    pub table : Table
    pub is_table : At basis.schema.store.tables t.index table
    pub fragment : LinkFragment
    pub assoc : Assoc
    pub joined : IsJoinedTo basis.schema t fragment assoc
    pub of_assoc : fragment.assoc ≡ a
    pub is : place ≡ place_at table.name (written_key basis.schema.store (link_writing basis.schema.model fragment assoc (plain_link basis.schema.model outer assoc))) name

  -- the values of the entity whose row refers: none of those is null that the key shows
  abbrev pub referring_values : Region → ForeignKey → Valuation
  referring_values region key = flow_values basis (outer_row basis (focus.Entity region) key) region (not_null_for basis (focus.Entity region) key)

  -- the place names the row of the focus, and the key
  abbrev pub IsRowPlace : Focus → ForeignKey → Place → Type 0
  IsRowPlace (focus.Entity region) key place = IsEntityRow key.from key.name region.set (focus_entity basis region (referring_values region key)) place
  IsRowPlace (focus.Link a) key place = IsLinkRow key.from key.name (outer_row basis (focus.Link a) key) a place

  -- the state of the focus alone: an entity with its partners, or a link with its ends
  abbrev pub lone_state : Focus → ForeignKey → State
  lone_state (focus.Entity region) key = small_focus basis (outer_row basis (focus.Entity region) key) region (referring_values region key)
  lone_state (focus.Link a) key = option_map_or (small_link basis.schema.model (outer_row basis (focus.Link a) key) a) (slice_get basis.schema.model.assocs a.index) (empty_state basis.schema.model)

  -- the entities of which it is made, and the links
  abbrev pub lone_given : Focus → ForeignKey → List Placed
  lone_given (focus.Entity region) key = given_by basis (outer_row basis (focus.Entity region) key) (linked_hosts basis region) region (referring_values region key)
  lone_given (focus.Link a) key = option_map_or
      (λ assoc. map (placed_at basis.schema.model (outer_row basis (focus.Link a) key)) (both_ends basis.schema.model (outer_row basis (focus.Link a) key) a assoc))
      (slice_get basis.schema.model.assocs a.index) []

  abbrev pub lone_links : Focus → ForeignKey → List PlacedLink
  lone_links (focus.Entity region) key = links_by basis region (referring_values region key) (linked_hosts basis region)
  lone_links (focus.Link a) key = option_map_or
      (λ assoc. of_assoc basis.schema.model (outer_row basis (focus.Link a) key) a (plain_link basis.schema.model (outer_row basis (focus.Link a) key) assoc) ∷ [])
      (slice_get basis.schema.model.assocs a.index) []

  module _ (of : Focus) (key : ForeignKey) (pairing : List Pair) where
    -- the value that is shown for a property of the key that the pairing names
    abbrev pub shown_value : PropId → Value
    shown_value p = option_map_or (λ pair. held_value (values_of_focus basis (outer_row basis of key) of (not_null_for basis of key)) (shown_at basis of key pair.col))
        (find (λ pair. pair.prop.index == p.index) pairing) Null

    -- whether the focus itself has the key that is shown
    abbrev pub has_shown_key : Focus → Region → Bool
    has_shown_key (focus.Entity own) region = fits basis of key region.set pairing (own_member basis own)
    has_shown_key (focus.Link a) region = false

    module _ (region : Region) where
      -- the values of the region's entity that has it
      abbrev pub principal_values : Valuation
      principal_values = other_values basis (outer_row basis of key) region shown_value

      -- its key, and those of its partners
      abbrev pub partner_root : Host → Assoc → PlacedKey
      partner_root host assoc = record { set = (partner_end host.first_hosts assoc).set; key = told_key basis principal_values host assoc }

      abbrev pub principal_roots : List PlacedKey
      principal_roots = key_of_placed basis (outer_row basis of key) (record { set = region.set; entity = focus_entity basis region principal_values })
          ∷ flat_map (by_assoc basis partner_root) (linked_hosts basis region)

      -- the keys of what the focus is given with, and these
      abbrev pub both_roots : List PlacedKey
      both_roots = map (key_of_placed basis (outer_row basis of key)) (lone_given of key) ++ principal_roots

      -- the state of the focus and of this entity
      abbrev pub whole_state : State
      whole_state = other_state basis (outer_row basis of key) region principal_values (lone_given of key) (lone_links of key)

      abbrev pub both_state : State
      both_state = part_of basis.schema.model (whole_state ∷ []) both_roots whole_state

      -- the whole state is legal, and what its given entities ask for has short keys
      pub record IsSupportedWhole : Type 0 where
        pub legal : IsLegal basis.schema.model whole_state
        pub short : (to : PlacedKey) → Contains (other_wanted basis (outer_row basis of key) region principal_values (lone_given of key)) to → HasShortParts basis.schema.model to.set to.key

    -- the state that is shown: with an entity of the region whose row is missing, where this isn't the focus itself
    abbrev pub dangling_state : Option Region → State
    dangling_state None = lone_state of key
    dangling_state (Some region) = if has_shown_key of region then lone_state of key else both_state region
