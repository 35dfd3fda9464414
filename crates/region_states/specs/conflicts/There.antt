-- Which failures of legal states are those of a set, and which those of the links of an association.
-- Source: the round-trip criterion of Melnik, Adya and Bernstein, SIGMOD 2007, divided by the entity sets and association sets of CSDL version 3.
use Rattle.std.specs.Prelude.{◌≡◌, ◌⊎◌, ◌<◌, List, [], Contains}
use Rattle.round_trip.specs.Words.{SetId, AssocId, TableId, ColId, Value, Assoc, EntitySet, Entity, Fills, Fragment, Link, LinkFragment, LinkWrites, Pair, Place, Schema, State, At, IsLegal, FailsAt, key_of, kind_number, place_at}
use Rattle.edm_types.specs.declared.model.Mult.TheVariants.{Many}
use Rattle.round_trip.specs.FailsAt.{Clashes, LeavesNull, Disagrees, IsSameAs, IsUnmapped}
use Rattle.round_trip.specs.declared.FailKind.{FailKind}
use Rattle.round_trip.specs.declared.FailKind.TheVariants as kind
use Rattle.schema_laws.specs.state_demand.Owners.{IsOwned, StandsAt}
use Rattle.schema_laws.specs.state_demand.Writings.{link_writing}
use Rattle.regions.specs.Basis.{Basis, Host, HostedAssoc, partner_end}
use Rattle.regions.specs.region_laws.Held.{IsAtRow}
use Rattle.regions.specs.region_laws.RegionAt.{links_at}
use Rattle.region_states.specs.conflicts.Conflicts.{IsTableOf}

-- the entity hosts at most one link of each association that is hosted at its set
abbrev pub HasFewLinks : Basis → State → SetId → Entity → Type 0
HasFewLinks basis state s entity = (host : Host) → Contains (basis.hosts s) host → (one two : Link)
    → Contains (links_at state host (key_of basis.schema.model entity)) one → Contains (links_at state host (key_of basis.schema.model entity)) two → one ≡ two

-- the row of this key, in a table that the set owns, is that of an entity which hosts few links
pub record IsRowOf (basis : Basis) (state : State) (s : SetId) (t : TableId) (key : List Value) : Type 0 where
  pub pairing : List Pair
  pub owned : IsOwned basis.schema t s pairing
  pub entity : Entity
  pub at : StandsAt basis.schema state s pairing key entity
  pub few : HasFewLinks basis state s entity

-- the place is that of a fragment of the set, or of the links of an association that is hosted at it
abbrev pub IsAtFragment : Basis → SetId → Place → Type 0
IsAtFragment basis s place =
    ((fragment : Fragment) × (key : List Value) × Contains basis.schema.mapping.fragments fragment × (fragment.set ≡ s) × (place ≡ place_at fragment.place key []))
    ⊎ ((fragment : LinkFragment) × (host : Host) × (key : List Value) × Contains basis.schema.mapping.links fragment × Contains (basis.hosts s) host
    × (fragment.assoc ≡ host.assoc) × (place ≡ place_at fragment.place key []))

-- a state fails by the kind at the place, and that is of the set: at a row of a table that the set owns; at its fragments; or at one of its keys
abbrev pub FailsByThere : Basis → SetId → FailKind → Place → State → State → Type 0
FailsByThere basis s kind.Clash place c d = (fails : Clashes basis.schema c place) × IsRowOf basis c s fails.t fails.key
FailsByThere basis s kind.Null place c d = (fails : LeavesNull basis.schema c place) × IsRowOf basis c s fails.t fails.key
FailsByThere basis s kind.Disagrees place c d = Disagrees basis.schema c place × IsAtFragment basis s place
FailsByThere basis s kind.Dangling place c d = ⊥
FailsByThere basis s kind.Same place c d = IsSameAs basis.schema c d place
    × ((set : EntitySet) × (key : List Value) × At basis.schema.model.sets s.index set × (place ≡ place_at set.name key []))

-- some legal state fails there
pub record FailsThere (basis : Basis) (s : SetId) (kind : FailKind) : Type 0 where
  pub place : Place
  pub c : State
  pub d : State
  pub legal : IsLegal basis.schema.model c
  pub fails : FailsByThere basis s kind place c d

-- two links of an entity to whose row the key belongs give the cell these values: by an association that is hosted at its set and lets it have any number
-- of partners
pub record AreTwoLinks (basis : Basis) (a : AssocId) (state : State) (t : TableId) (key : List Value) (col : ColId) (one two : Value) : Type 0 where
  pub s : SetId
  pub at : HostedAssoc basis s
  pub of_assoc : at.host.assoc ≡ a
  pub many : (partner_end at.host.first_hosts at.assoc).mult ≡ Many
  pub entity : Entity
  pub at_row : IsAtRow basis state s entity t key
  pub fragment : LinkFragment
  pub link : Link
  pub other : Link
  pub writes : LinkWrites basis.schema state fragment at.assoc link
  pub other_writes : LinkWrites basis.schema state fragment at.assoc other
  pub of_fragment : fragment.assoc ≡ a
  pub hosted : Contains (links_at state at.host (key_of basis.schema.model entity)) link
  pub other_hosted : Contains (links_at state at.host (key_of basis.schema.model entity)) other
  pub fills : Fills (link_writing basis.schema.model fragment at.assoc link) col one
  pub other_fills : Fills (link_writing basis.schema.model fragment at.assoc other) col two

-- the place is that of a fragment of the association, which has a table of its own
pub record IsAtLinks (basis : Basis) (a : AssocId) (place : Place) : Type 0 where
  pub t : TableId
  pub of_table : IsTableOf basis a t
  pub fragment : LinkFragment
  pub keys : List Value
  pub mapped : Contains basis.schema.mapping.links fragment
  pub of_assoc : fragment.assoc ≡ a
  pub place_is : place ≡ place_at fragment.place keys []

-- a state fails by the kind at the place, and that is of the association's links: at a row of its own table; at its fragment there; by two links of one
-- entity; or, where no link fragment maps it, at the association set itself
abbrev pub FailsByLinks : Basis → AssocId → FailKind → Place → State → State → Type 0
FailsByLinks basis a kind.Clash place c d = (fails : Clashes basis.schema c place)
    × (IsTableOf basis a fails.t ⊎ AreTwoLinks basis a c fails.t fails.key fails.col fails.one fails.two)
FailsByLinks basis a kind.Null place c d = (fails : LeavesNull basis.schema c place) × IsTableOf basis a fails.t
FailsByLinks basis a kind.Disagrees place c d = Disagrees basis.schema c place × IsAtLinks basis a place
FailsByLinks basis a kind.Dangling place c d = ⊥
FailsByLinks basis a kind.Same place c d = IsSameAs basis.schema c d place
    × ((assoc : Assoc) × IsUnmapped basis.schema a assoc × (place ≡ place_at assoc.set_name [] []))

-- some legal state fails there
pub record LinksFailThere (basis : Basis) (a : AssocId) (kind : FailKind) : Type 0 where
  pub place : Place
  pub c : State
  pub d : State
  pub legal : IsLegal basis.schema.model c
  pub fails : FailsByLinks basis a kind place c d

-- no legal state fails by the kind
abbrev pub NoneFailsBy : Schema → FailKind → Type 0
NoneFailsBy schema kind = (place : Place) (c d : State) → ¬ FailsAt schema kind place c d

-- no legal state fails by a kind that is told before this one
abbrev pub NoneFailsBefore : Schema → FailKind → Type 0
NoneFailsBefore schema kind = (earlier : FailKind) → kind_number earlier < kind_number kind → NoneFailsBy schema earlier
