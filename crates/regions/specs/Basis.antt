-- What regions and patterns are told by, and which links an entity hosts.
-- Source: this project's profile of MSL version 3: the groups of properties and columns, and where links stand.
use Rattle.std.specs.Prelude.{◌≡◌, List, Contains, Bool, Option, if◌then◌else◌}
use Rattle.round_trip.specs.Words.{SetId, TypeId, AssocId, GroupId, Value, Kind, Assoc, End, Schema, Link, Hosted, State, At, links_in}
use Rattle.round_trip.specs.soundness.mappings.Joined.{Member}

-- an association whose links stand with the entities at one end, and whether this is the first
pub record Host : Type 0 where
  pub assoc : AssocId
  pub first_hosts : Bool

-- a schema with computed answers: whether a type is another or derived from it, whether a value is in a kind's domain, and of a property or a
-- column its group, the group's constants and whether it is tested; and by set the associations that are hosted at it, in their order
pub record Basis : Type 0 where
  pub schema : Schema
  pub is_a : TypeId → TypeId → Bool
  pub fits : Value → Kind → Bool
  pub group : Member → Option GroupId
  pub constants : Member → List Value
  pub tested : Member → Bool
  pub hosts : SetId → List Host

-- the end of the entities that host
abbrev pub host_end : Bool → Assoc → End
host_end first_hosts assoc = if first_hosts then assoc.first else assoc.second

-- the end of their partners
abbrev pub partner_end : Bool → Assoc → End
partner_end first_hosts assoc = if first_hosts then assoc.second else assoc.first

-- an association that is hosted at the set
pub record HostedAssoc (basis : Basis) (s : SetId) : Type 0 where
  pub host : Host
  pub hosts : Contains (basis.hosts s) host
  pub assoc : Assoc
  pub is_assoc : At basis.schema.model.assocs host.assoc.index assoc

-- the key of the entity that hosts a link
abbrev pub host_key : Bool → Link → List Value
host_key first_hosts link = if first_hosts then link.first else link.second

-- the key of its partner
abbrev pub partner_key : Bool → Link → List Value
partner_key first_hosts link = if first_hosts then link.second else link.first

-- a link of the state, as the entity of this key that hosts it sees it
pub record IsHostedLink (state : State) (hosts : List Host) (key : List Value) (hosted : Hosted) : Type 0 where
  pub host : Host
  pub link : Link
  pub is_host : Contains hosts host
  pub stands : Contains (links_in state host.assoc) link
  pub at_key : host_key host.first_hosts link ≡ key
  pub seen : hosted ≡ record { assoc = host.assoc; partner = partner_key host.first_hosts link }
