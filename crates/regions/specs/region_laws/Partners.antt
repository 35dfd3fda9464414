-- The partners of an entity: one for each flag of its region, with the keys that are told of them.
-- Source: MSL version 3, AssociationSetMapping and EndProperty; CSDL version 3, Multiplicity.
use Rattle.std.specs.Prelude.{◌≡◌, ◌≢◌, ◌==◌, List, [], ◌∷◌, find, slice_get, Contains, Bool, true, false, if◌then◌else◌}
use Rattle.std.specs.Option.{option_map_or}
use Rattle.round_trip.specs.Words.{SetId, PropId, AssocId, TypeId, Value, Null, EntityModel, Assoc, Entity, Link, State, At, key_of, key_props, value_beside}
use Rattle.edm_types.specs.declared.model.Mult.TheVariants.{Many}
use Rattle.regions.specs.declared.region.Region.{Region}
use Rattle.regions.specs.Basis.{Basis, Host, partner_end, partner_key}
use Rattle.regions.specs.region_laws.RegionAt.{links_at}

-- what is told of the partner's end is the key of the link's partner
abbrev pub TellsPartner : Basis → Host → Link → (AssocId → Bool → PropId → Value) → Type 0
TellsPartner basis host link part = (assoc : Assoc) → At basis.schema.model.assocs host.assoc.index assoc → (p : PropId)
    → Contains (key_props basis.schema.model (partner_end host.first_hosts assoc).ty) p
    → part host.assoc (if host.first_hosts then false else true) p
    ≡ value_beside p (key_props basis.schema.model (partner_end host.first_hosts assoc).ty) (partner_key host.first_hosts link)

-- the entity hosts one link of each association that the region has linked, to the partner that is told, and none of the others
pub record HasPartners (basis : Basis) (state : State) (s : SetId) (entity : Entity) (region : Region) (part : AssocId → Bool → PropId → Value) : Type 0 where
  pub one : (host : Host) → Contains (basis.hosts s) host → Contains region.linked host.assoc
      → (link : Link) × (links_at state host (key_of basis.schema.model entity) ≡ link ∷ []) × TellsPartner basis host link part
  pub none : (host : Host) → Contains (basis.hosts s) host → ¬ Contains region.linked host.assoc → links_at state host (key_of basis.schema.model entity) ≡ []

-- no association that is hosted at the set lets an entity have any number of partners
abbrev pub HasFewPartners : Basis → SetId → Type 0
HasFewPartners basis s = (host : Host) → Contains (basis.hosts s) host → (assoc : Assoc) → At basis.schema.model.assocs host.assoc.index assoc
    → (partner_end host.first_hosts assoc).mult ≢ Many

-- a part of the key of the partner of the first of these links
abbrev pub part_in : EntityModel → TypeId → Bool → PropId → List Link → Value
part_in model ty first_hosts p [] = Null
part_in model ty first_hosts p (link ∷ links) = value_beside p (key_props model ty) (partner_key first_hosts link)

-- a part of the key of the partner to which the state links the entity of this key
abbrev pub part_at : Basis → State → List Value → PropId → Host → Value
part_at basis state key p host = option_map_or
    (λ assoc. part_in basis.schema.model (partner_end host.first_hosts assoc).ty host.first_hosts p (links_at state host key))
    (slice_get basis.schema.model.assocs host.assoc.index) Null

abbrev pub part_by : Basis → State → SetId → List Value → AssocId → Bool → PropId → Value
part_by basis state s key a first p = option_map_or (part_at basis state key p) (find (λ host. host.assoc.index == a.index) (basis.hosts s)) Null
