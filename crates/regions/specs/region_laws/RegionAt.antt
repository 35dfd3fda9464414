-- The region of an entity with its hosted links, and the links that stand at an entity.
-- Source: this project's; the cells by which the mapping compiler of Melnik, Adya and Bernstein, SIGMOD 2007, divides entities.
use Rattle.std.specs.Prelude.{◌≡◌, ◌==◌, Contains, List, [], map, filter, flat_map, slice_get, Bool}
use Rattle.std.specs.List.{list_any}
use Rattle.std.specs.Option.{option_map_or}
use Rattle.round_trip.specs.Words.{At, Prop, SetId, TypeId, PropId, AssocId, Value, Mult, Entity, Hosted, Link, State, links_in, value_of}
use Rattle.edm_types.specs.declared.model.Mult.TheVariants.{One, ZeroOrOne, Many}
use Rattle.round_trip.specs.soundness.mappings.Joined.{prop}
use Rattle.condition_logic.specs.declared.atoms.AtomOf.{AtomOf}
use Rattle.condition_logic.specs.declared.atoms.Atom.TheVariants as atom
use Rattle.schema_laws.specs.state_demand.Selecting.{same_key}
use Rattle.regions.specs.declared.region.Region.{Region}
use Rattle.regions.specs.Atoms.{atom_of, atoms_of}
use Rattle.regions.specs.Basis.{Basis, Host, host_end, host_key, partner_end, partner_key}
use Rattle.regions.specs.Regions.{flagged, model_of, tested_props}

-- whether one of the links is of the association
abbrev pub has_link : List Hosted → AssocId → Bool
has_link links assoc = list_any (λ hosted. hosted.assoc.index == assoc.index) links

-- the flag of an association: whether a link is there; where the partners may be any number, whether there may be one
abbrev pub flag_by : Bool → Mult → Bool → Bool
flag_by may One linked = linked
flag_by may ZeroOrOne linked = linked
flag_by may Many linked = may

-- the links that an entity of this key hosts
abbrev pub links_at : State → Host → List Value → List Link
links_at state host key = filter (λ link. same_key (host_key host.first_hosts link) key) (links_in state host.assoc)

-- an atom of the property, one of those listed
pub record IsAtomOf (basis : Basis) (p : PropId) (told : AtomOf) : Type 0 where
  pub declared : Prop
  pub is_declared : At basis.schema.model.props p.index declared
  pub of_prop : told.prop ≡ p
  pub listed : Contains (atoms_of basis.fits declared (basis.constants (prop p))) told.atom

module _ (basis : Basis) where
  -- the links that an entity of the set with this key hosts, as it sees them
  abbrev pub hosted_links : State → SetId → List Value → List Hosted
  hosted_links state s key = flat_map
      (λ host. map (λ link. record { assoc = host.assoc; partner = partner_key host.first_hosts link }) (links_at state host key)) (basis.hosts s)

  -- the atom of the entity's value of a property
  abbrev pub atom_in : Entity → PropId → AtomOf
  atom_in entity p = record {
    prop = p;
    atom = option_map_or (λ declared. atom_of declared (basis.constants (prop p)) (value_of (model_of basis) entity p)) (slice_get (model_of basis).props p.index) atom.Null;
  }

  -- the flag of a hosted association for an entity of the type that hosts these links
  abbrev pub flag_in : TypeId → List Hosted → Host → List AssocId
  flag_in t links host = option_map_or
      (λ assoc. flagged host.assoc (flag_by (basis.is_a t (host_end host.first_hosts assoc).ty) (partner_end host.first_hosts assoc).mult (has_link links host.assoc)))
      (slice_get (model_of basis).assocs host.assoc.index) []

  -- the region of an entity of the set that hosts these links
  abbrev pub region_at : SetId → Entity → List Hosted → Region
  region_at s entity links = record {
    set = s;
    ty = entity.ty;
    atoms = map (atom_in entity) (tested_props basis entity.ty);
    linked = flat_map (flag_in entity.ty links) (basis.hosts s);
  }
