-- The regions of a set, and which entities they hold.
-- Source: this project's; the cells by which the mapping compiler of Melnik, Adya and Bernstein, SIGMOD 2007, divides entities.
use Rattle.std.specs.Prelude.{◌≡◌, ◌≢◌, ◌↔◌, ◌&&◌, ℕ, List, [], ◌∷◌, map, filter, flat_map, slice_get, length, min, All, Any, Contains, Bool, true, false, not}
use Rattle.std.specs.List.{enumerate_from}
use Rattle.std.specs.Option.{option_map_or}
use Rattle.round_trip.specs.Words.{SetId, TypeId, PropId, AssocId, EntityModel, EntitySet, Assoc, Mult, Entity, Hosted, At, props_of, value_of}
use Rattle.edm_types.specs.declared.model.Mult.TheVariants.{One, ZeroOrOne, Many}
use Rattle.round_trip.specs.soundness.mappings.Joined.{prop}
use Rattle.condition_logic.specs.declared.atoms.AtomOf.{AtomOf}
use Rattle.regions.specs.declared.region.Region.{Region}
use Rattle.regions.specs.Lists.{choices}
use Rattle.regions.specs.Basis.{Basis, Host, host_end, partner_end}
use Rattle.regions.specs.Atoms.{LiesIn, atoms_of}

-- a flag that a link is there: false alone, true alone, or either
abbrev pub flag_values : Bool → Mult → List Bool
flag_values false partners = false ∷ []
flag_values true One = true ∷ []
flag_values true ZeroOrOne = false ∷ true ∷ []
flag_values true Many = true ∷ []

-- a flag as a list: the association where a link is there
abbrev pub flagged : AssocId → Bool → List AssocId
flagged assoc true = assoc ∷ []
flagged assoc false = []

-- the most regions that are counted
abbrev pub most_counted : ℕ
most_counted = 1048576

module _ (basis : Basis) where
  -- the model
  abbrev pub model_of : EntityModel
  model_of = basis.schema.model

  -- the concrete types of a set, in the order of the model
  abbrev pub types_of : EntitySet → List TypeId
  types_of set = map (λ placed. record { index = placed.0 })
      (filter (λ placed. not placed.1.is_abstract && basis.is_a (record { index = placed.0 }) set.element) (enumerate_from 0 model_of.types))

  -- the tested properties of a type, in its order
  abbrev pub tested_props : TypeId → List PropId
  tested_props t = filter (λ p. basis.tested (prop p)) (props_of model_of t)

  -- the atoms of a tested property
  abbrev pub atoms_at : PropId → List AtomOf
  atoms_at p = option_map_or (λ declared. map (λ atom. record { prop = p; atom = atom }) (atoms_of basis.fits declared (basis.constants (prop p))))
      (slice_get model_of.props p.index) []

  -- the values of the flag of an association that is hosted at the set, for entities of a type
  abbrev pub flags_at : TypeId → Host → List (List AssocId)
  flags_at t host = option_map_or (λ assoc. map (flagged host.assoc)
      (flag_values (basis.is_a t (host_end host.first_hosts assoc).ty) (partner_end host.first_hosts assoc).mult))
      (slice_get model_of.assocs host.assoc.index) ([] ∷ [])

  -- the regions of a set that have this type and these atoms
  abbrev pub regions_with : SetId → TypeId → List AtomOf → List Region
  regions_with s t atoms = map (λ flags. record { set = s; ty = t; atoms = atoms; linked = flat_map (λ flag. flag) flags }) (choices (map (flags_at t) (basis.hosts s)))

  -- those that have this type
  abbrev pub regions_by : SetId → TypeId → List Region
  regions_by s t = flat_map (regions_with s t) (choices (map atoms_at (tested_props t)))

  -- the regions of a set, in their order: by type, then by the atoms of the type's tested properties, then by the flags of the associations
  -- that are hosted at the set; the last one varies fastest
  abbrev pub regions_of : SetId → List Region
  regions_of s = option_map_or (λ set. flat_map (regions_by s) (types_of set)) (slice_get model_of.sets s.index) []

  -- their number, or the most that is counted where it is more
  abbrev pub count_of : SetId → ℕ
  count_of s = min (length (regions_of s)) most_counted

  -- the flag of a hosted association is true exactly where a link of it is there; one whose partners may be any number isn't looked at
  abbrev pub TellsLinks : Region → List Hosted → Host → Type 0
  TellsLinks region links host = (assoc : Assoc) → At model_of.assocs host.assoc.index assoc → (partner_end host.first_hosts assoc).mult ≢ Many
      → Contains region.linked host.assoc ↔ Any (λ hosted. hosted.assoc ≡ host.assoc) links

  -- the region holds an entity of its set, with the links that this hosts
  pub record Holds (region : Region) (entity : Entity) (links : List Hosted) : Type 0 where
    pub typed : entity.ty ≡ region.ty
    pub atoms : All (λ told. LiesIn (basis.constants (prop told.prop)) told.atom (value_of model_of entity told.prop)) region.atoms
    pub flags : All (TellsLinks region links) (basis.hosts region.set)
