-- Which regions are listed: a concrete type with a choice of atoms and a choice of flags.
use Rattle.std.proofs.Common.{◌≡◌, List, [], ◌∷◌, ◌++◌, map, flat_map, slice_get, Contains, Option, Some, None, refl, sym, ap, subst}
use Rattle.std.specs.Option.{option_map_or}
use Rattle.emc_base.proofs.Mapped.{contains_map}
use Rattle.emc_base.proofs.Numbered.{map_contains}
use Rattle.round_trip.specs.Words.{SetId, TypeId, AssocId, EntitySet, At}
use Rattle.condition_logic.specs.declared.atoms.AtomOf.{AtomOf}
use Rattle.schema_laws.proofs.state_demand.lists.Lists.{contains_flat_map, member_of_flat_map, none_in_nil}
use Rattle.regions.specs.declared.region.Region.{Region}
use Rattle.regions.specs.Lists.{choices}
use Rattle.regions.specs.Basis.{Basis}
use Rattle.regions.specs.Regions.{atoms_at, flags_at, model_of, regions_by, regions_of, regions_with, tested_props, types_of}

-- a list of lists, joined
pub joined_map : {X Y : Type 0} (f : X → List Y) (xs : List X) → flat_map (λ ys. ys) (map f xs) ≡ flat_map f xs
joined_map f [] = refl
joined_map f (x ∷ xs) = λ k. f x ++ joined_map f xs k

module _ (basis : Basis) where
  abbrev pub region_with : SetId → TypeId → List AtomOf → List (List AssocId) → Region
  region_with s t atoms flags = record { set = s; ty = t; atoms = atoms; linked = flat_map (λ flag. flag) flags }

  pub record IsListed (s : SetId) (region : Region) : Type 0 where
    pub set : EntitySet
    pub ty : TypeId
    pub atoms : List AtomOf
    pub flags : List (List AssocId)
    pub is_set : At (model_of basis).sets s.index set
    pub is_type : Contains (types_of basis set) ty
    pub are_atoms : Contains (choices (map (atoms_at basis) (tested_props basis ty))) atoms
    pub are_flags : Contains (choices (map (flags_at basis ty) (basis.hosts s))) flags
    pub is : region ≡ region_with s ty atoms flags

  pub is_listed : (s : SetId) (region : Region) → Contains (regions_of basis s) region → IsListed s region
  is_listed s region = by (slice_get (model_of basis).sets s.index) refl
    where
      by : (found : Option EntitySet) → slice_get (model_of basis).sets s.index ≡ found
          → Contains (option_map_or (λ set. flat_map (regions_by basis s) (types_of basis set)) found []) region → IsListed s region
      by None here has = absurd (none_in_nil region has)
      by (Some set) here has =
          let of_type = member_of_flat_map (regions_by basis s) (types_of basis set) region has in
          let of_atoms = member_of_flat_map (regions_with basis s of_type.0) (choices (map (atoms_at basis) (tested_props basis of_type.0))) region of_type.2 in
          let of_flags = map_contains (region_with s of_type.0 of_atoms.0) (choices (map (flags_at basis of_type.0) (basis.hosts s))) region of_atoms.2 in
          record {
            set = set;
            ty = of_type.0;
            atoms = of_atoms.0;
            flags = of_flags.0;
            is_set = here;
            is_type = of_type.1;
            are_atoms = of_atoms.1;
            are_flags = of_flags.1;
            is = sym of_flags.2;
          }

  pub listed : (s : SetId) (region : Region) → IsListed s region → Contains (regions_of basis s) region
  listed s region by =
      let P : Option EntitySet → Type 0 = λ found. Contains (option_map_or (λ set. flat_map (regions_by basis s) (types_of basis set)) found []) region in
      subst P (sym by.is_set) (contains_flat_map (regions_by basis s) (types_of basis by.set) by.ty region by.is_type
      (contains_flat_map (regions_with basis s by.ty) (choices (map (atoms_at basis) (tested_props basis by.ty))) by.atoms region by.are_atoms
      (subst (Contains (regions_with basis s by.ty by.atoms)) (sym by.is)
      (contains_map (region_with s by.ty by.atoms) (choices (map (flags_at basis by.ty) (basis.hosts s))) by.flags by.are_flags))))

  pub set_is : (s : SetId) (region : Region) → Contains (regions_of basis s) region → region.set ≡ s
  set_is s region has = ap (λ (r : Region). r.set) (is_listed s region has).is
