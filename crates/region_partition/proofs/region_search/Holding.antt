-- A region of a set that stands equal to an entity with its links holds it.
use Rattle.std.proofs.Common.{◌≡◌, ◌≢◌, List, [], ◌∷◌, map, slice_get, All, Contains, Option, Some, None, if◌then◌else◌, refl, sym, ap, subst, ◌∙◌}
use Rattle.std.specs.Cmp.{Equal-is}
use Rattle.std.specs.FinMap.{nat_cmp-IsAntisymmetric}
use Rattle.std.specs.List.{AllZip, list_any}
use Rattle.std.specs.Option.{option_map_or}
use Rattle.std.specs.Ordering.{nat_cmp, ordering_then}
use Rattle.std.specs.declared.cmp.Ordering.TheVariants.{Equal}
use Rattle.std.proofs.lemmas.Bool.{cond_both}
use Rattle.std.proofs.lemmas.Bool.Decides.{not_from_Decides}
use Rattle.std.proofs.lemmas.List.Elements.{All-cons, All-nil}
use Rattle.emc_base.specs.declared.value.Kind.TheVariants as kind
use Rattle.emc_base.proofs.Numbered.{map_contains}
use Rattle.round_trip.specs.Words.{SetId, PropId, Value, Null, Kind, Prop, Entity, Hosted, At, value_of}
use Rattle.round_trip.specs.soundness.mappings.Joined.{prop}
use Rattle.condition_logic.specs.declared.atoms.Atom.{Atom}
use Rattle.condition_logic.specs.declared.atoms.Atom.TheVariants as atom
use Rattle.condition_logic.specs.declared.atoms.AtomOf.{AtomOf}
use Rattle.schema_laws.specs.state_demand.Selecting.{same_value}
use Rattle.schema_laws.proofs.state_demand.lists.Lists.{none_in_nil}
use Rattle.schema_laws.proofs.state_demand.writings.Selecting.{Decides-value}
use Rattle.regions.specs.declared.region.Region.{Region}
use Rattle.regions.specs.Atoms.{LiesIn, atom_of, atoms_of, kind_atom}
use Rattle.regions.specs.Basis.{Basis}
use Rattle.regions.specs.Regions.{Holds, TellsLinks, atoms_at, model_of, regions_of, tested_props}
use Rattle.regions.specs.region_laws.IsBasis.{IsBasis}
use Rattle.regions.specs.region_laws.RegionAt.{atom_in}
use Rattle.regions.proofs.region_laws.lists.Choices.{choice_each}
use Rattle.regions.proofs.region_laws.listing.Listed.{IsListed, is_listed}
use Rattle.regions.proofs.region_laws.entities.Regions.{atom_is}
use Rattle.region_partition.specs.region_search.Standing.{IsTold, all_cmp, host_cmp, region_cmp, told_cmp}
use Rattle.region_partition.proofs.region_search.AtomOrder.{atom_apart}
use Rattle.region_partition.proofs.region_search.Constants.{Decides-among}
use Rattle.region_partition.proofs.region_search.Linked.{Decides-host}
use Rattle.region_partition.proofs.region_search.Passing.{Decides-all_cmp}
use Rattle.region_partition.proofs.region_search.Rising.{then_equal}

-- a value lies in its atom, be it in the kind's domain or not
module _ (constants : List Value) (value : Value) where
  abbrev Lies : Atom → Type 0
  Lies one = LiesIn constants one value

  constant_lies : value ≢ Null → Lies (if list_any (same_value value) constants then atom.Is value else atom.Other)
  constant_lies some = cond_both (list_any (same_value value) constants) (atom.Is value) atom.Other Lies (λ told. refl)
      (λ told. (some, not_from_Decides (list_any (same_value value) constants) (Decides-among constants value) told))

  kind_lies : (k : Kind) → value ≢ Null → Lies (kind_atom k constants value)
  kind_lies kind.Byte some = constant_lies some
  kind_lies kind.Int16 some = constant_lies some
  kind_lies kind.Int32 some = constant_lies some
  kind_lies kind.Int64 some = constant_lies some
  kind_lies kind.Boolean some = refl
  kind_lies (kind.Text bound) some = constant_lies some
  kind_lies (kind.Binary bound) some = constant_lies some
  kind_lies (kind.Enum enumeration) some = refl

  value_lies : (declared : Prop) → Lies (atom_of declared constants value)
  value_lies declared = cond_both (same_value value Null) atom.Null (kind_atom declared.kind constants value) Lies (λ told. (Decides-value value Null).0 told)
      (λ told. kind_lies declared.kind (not_from_Decides (same_value value Null) (Decides-value value Null) told))

module _ (basis : Basis) (is : IsBasis basis) (entity : Entity) where
  -- a listed atom that stands equal
  told_holds : (p : PropId) (told : AtomOf) → Contains (atoms_at basis p) told → told_cmp basis entity told ≡ Equal → IsTold basis entity told
  told_holds p told = by (slice_get (model_of basis).props p.index) refl
    where
      by : (found : Option Prop) → slice_get (model_of basis).props p.index ≡ found
          → Contains (option_map_or (λ declared. map (λ (a : Atom). record { prop = p; atom = a }) (atoms_of basis.fits declared (basis.constants (prop p)))) found []) told
          → told_cmp basis entity told ≡ Equal → LiesIn (basis.constants (prop told.prop)) told.atom (value_of (model_of basis) entity told.prop)
      by None here has equal = absurd (none_in_nil told has)
      by (Some declared) here has equal =
          let as_told : Atom → AtomOf = λ a. record { prop = p; atom = a } in
          let found = map_contains as_told (atoms_of basis.fits declared (basis.constants (prop p))) told has in
          let of_prop : p ≡ told.prop = ap (λ (one : AtomOf). one.prop) found.2 in
          let P : PropId → Type 0 = λ q. At (model_of basis).props q.index declared in
          let there : At (model_of basis).props told.prop.index declared = subst P of_prop here in
          let same : told.atom ≡ atom_of declared (basis.constants (prop told.prop)) (value_of (model_of basis) entity told.prop) =
          atom_apart told.atom (atom_in basis entity told.prop).atom equal ∙ atom_is basis is entity told.prop declared there in
          let Q : Atom → Type 0 = λ one. LiesIn (basis.constants (prop told.prop)) one (value_of (model_of basis) entity told.prop) in
          subst Q (sym same) (value_lies (basis.constants (prop told.prop)) (value_of (model_of basis) entity told.prop) declared)

  -- each of several
  all_hold : (ps : List PropId) (atoms : List AtomOf) → AllZip (λ p told. Contains (atoms_at basis p) told) ps atoms
      → all_cmp (told_cmp basis entity) atoms ≡ Equal → All (IsTold basis entity) atoms
  all_hold [] [] zipped equal = All-nil (IsTold basis entity)
  all_hold [] (told ∷ atoms) zipped equal = absurd zipped
  all_hold (p ∷ ps) [] zipped equal = absurd zipped
  all_hold (p ∷ ps) (told ∷ atoms) zipped equal =
      let both = then_equal (told_cmp basis entity told) (all_cmp (told_cmp basis entity) atoms) equal in
      All-cons (IsTold basis entity) told atoms (told_holds p told zipped.0 both.0) (all_hold ps atoms zipped.1 both.1)

  pub equal_holds : (links : List Hosted) (s : SetId) (region : Region) → Contains (regions_of basis s) region → region_cmp basis entity links region ≡ Equal
      → Holds basis region entity links
  equal_holds links s region has equal =
      let by : IsListed basis s region = is_listed basis s region has in
      let told = all_cmp (told_cmp basis entity) region.atoms in
      let flags = all_cmp (host_cmp basis links region.linked) (basis.hosts region.set) in
      let first = then_equal (nat_cmp region.ty.index entity.ty.index) (ordering_then told flags) equal in
      let rest = then_equal told flags first.1 in
      let index = nat_cmp-IsAntisymmetric region.ty.index entity.ty.index first.0 in
      let own : by.atoms ≡ region.atoms = ap (λ (r : Region). r.atoms) (sym by.is) in
      let zipped = choice_each (atoms_at basis) (tested_props basis by.ty) by.atoms by.are_atoms in
      let P : List AtomOf → Type 0 = λ atoms. AllZip (λ p told. Contains (atoms_at basis p) told) (tested_props basis by.ty) atoms in
      record {
        typed = λ k. record { index = sym index k };
        atoms = all_hold (tested_props basis by.ty) region.atoms (subst P own zipped) rest.0;
        flags = (Decides-all_cmp (host_cmp basis links region.linked) (TellsLinks basis region links) (Decides-host basis region links) (basis.hosts region.set)).0
            ((Equal-is flags).1 rest.1);
      }
