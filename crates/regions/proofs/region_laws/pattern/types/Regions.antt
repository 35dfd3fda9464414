-- A region of a set: its type, and an atom for each tested property.
use Rattle.std.proofs.Common.{◌≡◌, ℕ, ◌&&◌, ◌==◌, List, [], map, filter, find, flat_map, slice_get, option_map, Bool, true, not, IsTrue, Contains, Option, Some, None, refl, sym, ap, subst, ◌∙◌}
use Rattle.std.specs.List.{enumerate_from}
use Rattle.std.specs.Option.{option_map_or}
use Rattle.std.proofs.lemmas.Bool.{and_parts}
use Rattle.std.proofs.lemmas.Bool.Decides.{Decides-eqb}
use Rattle.std.proofs.lemmas.List.Elements.{All-contains}
use Rattle.emc_base.proofs.Mapped.{contains_filter}
use Rattle.emc_base.proofs.Numbered.{filter_contains, map_contains}
use Rattle.round_trip.specs.Words.{SetId, TypeId, PropId, AssocId, EntityType, EntitySet, Prop, At, IsA, key_props, props_of}
use Rattle.round_trip.specs.soundness.mappings.Joined.{prop}
use Rattle.round_trip.specs.soundness.Lookups.{set_key}
use Rattle.condition_logic.specs.declared.atoms.Atom.{Atom}
use Rattle.condition_logic.specs.declared.atoms.AtomOf.{AtomOf}
use Rattle.schema_laws.proofs.state_demand.lists.Lists.{member_of_flat_map, none_in_nil}
use Rattle.schema_laws.proofs.sound_demand.Keys.{inherits_keys}
use Rattle.schema_laws.proofs.sound_demand.owners.Pairing.{key_of_set}
use Rattle.regions.specs.region_laws.IsBasis.{IsBasis}
use Rattle.regions.specs.declared.region.Region.{Region}
use Rattle.regions.specs.Atoms.{LiesIn, atom_at, atoms_of}
use Rattle.regions.specs.Basis.{Basis}
use Rattle.regions.specs.Lists.{choices}
use Rattle.regions.specs.Regions.{atoms_at, flags_at, regions_by, regions_of, regions_with, tested_props, types_of}
use Rattle.regions.specs.Patterns.{Valuation}
use Rattle.regions.specs.region_laws.pattern.Allowed.{IsAllowed}
use Rattle.regions.proofs.region_laws.pattern.Choices.{chosen_by, chosen_from, found_passes, none_passes}

-- what a region of a set is made of
pub record PartsOf (basis : Basis) (s : SetId) (region : Region) : Type 0 where
  pub set : EntitySet
  pub is_set : At basis.schema.model.sets s.index set
  pub of_set : region.set ≡ s
  pub typed : Contains (types_of basis set) region.ty
  pub atoms : Contains (choices (map (atoms_at basis) (tested_props basis region.ty))) region.atoms

module _ (basis : Basis) (s : SetId) (region : Region) where
  parts_at : (set : EntitySet) → At basis.schema.model.sets s.index set → Contains (flat_map (regions_by basis s) (types_of basis set)) region → PartsOf basis s region
  parts_at set is_set has =
      let type = member_of_flat_map (regions_by basis s) (types_of basis set) region has in
      let told = member_of_flat_map (regions_with basis s type.0) (choices (map (atoms_at basis) (tested_props basis type.0))) region type.2 in
      let made : List (List AssocId) → Region = λ flags. record { set = s; ty = type.0; atoms = told.0; linked = flat_map (λ flag. flag) flags } in
      let flags = map_contains made (choices (map (flags_at basis type.0) (basis.hosts s))) region told.2 in
      let built : Region = made flags.0 in
      subst (PartsOf basis s) {x = built} flags.2 (record { set = set; is_set = is_set; of_set = refl; typed = type.1; atoms = told.1 })

  pub parts_of : Contains (regions_of basis s) region → PartsOf basis s region
  parts_of has = by (slice_get basis.schema.model.sets s.index) refl has
    where
      by : (found : Option EntitySet) → slice_get basis.schema.model.sets s.index ≡ found
          → Contains (option_map_or (λ set. flat_map (regions_by basis s) (types_of basis set)) found []) region → PartsOf basis s region
      by None none there = absurd (none_in_nil region there)
      by (Some set) is_set there = parts_at set is_set there

module _ (basis : Basis) (is : IsBasis basis) (s : SetId) (region : Region) (has : Contains (regions_of basis s) region) where
  abbrev parts : PartsOf basis s region
  parts = parts_of basis s region has

  -- the type is the element type of the set, or derived from it
  pub type_under : IsA basis.schema.model region.ty parts.set.element
  type_under =
      let number : ℕ × EntityType → TypeId = λ placed. record { index = placed.0 } in
      let test : ℕ × EntityType → Bool = λ placed. not placed.1.is_abstract && basis.is_a (number placed) parts.set.element in
      let placed = map_contains number (filter test (enumerate_from 0 basis.schema.model.types)) region.ty parts.typed in
      let kept = filter_contains test (enumerate_from 0 basis.schema.model.types) placed.0 placed.1 in
      let told = (and_parts (not placed.0.1.is_abstract) (basis.is_a (number placed.0) parts.set.element) kept.1).1 in
      subst (λ t. IsA basis.schema.model t parts.set.element) placed.2 ((is.types.tells (number placed.0) parts.set.element).0 told)

  -- and so its key is that of the set
  pub key_is : key_props basis.schema.model region.ty ≡ set_key basis.schema.model region.set
  key_is =
      (inherits_keys basis.schema.model is.sound.model).same region.ty parts.set.element type_under
      ∙ sym (key_of_set basis.schema is.sound s parts.set parts.is_set)
      ∙ ap (set_key basis.schema.model) (sym parts.of_set)

  -- what is told of a property tells its atom among those of the property
  atoms_told : (p : PropId) (told : AtomOf) → Contains (atoms_at basis p) told → told.prop ≡ p
  atoms_told p told there = by (slice_get basis.schema.model.props p.index) there
    where
      by : (found : Option Prop)
          → Contains (option_map_or (λ declared. map (λ atom. record { prop = p; atom = atom }) (atoms_of basis.fits declared (basis.constants (prop p)))) found []) told
          → told.prop ≡ p
      by None in_none = absurd (none_in_nil told in_none)
      by (Some declared) in_some =
          let made : Atom → AtomOf = λ atom. record { prop = p; atom = atom } in
          let found = map_contains made (atoms_of basis.fits declared (basis.constants (prop p))) told in_some in
          sym (ap (λ (one : AtomOf). one.prop) found.2)

  -- a tested property of the type has an atom
  pub atom_there : (p : PropId) → Contains (props_of basis.schema.model region.ty) p → IsTrue (basis.tested (prop p)) → (atom : Atom) × (atom_at region.atoms p ≡ Some atom)
  atom_there p among tested =
      let chosen = chosen_from (atoms_at basis) (tested_props basis region.ty) region.atoms parts.atoms p
      (contains_filter (λ (q : PropId). basis.tested (prop q)) (props_of basis.schema.model region.ty) p among tested) in
      let number : chosen.0.prop.index ≡ p.index = ap (λ (q : PropId). q.index) (atoms_told p chosen.0 chosen.2) in
      by chosen.0 chosen.1 ((Decides-eqb chosen.0.prop.index p.index).1 number) (find (λ (one : AtomOf). one.prop.index == p.index) region.atoms) refl
    where
      by : (told : AtomOf) → Contains region.atoms told → told.prop.index == p.index ≡ true → (found : Option AtomOf)
          → find (λ (one : AtomOf). one.prop.index == p.index) region.atoms ≡ found → (atom : Atom) × (option_map (λ (one : AtomOf). one.atom) found ≡ Some atom)
      by told there passes None none = absurd (none_passes (λ (one : AtomOf). one.prop.index == p.index) region.atoms told none there passes)
      by told there passes (Some other) found = (other.atom, refl)

  -- an atom is told of a tested property of the type
  pub atom_tested : (told : AtomOf) → Contains region.atoms told → Contains (props_of basis.schema.model region.ty) told.prop × IsTrue (basis.tested (prop told.prop))
  atom_tested told there =
      let chosen = chosen_by (atoms_at basis) (tested_props basis region.ty) region.atoms parts.atoms told there in
      let same : told.prop ≡ chosen.0 = atoms_told chosen.0 told chosen.2 in
      let P : PropId → Type 0 = λ p. Contains (props_of basis.schema.model region.ty) p × IsTrue (basis.tested (prop p)) in
      subst P (sym same) (filter_contains (λ (q : PropId). basis.tested (prop q)) (props_of basis.schema.model region.ty) chosen.0 chosen.1)

-- an atom that is found is told
pub atom_found : (atoms : List AtomOf) (p : PropId) (atom : Atom) → atom_at atoms p ≡ Some atom → (told : AtomOf) × Contains atoms told × (told.prop ≡ p) × (told.atom ≡ atom)
atom_found atoms p atom is = by (find (λ (one : AtomOf). one.prop.index == p.index) atoms) refl is
  where
    by : (found : Option AtomOf) → find (λ (one : AtomOf). one.prop.index == p.index) atoms ≡ found → option_map (λ (one : AtomOf). one.atom) found ≡ Some atom
        → (told : AtomOf) × Contains atoms told × (told.prop ≡ p) × (told.atom ≡ atom)
    by None none here = cc
    by (Some told) found here =
        let passes = found_passes (λ (one : AtomOf). one.prop.index == p.index) atoms told found in
        let number = (Decides-eqb told.prop.index p.index).0 passes.1 in
        (told, passes.0, (λ k. record { index = number k }), (let same : told.atom ≡ atom = cc in same))

-- and an allowed value lies in it
pub lies_in : (basis : Basis) (region : Region) (valuation : Valuation) → IsAllowed basis region valuation → (p : PropId) (atom : Atom) → atom_at region.atoms p ≡ Some atom
    → LiesIn (basis.constants (prop p)) atom (valuation.prop p)
lies_in basis region valuation allowed p atom is =
    let found = atom_found region.atoms p atom is in
    let Lies : AtomOf → Type 0 = λ told. LiesIn (basis.constants (prop told.prop)) told.atom (valuation.prop told.prop) in
    let P : PropId → Atom → Type 0 = λ q a. LiesIn (basis.constants (prop q)) a (valuation.prop q) in
    let here : P found.0.prop found.0.atom = All-contains Lies region.atoms found.0 allowed.atoms found.1 in
    subst (P p) found.3 (subst (λ q. P q found.0.atom) found.2 here)
