-- What the listed regions are like: their types, atoms and flags are possible ones.
use Rattle.std.proofs.Common.{◌≡◌, ◌≢◌, ⊎_elim, ℕ, List, [], ◌∷◌, map, filter, flat_map, slice_get, Contains, Option, Some, None, Bool, true, false, true≢false, not, ◌&&◌, refl, sym, ap, subst, ◌∙◌}
use Rattle.std.specs.List.{AllZip, enumerate_from}
use Rattle.std.specs.Option.{option_map_or}
use Rattle.std.proofs.lemmas.Bool.{and_parts}
use Rattle.std.proofs.lemmas.List.Elements.{Contains-append_left, Contains-append_right}
use Rattle.emc_base.proofs.Lists.{at_once}
use Rattle.emc_base.proofs.Numbered.{enumerated_at, filter_contains, map_contains}
use Rattle.emc_base.proofs.facts.Tests.{not_true}
use Rattle.round_trip.specs.Words.{SetId, TypeId, PropId, AssocId, EntitySet, EntityType, Prop, Assoc, Mult, At, IsA, IsConcrete}
use Rattle.edm_types.specs.declared.model.Mult.TheVariants.{One, ZeroOrOne, Many}
use Rattle.round_trip.specs.soundness.mappings.Joined.{prop}
use Rattle.condition_logic.specs.declared.atoms.Atom.{Atom}
use Rattle.condition_logic.specs.declared.atoms.AtomOf.{AtomOf}
use Rattle.schema_laws.proofs.state_demand.lists.Lists.{member_cases, none_in_nil}
use Rattle.regions.specs.declared.region.Region.{Region}
use Rattle.regions.specs.Atoms.{atoms_of}
use Rattle.regions.specs.Basis.{Basis, Host, host_end, partner_end, HostedAssoc}
use Rattle.regions.specs.Regions.{atoms_at, flag_values, flagged, flags_at, model_of, regions_of, tested_props}
use Rattle.regions.specs.region_laws.IsBasis.{IsBasis}
use Rattle.regions.specs.region_laws.RegionAt.{IsAtomOf}
use Rattle.regions.proofs.region_laws.lists.Choices.{choice_each, zip_weaker}
use Rattle.regions.proofs.region_laws.entities.Flags.{Decides-flagged, IsFlag, of_host}
use Rattle.regions.proofs.region_laws.listing.Listed.{IsListed, is_listed}
use Rattle.regions.proofs.region_laws.writings.Patterns.{may_host}

-- a flag that isn't free
must : (may : Bool) (mult : Mult) (b : Bool) → may ≡ true → mult ≢ ZeroOrOne → Contains (flag_values may mult) b → b ≡ true
must false mult b is few has = absurd (true≢false (sym is))
must true One b is few has = ⊎_elim (λ (here : b ≡ true). here) (λ (none : Contains [] b). absurd (none_in_nil b none)) (member_cases true [] b has)
must true ZeroOrOne b is few has = absurd (few refl)
must true Many b is few has = ⊎_elim (λ (here : b ≡ true). here) (λ (none : Contains [] b). absurd (none_in_nil b none)) (member_cases true [] b has)

module _ (basis : Basis) (is : IsBasis basis) (s : SetId) (region : Region) (among : Contains (regions_of basis s) region) where
  by : IsListed basis s region
  by = is_listed basis s region among

  typed : region.ty ≡ by.ty
  typed = ap (λ (r : Region). r.ty) by.is

  pub of_set : region.set ≡ s
  of_set = ap (λ (r : Region). r.set) by.is

  -- its type is concrete, and one of the set
  pub type_fits : (set : EntitySet) → At (model_of basis).sets s.index set → IsConcrete (model_of basis) region.ty × IsA (model_of basis) region.ty set.element
  type_fits set here =
      let keeps : ℕ × EntityType → Bool = λ placed. not placed.1.is_abstract && basis.is_a (record { index = placed.0 }) by.set.element in
      let as_type : ℕ × EntityType → TypeId = λ placed. record { index = placed.0 } in
      let found = map_contains as_type (filter keeps (enumerate_from 0 (model_of basis).types)) by.ty by.is_type in
      let type : EntityType = found.0.1 in
      let kept = filter_contains keeps (enumerate_from 0 (model_of basis).types) found.0 found.1 in
      let parts = and_parts (not type.is_abstract) (basis.is_a (as_type found.0) by.set.element) kept.1 in
      let is_type : as_type found.0 ≡ region.ty = found.2 ∙ sym typed in
      let same : by.set ≡ set = at_once (model_of basis).sets s.index by.set set by.is_set here in
      let P : TypeId → Type 0 = λ t. IsConcrete (model_of basis) t × IsA (model_of basis) t by.set.element in
      let told : P (as_type found.0) =
      ((type, enumerated_at (model_of basis).types found.0 kept.0, not_true type.is_abstract parts.0), (is.types.tells (as_type found.0) by.set.element).0 parts.1) in
      let both = subst P is_type told in
      (both.0, subst (λ (one : EntitySet). IsA (model_of basis) region.ty one.element) same both.1)

  -- it has an atom of each tested property, in their order
  pub atoms_fit : AllZip (IsAtomOf basis) (tested_props basis region.ty) region.atoms
  atoms_fit =
      let zipped : AllZip (IsAtomOf basis) (tested_props basis by.ty) by.atoms =
      zip_weaker (λ p told. Contains (atoms_at basis p) told) (IsAtomOf basis) each (tested_props basis by.ty) by.atoms
      (choice_each (atoms_at basis) (tested_props basis by.ty) by.atoms by.are_atoms) in
      let P : Region → Type 0 = λ r. AllZip (IsAtomOf basis) (tested_props basis r.ty) r.atoms in
      subst P (sym by.is) zipped
    where
      each : (p : PropId) (told : AtomOf) → Contains (atoms_at basis p) told → IsAtomOf basis p told
      each p told = go (slice_get (model_of basis).props p.index) refl
        where
          go : (found : Option Prop) → slice_get (model_of basis).props p.index ≡ found
              → Contains (option_map_or (λ declared. map (λ (a : Atom). record { prop = p; atom = a }) (atoms_of basis.fits declared (basis.constants (prop p)))) found []) told
              → IsAtomOf basis p told
          go None here has = absurd (none_in_nil told has)
          go (Some declared) here has =
              let as_told : Atom → AtomOf = λ a. record { prop = p; atom = a } in
              let atoms : List Atom = atoms_of basis.fits declared (basis.constants (prop p)) in
              let found = map_contains as_told atoms told has in
              record {
                declared = declared;
                is_declared = here;
                of_prop = ap (λ (one : AtomOf). one.prop) (sym found.2);
                listed = subst (Contains atoms) (ap (λ (one : AtomOf). one.atom) found.2) found.1;
              }

  -- each flag is of an association that is hosted at the set
  pub linked_hosts : (a : AssocId) → Contains region.linked a → (host : Host) × Contains (basis.hosts s) host × (a ≡ host.assoc)
  linked_hosts a has =
      of_host basis by.ty (basis.hosts s) by.flags (choice_each (flags_at basis by.ty) (basis.hosts s) by.flags by.are_flags) a
      (subst (λ (r : Region). Contains r.linked a) by.is has)

  module _ (hosted : HostedAssoc basis s) where
    abbrev host : Host
    host = hosted.host

    abbrev assoc : Assoc
    assoc = hosted.assoc

    -- whose entities may have a link
    pub may_link : Contains region.linked hosted.host.assoc → IsA (model_of basis) region.ty (host_end hosted.host.first_hosts hosted.assoc).ty
    may_link linked = (is.types.tells region.ty (host_end host.first_hosts assoc).ty).0 (may_host basis is s region among host hosted.hosts linked assoc hosted.is_assoc)

    flag_for : (hosts : List Host) (flags : List (List AssocId)) → AllZip (IsFlag basis by.ty) hosts flags → Contains hosts host
        → (flag : List AssocId) × IsFlag basis by.ty host flag × ((a : AssocId) → Contains flag a → Contains (flat_map (λ one. one) flags) a)
    flag_for [] [] zipped has = absurd (none_in_nil host has)
    flag_for [] (flag ∷ flags) zipped has = absurd zipped
    flag_for (other ∷ others) [] zipped has = absurd zipped
    flag_for (other ∷ others) (flag ∷ flags) zipped has = ⊎_elim
        (λ (same : host ≡ other).
        (flag, subst (λ one. IsFlag basis by.ty one flag) (sym same) zipped.0, λ a in_flag. Contains-append_left flag (flat_map (λ one. one) flags) a in_flag))
        (λ (later : Contains others host).
        let found = flag_for others flags zipped.1 later in
        (found.0, found.1, λ a in_flag. Contains-append_right flag (flat_map (λ one. one) flags) a (found.2 a in_flag)))
        (member_cases other others host has)

    -- and have one, where the partner is mandatory or flags aren't told by links
    pub must_link : IsA (model_of basis) region.ty (host_end hosted.host.first_hosts hosted.assoc).ty
        → (partner_end hosted.host.first_hosts hosted.assoc).mult ≢ ZeroOrOne → Contains region.linked hosted.host.assoc
    must_link under not_free =
        let end : TypeId = (host_end host.first_hosts assoc).ty in
        let may : Bool = basis.is_a by.ty end in
        let mult : Mult = (partner_end host.first_hosts assoc).mult in
        let is_may : may ≡ true = (is.types.tells by.ty end).1 (subst (λ t. IsA (model_of basis) t end) typed under) in
        let found = flag_for (basis.hosts s) by.flags (choice_each (flags_at basis by.ty) (basis.hosts s) by.flags by.are_flags) hosted.hosts in
        let P : Option Assoc → Type 0 = λ one. Contains (option_map_or (λ one. map (flagged host.assoc)
        (flag_values (basis.is_a by.ty (host_end host.first_hosts one).ty) (partner_end host.first_hosts one).mult)) one ([] ∷ [])) found.0 in
        let bit = map_contains (flagged host.assoc) (flag_values may mult) found.0 (subst P hosted.is_assoc found.1) in
        let told : bit.0 ≡ true = must may mult bit.0 is_may not_free bit.1 in
        let in_flag : Contains found.0 host.assoc = subst (λ xs. Contains xs host.assoc) bit.2 ((Decides-flagged host.assoc bit.0).0 told) in
        subst (λ (r : Region). Contains r.linked host.assoc) (sym by.is) (found.2 host.assoc in_flag)
