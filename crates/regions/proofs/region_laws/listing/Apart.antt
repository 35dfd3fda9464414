-- No region of a set is listed twice.
use Rattle.std.proofs.Common.{◌≡◌, ◌≢◌, ⊎_elim, ℕ, ◌<◌, List, [], ◌∷◌, map, filter, flat_map, length, slice_get, AllPairs, Contains, Option, Some, None, Bool, true, false, true≢false, not, ◌&&◌, refl, sym, ap, subst, ◌∙◌, arith}
use Rattle.std.specs.List.{enumerate_from}
use Rattle.std.specs.Option.{option_map_or}
use Rattle.std.proofs.lemmas.List.Elements.{All-map}
use Rattle.std.proofs.lemmas.List.FromFn.{get_or-enumerate_from, length-enumerate_from}
use Rattle.std.proofs.lemmas.List.Kept.{AllPairs-filter}
use Rattle.emc_base.specs.Lists.{AreApart}
use Rattle.emc_base.proofs.Lists.{all_from_members}
use Rattle.emc_base.proofs.Numbered.{all_pairs_map, map_contains}
use Rattle.round_trip.specs.Words.{SetId, TypeId, PropId, AssocId, EntitySet, EntityType, Prop, Assoc, Mult}
use Rattle.edm_types.specs.declared.model.Mult.TheVariants.{One, ZeroOrOne, Many}
use Rattle.round_trip.specs.soundness.mappings.Joined.{prop}
use Rattle.condition_logic.specs.declared.atoms.Atom.{Atom}
use Rattle.condition_logic.specs.declared.atoms.AtomOf.{AtomOf}
use Rattle.schema_laws.proofs.state_demand.lists.Lists.{member_cases, member_of_flat_map, none_in_nil}
use Rattle.regions.specs.declared.region.Region.{Region}
use Rattle.regions.specs.Lists.{choices}
use Rattle.regions.specs.Atoms.{atoms_of}
use Rattle.regions.specs.Basis.{Basis, Host, host_end, partner_end}
use Rattle.regions.specs.Regions.{atoms_at, flag_values, flagged, flags_at, model_of, regions_by, regions_of, regions_with, tested_props, types_of}
use Rattle.regions.specs.region_laws.IsBasis.{IsBasis}
use Rattle.regions.proofs.region_laws.lists.Choices.{apart_append, apart_flat_map, apart_map, apart_one, choice_each, choices_apart, pairs_nil}
use Rattle.regions.proofs.region_laws.entities.Flags.{flags_same}
use Rattle.regions.proofs.region_laws.listing.Listed.{region_with}
use Rattle.regions.proofs.region_laws.values.Told.{atoms_once}

-- numbers of items rise
pub numbers_rise : {X : Type 0} (xs : List X) → AllPairs (λ (one : ℕ × X) (next : ℕ × X). one.0 < next.0) (enumerate_from 0 xs)
numbers_rise {X} xs i j d below within =
    let inside : j < length xs = subst (λ n. j < n) (length-enumerate_from 0 xs) within in
    let first = ap (λ (e : ℕ × X). e.0) (get_or-enumerate_from 0 xs i d (omega arith)) in
    let second = ap (λ (e : ℕ × X). e.0) (get_or-enumerate_from 0 xs j d inside) in
    omega (arith, first, second, below)

flag_apart : (may : Bool) (mult : Mult) → AreApart (flag_values may mult)
flag_apart false mult = apart_one false
flag_apart true One = apart_one true
flag_apart true ZeroOrOne = apart_append (false ∷ []) (true ∷ []) (apart_one false) (apart_one true) (λ b first last. ⊎_elim
    (λ (one : b ≡ false). ⊎_elim (λ (two : b ≡ true). true≢false (sym two ∙ one)) (λ (none : Contains [] b). none_in_nil b none) (member_cases true [] b last))
    (λ (none : Contains [] b). none_in_nil b none)
    (member_cases false [] b first))
flag_apart true Many = apart_one true

abbrev is_some_flag : List AssocId → Bool
is_some_flag [] = false
is_some_flag (a ∷ rest) = true

one_flag : (a : AssocId) (one two : Bool) → flagged a one ≡ flagged a two → one ≡ two
one_flag a true true same = refl
one_flag a true false same = ap is_some_flag same
one_flag a false true same = ap is_some_flag same
one_flag a false false same = refl

module _ (basis : Basis) (is : IsBasis basis) where
  atoms_apart : (p : PropId) → AreApart (atoms_at basis p)
  atoms_apart p = by (slice_get (model_of basis).props p.index) refl
    where
      by : (found : Option Prop) → slice_get (model_of basis).props p.index ≡ found
          → AreApart {X = AtomOf} (option_map_or (λ declared. map (λ (a : Atom). record { prop = p; atom = a }) (atoms_of basis.fits declared (basis.constants
          (prop p)))) found [])
      by None here = pairs_nil (λ (x y : AtomOf). x ≢ y)
      by (Some declared) here =
          let as_told : Atom → AtomOf = λ a. record { prop = p; atom = a } in
          apart_map as_told (atoms_of basis.fits declared (basis.constants (prop p))) (λ one two has_one has_two same. ap (λ (told : AtomOf). told.atom) same)
          (atoms_once basis is p declared here)

  flags_apart : (t : TypeId) (host : Host) → AreApart (flags_at basis t host)
  flags_apart t host = by (slice_get (model_of basis).assocs host.assoc.index)
    where
      by : (found : Option Assoc) → AreApart (option_map_or (λ assoc. map (flagged host.assoc)
          (flag_values (basis.is_a t (host_end host.first_hosts assoc).ty) (partner_end host.first_hosts assoc).mult)) found ([] ∷ []))
      by None = apart_one []
      by (Some assoc) =
          let may : Bool = basis.is_a t (host_end host.first_hosts assoc).ty in
          let mult : Mult = (partner_end host.first_hosts assoc).mult in
          apart_map (flagged host.assoc) (flag_values may mult) (λ one two has_one has_two same. one_flag host.assoc one two same) (flag_apart may mult)

  types_apart : (set : EntitySet) → AreApart (types_of basis set)
  types_apart set =
      let keeps : ℕ × EntityType → Bool = λ placed. not placed.1.is_abstract && basis.is_a (record { index = placed.0 }) set.element in
      let as_type : ℕ × EntityType → TypeId = λ placed. record { index = placed.0 } in
      let all : List (ℕ × EntityType) = enumerate_from 0 (model_of basis).types in
      all_pairs_map (λ one two. one ≢ two) as_type (filter keeps all)
      (AllPairs-filter (λ one two. as_type one ≢ as_type two) keeps all (λ i j d below within same.
      let less = numbers_rise (model_of basis).types i j d below within in
      let equal = ap (λ (t : TypeId). t.index) same in
      absurd (omega (arith, less, equal))))

  with_apart : (s : SetId) (t : TypeId) (atoms : List AtomOf) → AreApart (regions_with basis s t atoms)
  with_apart s t atoms = apart_map (region_with basis s t atoms) (choices (map (flags_at basis t) (basis.hosts s)))
      (λ one two has_one has_two same.
      flags_same basis t (basis.hosts s) one two (is.order s) (choice_each (flags_at basis t) (basis.hosts s) one has_one) (choice_each (flags_at basis t)
      (basis.hosts s) two has_two)
      (ap (λ (region : Region). region.linked) same))
      (choices_apart (map (flags_at basis t) (basis.hosts s))
      (All-map AreApart (flags_at basis t) (basis.hosts s) (all_from_members (λ host. AreApart (flags_at basis t host)) (basis.hosts s) (λ host has. flags_apart t host))))

  by_apart : (s : SetId) (t : TypeId) → AreApart (regions_by basis s t)
  by_apart s t = apart_flat_map (regions_with basis s t) (choices (map (atoms_at basis) (tested_props basis t)))
      (λ atoms has. with_apart s t atoms)
      (λ one two region has_one has_two by_one by_two.
      let first = map_contains (region_with basis s t one) (choices (map (flags_at basis t) (basis.hosts s))) region by_one in
      let second = map_contains (region_with basis s t two) (choices (map (flags_at basis t) (basis.hosts s))) region by_two in
      ap (λ (r : Region). r.atoms) (first.2 ∙ sym second.2))
      (choices_apart (map (atoms_at basis) (tested_props basis t))
      (All-map AreApart (atoms_at basis) (tested_props basis t) (all_from_members (λ p. AreApart (atoms_at basis p)) (tested_props basis t) (λ p has. atoms_apart p))))

  -- the type of a region by a type
  type_is : (s : SetId) (t : TypeId) (region : Region) → Contains (regions_by basis s t) region → region.ty ≡ t
  type_is s t region has =
      let of_atoms = member_of_flat_map (regions_with basis s t) (choices (map (atoms_at basis) (tested_props basis t))) region has in
      let of_flags = map_contains (region_with basis s t of_atoms.0) (choices (map (flags_at basis t) (basis.hosts s))) region of_atoms.2 in
      ap (λ (r : Region). r.ty) (sym of_flags.2)

  pub regions_apart : (s : SetId) → AreApart (regions_of basis s)
  regions_apart s = by (slice_get (model_of basis).sets s.index)
    where
      by : (found : Option EntitySet) → AreApart (option_map_or (λ set. flat_map (regions_by basis s) (types_of basis set)) found [])
      by None = pairs_nil (λ (x y : Region). x ≢ y)
      by (Some set) = apart_flat_map (regions_by basis s) (types_of basis set) (λ t has. by_apart s t)
          (λ one two region has_one has_two by_one by_two. sym (type_is s one region by_one) ∙ type_is s two region by_two) (types_apart set)
