-- The regions of a set rise towards an entity with its links, and one that holds the entity stands equal.
use Rattle.std.proofs.Common.{◌≡◌, ◌<◌, ℕ, List, [], ◌∷◌, map, filter, flat_map, slice_get, AllPairs, Contains, Option, Some, None, Bool, not, ◌&&◌, refl, sym, ap, subst, ◌∙◌, arith}
use Rattle.std.specs.Cmp.{Equal-is, nat_cmp_is}
use Rattle.std.specs.FinMap.{nat_cmp-IsAntisymmetric}
use Rattle.std.specs.List.{AllZip, enumerate_from}
use Rattle.std.specs.Option.{option_map_or}
use Rattle.std.specs.declared.cmp.Ordering.{Ordering}
use Rattle.std.specs.declared.cmp.Ordering.TheVariants.{Less, Equal, Greater}
use Rattle.std.specs.Ordering.{nat_cmp, ordering_then}
use Rattle.std.proofs.lemmas.List.Kept.{AllPairs-filter}
use Rattle.emc_base.proofs.Numbered.{all_pairs_map, map_contains}
use Rattle.round_trip.specs.Words.{SetId, TypeId, PropId, AssocId, EntitySet, EntityType, Entity, Hosted}
use Rattle.condition_logic.specs.declared.atoms.AtomOf.{AtomOf}
use Rattle.schema_laws.proofs.state_demand.lists.Lists.{member_of_flat_map}
use Rattle.regions.specs.declared.region.Region.{Region}
use Rattle.regions.specs.Lists.{choices}
use Rattle.regions.specs.Basis.{Basis}
use Rattle.regions.specs.Regions.{Holds, TellsLinks, atoms_at, flags_at, model_of, regions_by, regions_of, regions_with, tested_props, types_of}
use Rattle.regions.specs.region_laws.IsBasis.{IsBasis}
use Rattle.regions.specs.region_laws.RegionAt.{atom_in}
use Rattle.regions.proofs.region_laws.listing.Apart.{numbers_rise}
use Rattle.regions.proofs.region_laws.lists.Choices.{choice_each, pairs_nil}
use Rattle.regions.proofs.region_laws.listing.Listed.{region_with}
use Rattle.regions.proofs.region_laws.entities.Regions.{region_only}
use Rattle.region_partition.specs.region_search.Standing.{Rises, Stand, all_cmp, host_cmp, region_cmp, told_cmp}
use Rattle.region_partition.proofs.region_search.AtomOrder.{told_itself, told_rise}
use Rattle.region_partition.proofs.region_search.FlagOrder.{by_host, flags_cmp, flags_rise}
use Rattle.region_partition.proofs.region_search.Linked.{Decides-host}
use Rattle.region_partition.proofs.region_search.Passing.{Decides-all_cmp}
use Rattle.region_partition.proofs.region_search.Rising.{all_by, choices_rise, pairs_also, pairs_joined, stand_first, stand_next}

stand_numbers : (one later number : ℕ) → one < later → Stand (nat_cmp one number) (nat_cmp later number)
stand_numbers one later number less = (
  λ is. let same = nat_cmp-IsAntisymmetric later number is in sym (nat_cmp_is one number Less (omega (arith, less, same))),
  λ is. let same = nat_cmp-IsAntisymmetric one number is in sym (nat_cmp_is later number Greater (omega (arith, less, same))),
)

-- items beside their keys
by_items : {K X : Type 0} (cmp : X → Ordering) (R : K → X → Type 0) (ks : List K) (xs : List X) → AllZip R ks xs → all_by (λ k x. cmp x) ks xs ≡ all_cmp cmp xs
by_items cmp R [] [] zipped = refl
by_items cmp R [] (x ∷ xs) zipped = absurd zipped
by_items cmp R (k ∷ ks) [] zipped = absurd zipped
by_items cmp R (k ∷ ks) (x ∷ xs) zipped = ap (ordering_then (cmp x)) (by_items cmp R ks xs zipped.1)

module _ (basis : Basis) (is : IsBasis basis) (entity : Entity) (links : List Hosted) where
  abbrev cmp : Region → Ordering
  cmp = region_cmp basis entity links

  abbrev by_prop : PropId → AtomOf → Ordering
  by_prop p told = told_cmp basis entity told

  abbrev Stands : Region → Region → Type 0
  Stands one later = Stand (cmp one) (cmp later)

  module _ (s : SetId) where
    module _ (t : TypeId) where
      abbrev flag_lists : List (List (List AssocId))
      flag_lists = choices (map (flags_at basis t) (basis.hosts s))

      abbrev atom_lists : List (List AtomOf)
      atom_lists = choices (map (atoms_at basis) (tested_props basis t))

      with_rises : (atoms : List AtomOf) → Rises cmp (regions_with basis s t atoms)
      with_rises atoms = all_pairs_map Stands (region_with basis s t atoms) flag_lists
          (pairs_also (λ one later. Stand (all_by (by_host basis links) (basis.hosts s) one) (all_by (by_host basis links) (basis.hosts s) later))
          (λ one later. Stands (region_with basis s t atoms one) (region_with basis s t atoms later)) flag_lists
          (λ one later has_one has_later stand.
          let told = all_cmp (told_cmp basis entity) atoms in
          let joined : (flags : List (List AssocId)) → Ordering = λ flags. all_cmp (host_cmp basis links (flat_map (λ flag. flag) flags)) (basis.hosts s) in
          let same : (flags : List (List AssocId)) → Contains flag_lists flags → joined flags ≡ all_by (by_host basis links) (basis.hosts s) flags = λ flags has.
          flags_cmp basis links t (basis.hosts s) flags (is.order s) (choice_each (flags_at basis t) (basis.hosts s) flags has) in
          let P : Ordering → Type 0 = λ o. Stand o (all_by (by_host basis links) (basis.hosts s) later) in
          let Q : Ordering → Type 0 = λ o. Stand (joined one) o in
          let flags : Stand (joined one) (joined later) = subst Q (sym (same later has_later)) (subst P (sym (same one has_one)) stand) in
          stand_next (nat_cmp t.index entity.ty.index) (ordering_then told (joined one)) (ordering_then told (joined later)) (stand_next told (joined one) (joined later) flags))
          (choices_rise (by_host basis links) (flags_at basis t) (basis.hosts s) (flags_rise basis links t)))

      atoms_rise : AllPairs (λ one later. Stand (all_cmp (told_cmp basis entity) one) (all_cmp (told_cmp basis entity) later)) atom_lists
      atoms_rise = pairs_also (λ one later. Stand (all_by by_prop (tested_props basis t) one) (all_by by_prop (tested_props basis t) later))
          (λ one later. Stand (all_cmp (told_cmp basis entity) one) (all_cmp (told_cmp basis entity) later)) atom_lists
          (λ one later has_one has_later stand.
          let same : (atoms : List AtomOf) → Contains atom_lists atoms → all_by by_prop (tested_props basis t) atoms ≡ all_cmp (told_cmp basis entity) atoms = λ atoms has.
          by_items (told_cmp basis entity) (λ p told. Contains (atoms_at basis p) told) (tested_props basis t) atoms
          (choice_each (atoms_at basis) (tested_props basis t) atoms has) in
          let P : Ordering → Type 0 = λ o. Stand o (all_by by_prop (tested_props basis t) later) in
          let Q : Ordering → Type 0 = λ o. Stand (all_cmp (told_cmp basis entity) one) o in
          subst Q (same later has_later) (subst P (same one has_one) stand))
          (choices_rise by_prop (atoms_at basis) (tested_props basis t) (told_rise basis is entity))

      by_rises : Rises cmp (regions_by basis s t)
      by_rises = pairs_joined (λ one later. Stand (all_cmp (told_cmp basis entity) one) (all_cmp (told_cmp basis entity) later)) Stands (regions_with basis s t) atom_lists
          (λ atoms has. with_rises atoms)
          (λ one later region other stand by_one by_later.
          let first = map_contains (region_with basis s t one) flag_lists region by_one in
          let second = map_contains (region_with basis s t later) flag_lists other by_later in
          let rest : List (List AssocId) → Ordering = λ flags. all_cmp (host_cmp basis links (flat_map (λ flag. flag) flags)) (basis.hosts s) in
          let P : Region → Type 0 = λ r. Stands r other in
          let Q : Region → Type 0 = λ r. Stands (region_with basis s t one first.0) r in
          subst P first.2 (subst Q second.2
          (stand_next (nat_cmp t.index entity.ty.index) (ordering_then (all_cmp (told_cmp basis entity) one) (rest first.0)) (ordering_then (all_cmp
          (told_cmp basis entity) later) (rest second.0))
          (stand_first (all_cmp (told_cmp basis entity) one) (all_cmp (told_cmp basis entity) later) (rest first.0) (rest second.0) stand))))
          atoms_rise

      -- the type of a region by a type
      type_is : (region : Region) → Contains (regions_by basis s t) region → region.ty ≡ t
      type_is region has =
          let of_atoms = member_of_flat_map (regions_with basis s t) atom_lists region has in
          let of_flags = map_contains (region_with basis s t of_atoms.0) flag_lists region of_atoms.2 in
          ap (λ (r : Region). r.ty) (sym of_flags.2)

    types_rise : (set : EntitySet) → AllPairs (λ one later. one.index < later.index) (types_of basis set)
    types_rise set =
        let keeps : ℕ × EntityType → Bool = λ placed. not placed.1.is_abstract && basis.is_a (record { index = placed.0 }) set.element in
        let as_type : ℕ × EntityType → TypeId = λ placed. record { index = placed.0 } in
        let all : List (ℕ × EntityType) = enumerate_from 0 (model_of basis).types in
        all_pairs_map (λ (one later : TypeId). one.index < later.index) as_type (filter keeps all)
        (AllPairs-filter (λ (one later : ℕ × EntityType). one.0 < later.0) keeps all (numbers_rise (model_of basis).types))

    pub regions_rise : Rises cmp (regions_of basis s)
    regions_rise = by (slice_get (model_of basis).sets s.index)
      where
        by : (found : Option EntitySet) → Rises cmp (option_map_or (λ set. flat_map (regions_by basis s) (types_of basis set)) found [])
        by None = pairs_nil Stands
        by (Some set) = pairs_joined (λ (one later : TypeId). one.index < later.index) Stands (regions_by basis s) (types_of basis set) (λ t has. by_rises t)
            (λ t u region other less by_t by_u.
            let first = ap (λ (one : TypeId). one.index) (type_is t region by_t) in
            let second = ap (λ (one : TypeId). one.index) (type_is u other by_u) in
            let rest : Region → Ordering = λ r. ordering_then (all_cmp (told_cmp basis entity) r.atoms) (all_cmp (host_cmp basis links r.linked) (basis.hosts r.set)) in
            stand_first (nat_cmp region.ty.index entity.ty.index) (nat_cmp other.ty.index entity.ty.index) (rest region) (rest other)
            (stand_numbers region.ty.index other.ty.index entity.ty.index (omega (arith, less, first, second))))
            (types_rise set)

    -- the entity's own atoms
    own_atoms : (ps : List PropId) → all_cmp (told_cmp basis entity) (map (atom_in basis entity) ps) ≡ Equal
    own_atoms [] = refl
    own_atoms (p ∷ ps) = ap (λ o. ordering_then o (all_cmp (told_cmp basis entity) (map (atom_in basis entity) ps))) (told_itself basis is entity p) ∙ own_atoms ps

    pub holds_equal : (region : Region) → Contains (regions_of basis s) region → Holds basis region entity links → cmp region ≡ Equal
    holds_equal region has holds =
        let typed : nat_cmp region.ty.index entity.ty.index ≡ Equal =
        sym (nat_cmp_is region.ty.index entity.ty.index Equal (sym (ap (λ (t : TypeId). t.index) holds.typed))) in
        let own : region.atoms ≡ map (atom_in basis entity) (tested_props basis entity.ty) = ap (λ (r : Region). r.atoms) (region_only basis is (record {
          s = s;
          region = region;
          entity = entity;
          links = links;
          listed = has;
          holds = holds;
        })) in
        let atoms : all_cmp (told_cmp basis entity) region.atoms ≡ Equal = ap (all_cmp (told_cmp basis entity)) own ∙ own_atoms (tested_props basis entity.ty) in
        let flags : all_cmp (host_cmp basis links region.linked) (basis.hosts region.set) ≡ Equal =
        (Equal-is (all_cmp (host_cmp basis links region.linked) (basis.hosts region.set))).0
        ((Decides-all_cmp (host_cmp basis links region.linked) (TellsLinks basis region links) (Decides-host basis region links) (basis.hosts region.set)).1 holds.flags) in
        λ k. ordering_then (typed k) (ordering_then (atoms k) (flags k))
