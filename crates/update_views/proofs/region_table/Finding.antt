-- A table of the tests of a set's types finds the regions that hold entities.
use Rattle.std.proofs.Common.{◌≡◌, ◌+◌, ◌*◌, ◌<◌, ⊎_elim, ℕ, List, [], ◌∷◌, ◌++◌, map, filter, flat_map, length, slice_get, min, All, Contains, Bool, true, false, Option, Some, None, option_and_then, option_map, if◌then◌else◌, refl, sym, ap, subst, ◌∙◌, append-nil, zero-mul, zero-add, arith}
use Rattle.std.specs.List.{AllZip, enumerate_from}
use Rattle.std.specs.Option.{option_map_or}
use Rattle.std.proofs.lemmas.List.{length-map}
use Rattle.std.proofs.lemmas.List.Elements.{All-cons, All-nil, All-contains}
use Rattle.std.proofs.lemmas.Option.{same_Some, slice_get_within}
use Rattle.emc_base.specs.Lists.{At}
use Rattle.emc_base.proofs.Lists.{all_from_members}
use Rattle.emc_base.proofs.Numbered.{enumerated_at, filter_contains, map_contains}
use Rattle.emc_base.proofs.Joined.{at_map}
use Rattle.round_trip.specs.Words.{SetId, TypeId, PropId, AssocId, EntityType, EntitySet, Entity, Hosted, props_of}
use Rattle.round_trip.specs.soundness.mappings.Joined.{prop}
use Rattle.condition_logic.specs.declared.atoms.AtomOf.{AtomOf}
use Rattle.schema_laws.proofs.state_demand.lists.Lists.{member_cases, none_in_nil}
use Rattle.regions.specs.declared.region.Region.{Region}
use Rattle.regions.specs.Basis.{Basis, Host}
use Rattle.regions.specs.Lists.{choices}
use Rattle.regions.specs.Regions.{Holds, atoms_at, flags_at, model_of, regions_by, regions_of, regions_with, tested_props, types_of}
use Rattle.regions.specs.region_laws.RegionAt.{flag_in}
use Rattle.regions.proofs.region_laws.lists.Choices.{choice_each, zip_too}
use Rattle.regions.proofs.region_laws.entities.Flags.{InOrder, IsFlag, Tells, flags_told}
use Rattle.regions.proofs.region_laws.listing.Listed.{IsListed, is_listed, region_with}
use Rattle.region_partition.specs.region_lists.Counts.{capped}
use Rattle.update_views.specs.declared.region_table.telling.Test.{Test}
use Rattle.update_views.specs.declared.region_table.numbering.TypeTests.{TypeTests}
use Rattle.update_views.specs.region_table.Finds.{Finds}
use Rattle.update_views.specs.region_table.Made.{AreTypeTests, count_before, is_type_of, link_test, tests_by, type_tests, types_before, value_test}
use Rattle.update_views.specs.region_table.Numbers.{numbered, place_by, place_in}
use Rattle.update_views.proofs.region_table.Links.{Telling, link_found, link_size, link_there, tells_all}
use Rattle.update_views.proofs.region_table.Digits.{Chosen, chosen, numbered_parts, some_number}
use Rattle.update_views.proofs.region_table.Standing.{at_even}
use Rattle.update_views.proofs.region_table.Types.{among_all, at_numbered}
use Rattle.update_views.proofs.region_table.Values.{Holding, value_found, value_there}

module _ {K C : Type 0} where
  -- what stands beside an item
  beside : (R : K → C → Type 0) (ks : List K) (cs : List C) → AllZip R ks cs → (k : K) → Contains ks k → (c : C) × R k c
  beside R [] [] zipped k has = absurd (none_in_nil k has)
  beside R [] (c ∷ cs) zipped k has = absurd zipped
  beside R (one ∷ ks) [] zipped k has = absurd zipped
  beside R (one ∷ ks) (c ∷ cs) zipped k has = ⊎_elim
      (λ (here : k ≡ one). (c, subst (λ item. R item c) (sym here) zipped.0))
      (λ (later : Contains ks k). beside R ks cs zipped.1 k later)
      (member_cases one ks k has)

  -- what stands beside an item by a function
  beside_image : (R : K → C → Type 0) (g : K → C) (ks : List K) → AllZip R ks (map g ks) → (k : K) → Contains ks k → R k (g k)
  beside_image R g [] zipped k has = absurd (none_in_nil k has)
  beside_image R g (one ∷ ks) zipped k has = ⊎_elim
      (λ (here : k ≡ one). subst (λ item. R item (g item)) (sym here) zipped.0)
      (λ (later : Contains ks k). beside_image R g ks zipped.1 k later)
      (member_cases one ks k has)

  -- the second items, each beside a first one
  seconds : (P : C → Type 0) (R : K → C → Type 0) → ((k : K) (c : C) → R k c → P c) → (ks : List K) (cs : List C) → AllZip R ks cs → All P cs
  seconds P R each [] [] zipped = All-nil P
  seconds P R each [] (c ∷ cs) zipped = absurd zipped
  seconds P R each (k ∷ ks) [] zipped = absurd zipped
  seconds P R each (k ∷ ks) (c ∷ cs) zipped = All-cons P c cs (each k c zipped.0) (seconds P R each ks cs zipped.1)

module _ (basis : Basis) (s : SetId) (order : InOrder (basis.hosts s)) (entity : Entity) (links : List Hosted) where
  abbrev own : TypeId
  own = entity.ty

  abbrev values : List Test
  values = map (value_test basis (props_of (model_of basis) own)) (tested_props basis own)

  abbrev flags : List Test
  flags = map (link_test basis own) (basis.hosts s)

  has_prop : (p : PropId) → Contains (tested_props basis own) p → Contains (props_of (model_of basis) own) p
  has_prop p has = (filter_contains (λ one. basis.tested (prop one)) (props_of (model_of basis) own) p has).0

  -- the region at a number, among those of the entity's type
  record Placed (number : ℕ) : Type 0 where
    region : Region
    place : ℕ
    stands : At (regions_by basis s own) place region
    holds : Holds basis region entity links
    is : number ≡ capped place

  placed : (n : ℕ) → numbered entity links 0 (values ++ flags) ≡ Some n → Placed n
  placed n is =
      let parts = numbered_parts entity links values flags 0 n is in
      let none : 0 ≡ capped 0 = refl in
      let first : Chosen entity links (atoms_at basis) (Holding basis entity) (tested_props basis own) 0 parts.0 =
      chosen entity links (atoms_at basis) (Holding basis entity) (value_test basis (props_of (model_of basis) own)) (λ p. refl) (tested_props basis own) 0 0 parts.0
      (λ p has digit at. value_found basis entity links p (has_prop p has) digit at) none parts.1 in
      let before = 0 * length (choices (map (atoms_at basis) (tested_props basis own))) + first.place in
      let second : Chosen entity links (flags_at basis own) (Telling basis own entity links) (basis.hosts s) before n =
      chosen entity links (flags_at basis own) (Telling basis own entity links) (link_test basis own) (link_size basis own) (basis.hosts s) before parts.0 n
      (λ host has digit at. link_found basis own entity links host digit at) first.is parts.2 in
      let all = length (choices (map (flags_at basis own) (basis.hosts s))) in
      let alone : before ≡ first.place =
      ap (λ m. m + first.place) (zero-mul (length (choices (map (atoms_at basis) (tested_props basis own))))) ∙ zero-add first.place in
      record {
        region = region_with basis s own first.choice second.choice;
        place = first.place * all + second.place;
        stands = at_even (regions_with basis s own) all
            (λ one. length-map (choices (map (flags_at basis own) (basis.hosts s))) (region_with basis s own one))
            (choices (map (atoms_at basis) (tested_props basis own))) first.place second.place first.choice
            (region_with basis s own first.choice second.choice) first.stands
            (at_map (region_with basis s own first.choice) (choices (map (flags_at basis own) (basis.hosts s))) second.place second.choice second.stands);
        holds = record {
          typed = refl;
          atoms = seconds (λ told. Holding basis entity told.prop told) (Holding basis entity) (λ p told holds. holds) (tested_props basis own) first.choice first.good;
          flags = all_from_members (λ host. Tells basis own links (flat_map (λ flag. flag) second.choice) host) (basis.hosts s)
              (tells_all basis own entity links (basis.hosts s) second.choice order second.good);
        };
        is = second.is ∙ ap (λ m. capped (m * all + second.place)) alone;
      }

  -- where a listed region holds the entity there is a number
  counted : (region : Region) (by : IsListed basis s region) → Holds basis region entity links → (n : ℕ) × (numbered entity links 0 (values ++ flags) ≡ Some n)
  counted region by holds =
      let type_is : by.ty ≡ own = ap (λ (r : Region). r.ty) (sym by.is) ∙ sym holds.typed in
      let P : TypeId → Type 0 = λ t. AllZip (λ p told. Contains (atoms_at basis p) told) (tested_props basis t) by.atoms in
      let Q : TypeId → Type 0 = λ t. AllZip (IsFlag basis t) (basis.hosts s) by.flags in
      let are_atoms = subst P type_is (choice_each (atoms_at basis) (tested_props basis by.ty) by.atoms by.are_atoms) in
      let are_flags = subst Q type_is (choice_each (flags_at basis by.ty) (basis.hosts s) by.flags by.are_flags) in
      let L : AtomOf → Type 0 = λ told. Holding basis entity told.prop told in
      let lie = subst (λ (atoms : List AtomOf). All L atoms) (ap (λ (r : Region). r.atoms) by.is) holds.atoms in
      let both = zip_too (λ (p : PropId) (told : AtomOf). Contains (atoms_at basis p) told) L (tested_props basis own) by.atoms are_atoms lie in
      let T : Region → Type 0 = λ r. (host : Host) → Contains (basis.hosts r.set) host → Tells basis own links r.linked host in
      let tells : T (region_with basis s by.ty by.atoms by.flags) =
      subst T by.is (λ host has. All-contains (λ one. Tells basis own links region.linked one) (basis.hosts region.set) host holds.flags has) in
      let told : by.flags ≡ map (flag_in basis own links) (basis.hosts s) = flags_told basis own links (basis.hosts s) by.flags order are_flags tells in
      let F : List (List AssocId) → Type 0 = λ list. AllZip (IsFlag basis own) (basis.hosts s) list in
      let each = beside_image (IsFlag basis own) (flag_in basis own links) (basis.hosts s) (subst F told are_flags) in
      let last = some_number entity links (link_test basis own) (basis.hosts s) [] (λ host has. link_there basis own entity links host (each host has)) (λ number. (number, refl)) in
      let ends : flags ++ [] ≡ flags = append-nil flags in
      some_number entity links (value_test basis (props_of (model_of basis) own)) (tested_props basis own) flags
      (λ p has. let found = beside (λ (one : PropId) (told : AtomOf). L told × Contains (atoms_at basis one) told) (tested_props basis own) by.atoms both p has in
      value_there basis entity links p (has_prop p has) found.0 found.1.1 found.1.0)
      (λ number. let number_at = last number in (number_at.0, subst (λ tests. numbered entity links number tests ≡ Some number_at.0) ends number_at.1))
      0

module _ (basis : Basis) (s : SetId) (order : InOrder (basis.hosts s)) (few : length (regions_of basis s) < 1048576) where
  module _ (set : EntitySet) (here : At (model_of basis).sets s.index set) where
    abbrev kept : List (Option TypeTests)
    kept = map (type_tests basis s set) (enumerate_from 0 (model_of basis).types)

    abbrev by_found : Entity → List Hosted → Option (Option TypeTests) → Option ℕ
    by_found entity links found = option_and_then (λ one. option_and_then (λ made. place_by made entity links) one) found

    abbrev all : List Region
    all = flat_map (regions_by basis s) (types_of basis set)

    are_all : regions_of basis s ≡ all
    are_all = ap (λ (found : Option EntitySet). option_map_or (λ one. flat_map (regions_by basis s) (types_of basis one)) found []) here

    module _ (entity : Entity) (links : List Hosted) where
      abbrev i : ℕ
      i = entity.ty.index

      place_is : place_in (record { types = kept }) entity links ≡ by_found entity links (option_map (λ declared. type_tests basis s set (i, declared)) (slice_get (model_of basis).types i))
      place_is = ap (by_found entity links) (at_numbered (type_tests basis s set) (model_of basis).types i)

      abbrev Found : ℕ → Type 0
      Found place = (region : Region) × At (regions_of basis s) place region × Holds basis region entity links

      -- the place by the entity's number
      at_number : (declared : EntityType) → At (model_of basis).types i declared → is_type_of basis set (i, declared) ≡ true → (place : ℕ)
          → place_by (tests_by basis s entity.ty (count_before basis s set i)) entity links ≡ Some place → Found place
      at_number declared stands listed place = by (numbered entity links 0 (tests_by basis s entity.ty (count_before basis s set i)).tests) refl
        where
          by : (number : Option ℕ) → numbered entity links 0 (tests_by basis s entity.ty (count_before basis s set i)).tests ≡ number
              → option_map (λ n. count_before basis s set i + n) number ≡ Some place → Found place
          by None at is = cc
          by (Some n) at is =
              let made = placed basis s order entity links n at in
              let before : ℕ = length (flat_map (regions_by basis s) (types_before basis set i)) in
              let inside = among_all basis s set i declared stands listed made.place made.region made.stands in
              let R : List Region → Type 0 = λ regions. At regions (before + made.place) made.region in
              let among : At (regions_of basis s) (before + made.place) made.region = subst R (sym are_all) inside in
              let below : before + made.place < length (regions_of basis s) = slice_get_within (regions_of basis s) (before + made.place) made.region among in
              let number : n ≡ min made.place 1048576 = made.is in
              let given : min before 1048576 + n ≡ place = same_Some (min before 1048576 + n) place is in
              let bound : length (regions_of basis s) < 1048576 = few in
              let same : before + made.place ≡ place = omega (arith, below, number, given, bound) in
              (made.region, subst (λ (k : ℕ). At (regions_of basis s) k made.region) same among, made.holds)

      found : (place : ℕ) → place_in (record { types = kept }) entity links ≡ Some place → Found place
      found place is = by (slice_get (model_of basis).types i) refl (sym place_is ∙ is)
        where
          listed : (declared : EntityType) → At (model_of basis).types i declared → (b : Bool) → is_type_of basis set (i, declared) ≡ b
              → option_and_then (λ made. place_by made entity links) (if b then Some (tests_by basis s entity.ty (count_before basis s set i)) else None) ≡ Some place → Found place
          listed declared stands true is given = at_number declared stands is place given
          listed declared stands false is given = cc

          by : (type : Option EntityType) → slice_get (model_of basis).types i ≡ type
              → by_found entity links (option_map (λ declared. type_tests basis s set (i, declared)) type) ≡ Some place → Found place
          by None stands given = cc
          by (Some declared) stands given = listed declared stands (is_type_of basis set (i, declared)) refl given

      -- a type of the set has tests
      told_at : (declared : EntityType) → At (model_of basis).types i declared → is_type_of basis set (i, declared) ≡ true
          → place_in (record { types = kept }) entity links ≡ place_by (tests_by basis s entity.ty (count_before basis s set i)) entity links
      told_at declared stands listed =
          place_is
          ∙ ap (λ (type : Option EntityType). by_found entity links (option_map (λ one. type_tests basis s set (i, one)) type)) stands
          ∙ ap (λ (b : Bool). option_and_then (λ made. place_by made entity links) (if b then Some (tests_by basis s entity.ty (count_before basis s set i)) else None)) listed

      none : place_in (record { types = kept }) entity links ≡ None → (region : Region) → Contains (regions_of basis s) region → ¬ Holds basis region entity links
      none is region has holds =
          let by : IsListed basis s region = is_listed basis s region has in
          let same : by.set ≡ set = same_Some by.set set (sym by.is_set ∙ here) in
          let is_type = subst (λ (one : EntitySet). Contains (types_of basis one) by.ty) same by.is_type in
          let entry = map_contains (λ (placed : ℕ × EntityType). record { index = placed.0 }) (filter (is_type_of basis set) (enumerate_from 0 (model_of basis).types)) by.ty is_type in
          let passed = filter_contains (is_type_of basis set) (enumerate_from 0 (model_of basis).types) entry.0 entry.1 in
          let stands = enumerated_at (model_of basis).types entry.0 passed.0 in
          let index : entry.0.0 ≡ i = ap (λ (t : TypeId). t.index) (entry.2 ∙ ap (λ (r : Region). r.ty) (sym by.is) ∙ sym holds.typed) in
          let A : ℕ → Type 0 = λ k. At (model_of basis).types k entry.0.1 in
          let B : ℕ → Type 0 = λ k. is_type_of basis set (k, entry.0.1) ≡ true in
          let number = counted basis s order entity links region by holds in
          let told = told_at entry.0.1 (subst A index stands) (subst B index passed.1) in
          let some = ap (option_map (λ n. count_before basis s set i + n)) number.1 in
          let never = sym is ∙ told ∙ some in
          cc

  pub finds : (types : List (Option TypeTests)) → AreTypeTests basis s types → Finds basis s (record { types = types })
  finds types tests = subst (λ (list : List (Option TypeTests)). Finds basis s (record { types = list })) (sym tests.are) (by (slice_get (model_of basis).sets s.index) refl)
    where
      by : (set : Option EntitySet) → slice_get (model_of basis).sets s.index ≡ set
          → Finds basis s (record { types = option_map_or (λ one. map (type_tests basis s one) (enumerate_from 0 (model_of basis).types)) set [] })
      by None here = record {
        found = λ entity links place is. cc;
        none = λ entity links is region has holds.
            let no_region = ap (λ (set : Option EntitySet). option_map_or (λ one. flat_map (regions_by basis s) (types_of basis one)) set []) here in
            none_in_nil region (subst (λ (regions : List Region). Contains regions region) no_region has);
      }
      by (Some set) here = record { found = found set here; none = none set here }
