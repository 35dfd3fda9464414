-- What is shown of rivals, of a lost property and of a region without rows.
use Rattle.std.proofs.Common.{◌≡◌, ◌<◌, inl, inr, [], length, Contains, None, Some, Option, IsTrue, refl, sym, ap, subst, ◌∙◌, arith}
use Rattle.std.specs.Option.{option_map_or}
use Rattle.std.proofs.lemmas.Option.{slice_get_within}
use Rattle.round_trip.specs.Words.{At, Entity, EntitySet, Place, PropId, SetId, State, key_of, place_at}
use Rattle.round_trip.specs.declared.FailKind.TheVariants as kind
use Rattle.cells.specs.Parts.{schema_in}
use Rattle.cells.specs.declared.parts.Parts.{Parts}
use Rattle.regions.specs.Basis.{Basis}
use Rattle.regions.specs.Patterns.{Valuation}
use Rattle.regions.specs.Regions.{regions_of}
use Rattle.regions.specs.declared.region.Region.{Region}
use Rattle.regions.proofs.region_laws.pattern.types.Regions.{parts_of}
use Rattle.region_states.specs.conflicts.SameFacts.{are_rivals, is_absent, is_lost}
use Rattle.region_states.specs.conflicts.There.{NoneFailsBefore, NoneFailsBy}
use Rattle.region_states.specs.declared.conflicts.conflict.Conflict.TheVariants as conflict
use Rattle.region_states.specs.defaults.Defaults.{default_valuation}
use Rattle.region_states.specs.Entities.{focus_entity}
use Rattle.region_states.specs.region_basis.BasisOf.{basis_of}
use Rattle.region_states.proofs.region_basis.Bases.{basis_is}
use Rattle.host_states.specs.Hosting.{HasOneEntityPerKey, HaveFewPartners}
use Rattle.host_states.specs.SmallStates.{small_leaving, small_rivals}
use Rattle.conflict_laws.specs.rival.RivalValues.{first_values, second_values}
use Rattle.conflict_laws.specs.same.SameValues.{first_several, with_one, with_other}
use Rattle.conflict_laws.proofs.same.lost.Absent.{several_lost}
use Rattle.failure_laws.specs.Facts.{TellsOfOne}
use Rattle.failure_laws.specs.Places.{IsInSet}
use Rattle.failure_laws.specs.Witnesses.{beside, of_lost}
use Rattle.failure_laws.proofs.witness.Computed.{fact_computed}
use Rattle.failure_laws.proofs.witness.facts.LeftOut.{absent_computed, lost_so}
use Rattle.witness_state.specs.declared.failure.Failure.{Failure}
use Rattle.witness_state.specs.FirstConflict.{IsFirstConflict}
use Rattle.witness_state.specs.Shown.{IsShownOf, shown_beside}
use Rattle.witness_state.specs.Small.{ArePair, HasValues}
use Rattle.witness_state.proofs.told.Listed.{region_listed}
use Rattle.witness_state.proofs.told.Pairs.{few_partners, lost_pair, one_entity, rival_pair}
use Rattle.witness_state.proofs.told.Values.{usual_has}

module _ (parts : Parts) where
  abbrev basis : Basis
  basis = basis_of parts

  -- no state fails by a clash
  pub clear : NoneFailsBefore (schema_in parts) kind.Same → NoneFailsBy (schema_in parts) kind.Clash
  clear before = before kind.Clash (omega arith)

  -- a place in the set of a region, where it has one
  abbrev pub IsAtKey : Region → Entity → Place → Type 0
  IsAtKey region entity place = (set : EntitySet) → At (schema_in parts).model.sets region.set.index set → place ≡ place_at set.name (key_of (schema_in parts).model entity) []

  module _ (s : SetId) (region : Region) (has : Contains (regions_of basis s) region) where
    pub set_within : region.set.index < length (schema_in parts).model.sets
    set_within =
        let of = parts_of basis s region has in
        subst (λ (t : SetId). t.index < length (schema_in parts).model.sets) (sym of.of_set) (slice_get_within (schema_in parts).model.sets s.index of.set of.is_set)

    in_set : (values : Valuation) (entity : Entity) → entity ≡ focus_entity basis region values → (place : Place) → IsAtKey region entity place → IsInSet basis region values place
    in_set values entity is place at =
        let of = parts_of basis s region has in
        let here = subst (λ (t : SetId). At (schema_in parts).model.sets t.index of.set) (sym of.of_set) of.is_set in
        (of.set, here, at of.set here ∙ ap (λ (e : Entity). place_at of.set.name (key_of (schema_in parts).model e) []) is)

  module _ (one two : Region) (first : IsFirstConflict parts (conflict.Rival one two)) where
    rivals_listed : TellsOfOne basis (conflict.Rival one two) → (s : SetId) × (Contains (regions_of basis s) one × Contains (regions_of basis s) two)
    rivals_listed (inl found) = found
    rivals_listed (inr (a, never)) = absurd never

    abbrev listed : (s : SetId) × (Contains (regions_of basis s) one × Contains (regions_of basis s) two)
    listed = rivals_listed first.of_one

    rival_fact : IsTrue (are_rivals basis one two)
    rival_fact = fact_computed basis (basis_is parts first.are) first.are.limits (conflict.Rival one two) first.of_one first.earlier first.so

    pub rival_few : HaveFewPartners basis
    rival_few = few_partners parts first.are (clear first.earlier)

    pub rival_within : one.set.index < length (schema_in parts).model.sets
    rival_within = set_within listed.0 one listed.1.0

    pub rivals_paired : (near far : Entity) → near ≡ focus_entity basis one (first_values basis one two) → far ≡ focus_entity basis two (second_values basis one two)
        → ArePair basis 0 one two near far (first_values basis one two) (second_values basis one two)
    rivals_paired near far near_is far_is = rival_pair parts first.are (clear first.earlier) listed.0 one two listed.1.0 listed.1.1 rival_fact near far near_is far_is

    pub rivals_shown : (near far : Entity) → near ≡ focus_entity basis one (first_values basis one two) → far ≡ focus_entity basis two (second_values basis one two)
        → (place : Place) → IsAtKey one near place → (states : State × State)
        → ((values others : Valuation) → ArePair basis 0 one two near far values others
        → (states.0 ≡ (small_rivals basis 0 one values two others).0) × (states.1 ≡ (small_rivals basis 0 one values two others).1))
        → IsShownOf basis (conflict.Rival one two) (shown_beside place states.0 states.1)
    rivals_shown near far near_is far_is place at states small =
        let both = small (first_values basis one two) (second_values basis one two) (rivals_paired near far near_is far_is) in
        record { of_kind = refl; at_place = in_set listed.0 one listed.1.0 (first_values basis one two) near near_is place at; states = λ k. (both.0 k, Some (both.1 k)) }

  module _ (region : Region) (p : PropId) (first : IsFirstConflict parts (conflict.Lost region p)) where
    abbrev lost_listed : (s : SetId) × Contains (regions_of basis s) region
    lost_listed = region_listed basis region first.of_one

    -- the property is lost, as it is computed
    lost_fact : IsTrue (is_lost basis region p)
    lost_fact = fact_computed basis (basis_is parts first.are) first.are.limits (conflict.Lost region p) first.of_one first.earlier first.so

    pub lost_few : HaveFewPartners basis
    lost_few = few_partners parts first.are (clear first.earlier)

    pub lost_within : region.set.index < length (schema_in parts).model.sets
    lost_within = set_within lost_listed.0 region lost_listed.1

    pub lost_paired : (near far : Entity) → near ≡ focus_entity basis region (with_one basis region p) → far ≡ focus_entity basis region (with_other basis region p)
        → ArePair basis 0 region region near far (with_one basis region p) (with_other basis region p)
    lost_paired near far near_is far_is = lost_pair parts first.are (clear first.earlier) lost_listed.0 region lost_listed.1 p lost_fact near far near_is far_is

    pub lost_shown : (near far : Entity) → near ≡ focus_entity basis region (with_one basis region p) → far ≡ focus_entity basis region (with_other basis region p)
        → (place : Place) → IsAtKey region near place → (states : State × State)
        → ((values others : Valuation) → ArePair basis 0 region region near far values others
        → (states.0 ≡ (small_rivals basis 0 region values region others).0) × (states.1 ≡ (small_rivals basis 0 region values region others).1))
        → IsShownOf basis (conflict.Lost region p) (shown_beside place states.0 states.1)
    lost_shown near far near_is far_is place at states small =
        let both = small (with_one basis region p) (with_other basis region p) (lost_paired near far near_is far_is) in
        record { of_kind = refl; at_place = in_set lost_listed.0 region lost_listed.1 (with_one basis region p) near near_is place at; states = λ k. (both.0 k, Some (both.1 k)) }

  module _ (region : Region) (first : IsFirstConflict parts (conflict.Absent region)) where
    abbrev absent_listed : (s : SetId) × Contains (regions_of basis s) region
    absent_listed = region_listed basis region first.of_one

    abbrev usual : Valuation
    usual = default_valuation basis 0 region

    -- it has no row, as it is computed
    absent_fact : IsTrue (is_absent basis region)
    absent_fact = absent_computed basis region first.so

    pub several_first : (p : PropId) → first_several basis region ≡ Some p → IsFirstConflict parts (conflict.Lost region p)
    several_first p found = record {
      are = first.are;
      of_one = first.of_one;
      so = lost_so basis region p (several_lost basis (record { s = absent_listed.0; region = region; listed = absent_listed.1; absent = absent_fact }) p found);
      earlier = first.earlier;
    }

    pub several_shown : (p : PropId) → first_several basis region ≡ Some p → (failure : Failure) → IsShownOf basis (conflict.Lost region p) failure
        → IsShownOf basis (conflict.Absent region) failure
    several_shown p found failure shown =
        let values : Option PropId → Valuation = λ several. option_map_or (with_one basis region) several usual in
        record {
          of_kind = shown.of_kind;
          at_place = subst (λ several. IsInSet basis region (values several) failure.place) (sym found) shown.at_place;
          states = shown.states ∙ sym (ap (λ several. option_map_or (of_lost basis region) several (beside (small_leaving basis 0 region usual))) found);
        }

    pub absent_few : HaveFewPartners basis
    absent_few = few_partners parts first.are (clear first.earlier)

    pub absent_within : region.set.index < length (schema_in parts).model.sets
    absent_within = set_within absent_listed.0 region absent_listed.1

    pub absent_one : first_several basis region ≡ None → HasOneEntityPerKey basis region
    absent_one none = one_entity parts first.are (clear first.earlier) absent_listed.0 region absent_listed.1 absent_fact none

    pub absent_has : (entity : Entity) → entity ≡ focus_entity basis region usual → HasValues basis 0 region entity usual
    absent_has entity is = usual_has parts first.are absent_listed.0 region absent_listed.1 0 (omega arith) entity is

    pub absent_shown : first_several basis region ≡ None → (entity : Entity) → entity ≡ focus_entity basis region usual → (place : Place) → IsAtKey region entity place
        → (states : State × State)
        → ((values : Valuation) → HasValues basis 0 region entity values → (states.0 ≡ (small_leaving basis 0 region values).0) × (states.1 ≡ (small_leaving basis 0 region values).1))
        → IsShownOf basis (conflict.Absent region) (shown_beside place states.0 states.1)
    absent_shown none entity is place at states small =
        let both = small usual (absent_has entity is) in
        let values : Option PropId → Valuation = λ several. option_map_or (with_one basis region) several usual in
        let left : (states.0, Some states.1) ≡ beside (small_leaving basis 0 region usual) = λ k. (both.0 k, Some (both.1 k)) in
        record {
          of_kind = refl;
          at_place = subst (λ several. IsInSet basis region (values several) place) (sym none) (in_set absent_listed.0 region absent_listed.1 usual entity is place at);
          states = left ∙ sym (ap (λ several. option_map_or (of_lost basis region) several (beside (small_leaving basis 0 region usual))) none);
        }
