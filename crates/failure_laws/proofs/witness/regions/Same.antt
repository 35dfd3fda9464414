-- The two small states that are shown of rivals, of a lost property and of a region without rows have the same tables, and differ at the set.
use Rattle.std.proofs.Common.{◌≡◌, Contains, IsTrue, Option, Some, None, refl, sym, ap, subst, ◌∙◌, unwrap_or}
use Rattle.std.specs.Option.{option_map_or}
use Rattle.round_trip.specs.Words.{FailsAt, Place, PropId, SetId, State}
use Rattle.round_trip.specs.declared.FailKind.TheVariants as kind
use Rattle.cells.specs.Limits.{IsWithinLimits}
use Rattle.regions.specs.declared.region.Region.{Region}
use Rattle.regions.specs.Basis.{Basis}
use Rattle.regions.specs.Patterns.{Valuation}
use Rattle.regions.specs.Regions.{regions_of}
use Rattle.regions.specs.region_laws.IsBasis.{IsBasis}
use Rattle.regions.proofs.region_laws.listing.Listed.{set_is}
use Rattle.region_states.specs.conflicts.SameFacts.{are_rivals, is_absent, is_lost}
use Rattle.region_states.specs.conflicts.There.{NoneFailsBy}
use Rattle.region_states.specs.defaults.Defaults.{default_valuation}
use Rattle.host_states.specs.SmallStates.{small_leaving, small_rivals}
use Rattle.conflict_laws.specs.States.{RivalStates}
use Rattle.conflict_laws.specs.Told.{AbsentRegion}
use Rattle.conflict_laws.specs.rival.RivalValues.{first_values, second_values}
use Rattle.conflict_laws.specs.same.SameValues.{first_several, with_one, with_other}
use Rattle.conflict_laws.proofs.Exact.{small_states}
use Rattle.conflict_laws.proofs.same.lost.Absent.{several_lost}
use Rattle.conflict_laws.proofs.same.lost.LeftOut.{absent_fails}
use Rattle.conflict_laws.proofs.same.lost.Lost.{lost_fails}
use Rattle.conflict_laws.proofs.same.rivals.RivalsFail.{rivals_fail}
use Rattle.failure_laws.specs.Places.{IsInSet}
use Rattle.failure_laws.specs.Witnesses.{beside, of_lost}
use Rattle.failure_laws.proofs.witness.regions.Cells.{own_set}

module _ (basis : Basis) (is : IsBasis basis) (limits : IsWithinLimits basis.schema) (none : NoneFailsBy basis.schema kind.Clash) (s : SetId) (place : Place) where
  abbrev states : RivalStates basis
  states = small_states basis is limits none

  abbrev SameAt : State × State → Type 0
  SameAt both = FailsAt basis.schema kind.Same place both.0 both.1

  pub lost_pair_fails : (region : Region) → Contains (regions_of basis s) region → (p : PropId) → IsTrue (is_lost basis region p)
      → IsInSet basis region (with_one basis region p) place → SameAt (small_rivals basis 0 region (with_one basis region p) region (with_other basis region p))
  lost_pair_fails region has p told (set, here, at) =
      let both : State × State = small_rivals basis 0 region (with_one basis region p) region (with_other basis region p) in
      let P : Place → Type 0 = λ it. FailsAt basis.schema kind.Same it both.0 both.1 in
      subst P (sym at) (lost_fails basis states (record { s = region.set; region = region; listed = own_set basis is limits s region has; p = p; lost = told }) set here)

  pub rival_pair_fails : (one two : Region) → Contains (regions_of basis s) one → Contains (regions_of basis s) two → IsTrue (are_rivals basis one two)
      → IsInSet basis one (first_values basis one two) place → SameAt (small_rivals basis 0 one (first_values basis one two) two (second_values basis one two))
  rival_pair_fails one two has_one has_two told (set, here, at) =
      let both : State × State = small_rivals basis 0 one (first_values basis one two) two (second_values basis one two) in
      let P : Place → Type 0 = λ it. FailsAt basis.schema kind.Same it both.0 both.1 in
      let sets : one.set ≡ s = set_is basis s one has_one in
      subst P (sym at) (rivals_fail basis states (record {
        s = one.set;
        one = one;
        two = two;
        is_one = own_set basis is limits s one has_one;
        is_two = subst (λ u. Contains (regions_of basis u) two) (sym sets) has_two;
        rivals = told;
      }) set here)

  -- a region without rows: by its first property that may have several values, or, where there is none, by its entity and without it
  module _ (region : Region) (has : Contains (regions_of basis s) region) (told : IsTrue (is_absent basis region)) where
    abbrev at_region : AbsentRegion basis
    at_region = record { s = region.set; region = region; listed = own_set basis is limits s region has; absent = told }

    abbrev shown : Option PropId → State × Option State
    shown found = option_map_or (of_lost basis region) found (beside (small_leaving basis 0 region (default_valuation basis 0 region)))

    abbrev values_by : Option PropId → Valuation
    values_by found = option_map_or (with_one basis region) found (default_valuation basis 0 region)

    absent_by : (found : Option PropId) → first_several basis region ≡ found → IsInSet basis region (values_by found) place
        → FailsAt basis.schema kind.Same place (shown found).0 (unwrap_or (shown found).1 (shown found).0)
    absent_by None none_several (set, here, at) =
        let both : State × State = small_leaving basis 0 region (default_valuation basis 0 region) in
        let P : Place → Type 0 = λ it. FailsAt basis.schema kind.Same it both.0 both.1 in
        subst P (sym at) (absent_fails basis states at_region none_several set here)
    absent_by (Some p) found at = lost_pair_fails region has p (several_lost basis at_region p found) at

    pub absent_pair_fails : IsInSet basis region (values_by (first_several basis region)) place
        → FailsAt basis.schema kind.Same place (shown (first_several basis region)).0 (unwrap_or (shown (first_several basis region)).1 (shown (first_several basis region)).0)
    absent_pair_fails = absent_by (first_several basis region) refl
