-- A conflict by which states have the same tables is one of the set's failures.
use Rattle.std.proofs.Common.{◌≡◌, [], List, Contains, IsTrue, Option, Some, None, refl}
use Rattle.round_trip.specs.Words.{SetId, PropId, EntitySet, FailsAt, State, Value, At, place_at}
use Rattle.round_trip.specs.declared.FailKind.TheVariants as kind
use Rattle.regions.specs.declared.region.Region.{Region}
use Rattle.regions.specs.Basis.{Basis}
use Rattle.regions.specs.Regions.{regions_of}
use Rattle.regions.proofs.region_laws.pattern.types.Regions.{PartsOf, parts_of}
use Rattle.region_states.specs.conflicts.Conflicts.{IsConflictAt}
use Rattle.region_states.specs.conflicts.SameFacts.{is_absent, is_lost}
use Rattle.region_states.specs.conflicts.There.{FailsThere}
use Rattle.region_states.specs.declared.conflicts.conflict.Conflict.{Conflict}
use Rattle.region_states.specs.declared.conflicts.conflict.Conflict.TheVariants as conflict
use Rattle.conflict_laws.specs.same.SameValues.{first_several}
use Rattle.conflict_laws.proofs.same.lost.Absent.{several_lost}
use Rattle.conflict_laws.proofs.same.lost.LeftOut.{absent_fails}
use Rattle.conflict_laws.proofs.same.lost.Lost.{lost_fails}
use Rattle.conflict_laws.proofs.same.rivals.RivalsFail.{rivals_fail}
use Rattle.conflict_laws.specs.States.{RivalStates}

module _ (basis : Basis) (given : RivalStates basis) (s : SetId) where
  -- a failure at a key of the set
  fails_of_set : (set : EntitySet) → At basis.schema.model.sets s.index set → (key : List Value) (c d : State) → FailsAt basis.schema kind.Same (place_at set.name key []) c d
      → FailsThere basis s kind.Same
  fails_of_set set is_set key c d fails = record {
    place = place_at set.name key [];
    c = c;
    d = d;
    legal = fails.legal;
    fails = (fails.fails, (set, key, is_set, refl));
  }

  -- by a lost property
  lost_there : (region : Region) → Contains (regions_of basis s) region → (p : PropId) → IsTrue (is_lost basis region p) → FailsThere basis s kind.Same
  lost_there region listed p told =
      let parts : PartsOf basis s region = parts_of basis s region listed in
      fails_of_set parts.set parts.is_set _ _ _
      (lost_fails basis given (record { s = s; region = region; listed = listed; p = p; lost = told }) parts.set parts.is_set)

  -- by a region without rows
  absent_there : (region : Region) → Contains (regions_of basis s) region → IsTrue (is_absent basis region) → FailsThere basis s kind.Same
  absent_there region listed absent = by (first_several basis region) refl
    where
      by : (found : Option PropId) → first_several basis region ≡ found → FailsThere basis s kind.Same
      by None none = let parts : PartsOf basis s region = parts_of basis s region listed in
          fails_of_set parts.set parts.is_set _ _ _
          (absent_fails basis given (record { s = s; region = region; listed = listed; absent = absent }) none parts.set parts.is_set)
      by (Some p) found = lost_there region listed p (several_lost basis (record { s = s; region = region; listed = listed; absent = absent }) p found)

  -- by any conflict of this kind
  pub same_there : (it : Conflict) → IsConflictAt basis s kind.Same it → FailsThere basis s kind.Same
  same_there (conflict.Clash of t c one two) told = absurd (let never = told.of_kind in cc)
  same_there (conflict.NullIn of t c one) told = absurd (let never = told.of_kind in cc)
  same_there (conflict.Disagree of place) told = absurd (let never = told.of_kind in cc)
  same_there (conflict.Absent region) told = absent_there region told.of_set told.holds
  same_there (conflict.Rival one two) told =
      let parts : PartsOf basis s one = parts_of basis s one told.of_set.0 in
      fails_of_set parts.set parts.is_set _ _ _
      (rivals_fail basis given (record { s = s; one = one; two = two; is_one = told.of_set.0; is_two = told.of_set.1; rivals = told.holds }) parts.set parts.is_set)
  same_there (conflict.Lost region p) told = lost_there region told.of_set p told.holds
  same_there (conflict.ManyLinks a) told = absurd told.of_set
  same_there (conflict.Unmapped a) told = absurd told.of_set
