-- What is shown of a conflict is a failure.
use Rattle.std.proofs.Common.{◌≡◌, ◌≢◌, ◌↔◌, ⊎_elim, ◌≤◌, ◌<◌, IsSome, None, Option, Some, unwrap_or, slice_get, refl, sym, subst}
use Rattle.std.specs.Option.{option_map_or}
use Rattle.std.proofs.lemmas.Bool.{cases_lt}
use Rattle.round_trip.specs.Words.{Assoc, FailsAt, Place, PropId, State, kind_number}
use Rattle.round_trip.specs.declared.FailKind.{FailKind}
use Rattle.round_trip.specs.declared.FailKind.TheVariants as kind
use Rattle.regions.specs.Basis.{Basis}
use Rattle.regions.specs.Patterns.{Valuation}
use Rattle.regions.specs.declared.pattern.Focus.{Focus}
use Rattle.regions.specs.declared.pattern.Focus.TheVariants as focus
use Rattle.regions.specs.declared.region.Region.{Region}
use Rattle.region_states.specs.conflicts.Conflicts.{kind_of}
use Rattle.region_states.specs.conflicts.There.{NoneFailsBefore}
use Rattle.region_states.specs.declared.conflicts.conflict.Conflict.{Conflict}
use Rattle.region_states.specs.declared.conflicts.conflict.Conflict.TheVariants as conflict
use Rattle.region_states.specs.defaults.Defaults.{default_valuation}
use Rattle.host_states.specs.SmallStates.{small_leaving, small_rivals}
use Rattle.conflict_laws.specs.clash.ClashValues.{clash_values}
use Rattle.conflict_laws.specs.same.SameValues.{first_several, with_one, with_other}
use Rattle.failure_laws.specs.Facts.{IsSo}
use Rattle.failure_laws.specs.Places.{IsPlaceOf}
use Rattle.failure_laws.specs.SmallLinks.{small_link, small_pair, small_shared}
use Rattle.failure_laws.specs.Witnesses.{alone, beside, empty_state, hosts_first, of_focus, witness_of}
use Rattle.witness_state.specs.declared.failure.Failure.{Failure}
use Rattle.witness_state.specs.Failures.{IsFailureOf}
use Rattle.witness_state.specs.Shown.{IsShownOf}

-- one state alone, whether there is such an association or not
alone_by : (make : Assoc → State) (empty : State) (found : Option Assoc) → (option_map_or (λ assoc. alone (make assoc)) found (alone empty)).1 ≡ None
alone_by make empty None = refl
alone_by make empty (Some assoc) = refl

-- two states, whether there is such a property or not
two_by : (make : PropId → State × State) (both : State × State) (found : Option PropId) → IsSome (option_map_or (λ p. beside (make p)) found (beside both)).1
two_by make both None = refl
two_by make both (Some p) = refl

none_given : IsSome {T = State} None → ⊥
none_given some = let never = some in (let no : ⊥ = cc in no)

-- where no other state is given, the kind isn't that of same tables
no_other : (other : Option State) (how : FailKind) → other ≡ None → how ≢ kind.Same → IsSome other ↔ (how ≡ kind.Same)
no_other other how none not_same = (λ some. absurd (none_given (subst (λ (found : Option State). IsSome found) none some)), λ same. absurd (not_same same))

module _ (basis : Basis) where
  of_focus_alone : (of : Focus) (values : Region → Valuation) → (of_focus basis of values).1 ≡ None
  of_focus_alone (focus.Entity region) values = refl
  of_focus_alone (focus.Link a) values = alone_by (λ assoc. small_link basis.schema.model 0 a assoc) (empty_state basis.schema.model) (slice_get basis.schema.model.assocs a.index)

  -- another state is given exactly for the kind of same tables
  pub other_given : (told : Conflict) → IsSo basis told → IsSome (witness_of basis told).1 ↔ (kind_of told ≡ kind.Same)
  other_given (conflict.Clash of t col one two) so =
      no_other (witness_of basis (conflict.Clash of t col one two)).1 kind.Clash (of_focus_alone of (λ region. clash_values basis region one two)) (λ same. cc)
  other_given (conflict.NullIn of t col one) so =
      no_other (witness_of basis (conflict.NullIn of t col one)).1 kind.Null (of_focus_alone of (default_valuation basis 0)) (λ same. cc)
  other_given (conflict.Disagree of name) so =
      no_other (witness_of basis (conflict.Disagree of name)).1 kind.Disagrees (of_focus_alone of (default_valuation basis 0)) (λ same. cc)
  other_given (conflict.ManyLinks a) so =
      no_other (witness_of basis (conflict.ManyLinks a)).1 kind.Clash
      (alone_by (λ assoc. small_shared basis.schema.model 0 a assoc (hosts_first basis a assoc)) (empty_state basis.schema.model) (slice_get basis.schema.model.assocs a.index)) (λ same. cc)
  other_given (conflict.Absent region) so = (
    (λ some. refl),
    (λ same. two_by (λ p. small_rivals basis 0 region (with_one basis region p) region (with_other basis region p))
        (small_leaving basis 0 region (default_valuation basis 0 region)) (first_several basis region)),
  )
  other_given (conflict.Rival one two) so = ((λ some. refl), (λ same. refl))
  other_given (conflict.Lost region p) so = ((λ some. refl), (λ same. refl))
  other_given (conflict.Unmapped a) (assoc, unmapped) = (
    (λ some. refl),
    (λ same. subst (λ (found : Option Assoc). IsSome (option_map_or (λ one. beside (small_pair basis.schema.model 0 a one)) found (alone (empty_state basis.schema.model))).1)
        (sym unmapped.is_assoc) refl),
  )

  module _ (told : Conflict) (none : NoneFailsBefore basis.schema (kind_of told)) (so : IsSo basis told)
      (fails : (place : Place) → IsPlaceOf basis told place → FailsAt basis.schema (kind_of told) place (witness_of basis told).0 (unwrap_or (witness_of basis told).1 (witness_of basis told).0)) where
    earliest : (other : FailKind) (place : Place) (c d : State) → FailsAt basis.schema other place c d → kind_number (kind_of told) ≤ kind_number other
    earliest other place c d fails_by = ⊎_elim
        (λ (before : kind_number other < kind_number (kind_of told)). absurd (none other before place c d fails_by))
        (λ (not_before : kind_number (kind_of told) ≤ kind_number other). not_before)
        (cases_lt (kind_number other) (kind_number (kind_of told)))

    -- the states that are shown fail, by the first kind by which any does
    pub becomes : (failure : Failure) → IsShownOf basis told failure → IsFailureOf basis.schema failure
    becomes failure shown =
        let Fails : FailKind → State × Option State → Type 0 = λ how states. FailsAt basis.schema how failure.place states.0 (unwrap_or states.1 states.0) in
        let Given : FailKind → Option State → Type 0 = λ how other. IsSome other ↔ (how ≡ kind.Same) in
        record {
          fails = subst (λ how. Fails how (failure.state, failure.other)) (sym shown.of_kind) (subst (Fails (kind_of told)) (sym shown.states) (fails failure.place shown.at_place));
          earliest = λ other place c d by. subst (λ how. kind_number how ≤ kind_number other) (sym shown.of_kind) (earliest other place c d by);
          given = subst (λ how. Given how failure.other) (sym shown.of_kind) (subst (λ (states : State × Option State). Given (kind_of told) states.1) (sym shown.states) (other_given told so));
        }
