-- What is shown of a conflict.
-- Source: this project's choice of the states that it shows.
use Rattle.std.specs.Prelude.{◌≡◌, None, Some}
use Rattle.round_trip.specs.Words.{Place, State}
use Rattle.round_trip.specs.declared.FailKind.{FailKind}
use Rattle.round_trip.specs.declared.FailKind.TheVariants as kind
use Rattle.regions.specs.Basis.{Basis}
use Rattle.region_states.specs.conflicts.Conflicts.{kind_of}
use Rattle.region_states.specs.declared.conflicts.conflict.Conflict.{Conflict}
use Rattle.failure_laws.specs.Places.{IsPlaceOf}
use Rattle.failure_laws.specs.Witnesses.{witness_of}
use Rattle.witness_state.specs.declared.failure.Failure.{Failure}

-- this state alone
abbrev pub shown_alone : FailKind → Place → State → Failure
shown_alone how place state = record { kind = how; place = place; state = state; other = None }

-- this state, and another with the same tables
abbrev pub shown_beside : Place → State → State → Failure
shown_beside place state other = record { kind = kind.Same; place = place; state = state; other = Some other }

-- the small states that are told of a conflict, by its kind, at a place that is told of it
pub record IsShownOf (basis : Basis) (told : Conflict) (failure : Failure) : Type 0 where
  pub of_kind : failure.kind ≡ kind_of told
  pub at_place : IsPlaceOf basis told failure.place
  pub states : (failure.state, failure.other) ≡ witness_of basis told
