-- What is shown of a mapping that doesn't round-trip.
use Rattle.std.specs.Prelude.{◌≡◌, ◌↔◌, ◌≤◌, IsSome, unwrap_or}
use Rattle.round_trip.specs.Words.{Place, Schema, State, FailsAt, kind_number}
use Rattle.round_trip.specs.declared.FailKind.{FailKind}
use Rattle.round_trip.specs.declared.FailKind.TheVariants.{Same}
use Rattle.witness_state.specs.declared.failure.Failure.{Failure}

-- A legal state that fails, by the first kind by which any does, at a place at which it does. The other state is given exactly for the
-- kind same.
pub record IsFailureOf (schema : Schema) (failure : Failure) : Type 0 where
  pub fails : FailsAt schema failure.kind failure.place failure.state (unwrap_or failure.other failure.state)
  pub earliest : (kind : FailKind) (place : Place) (c d : State) → FailsAt schema kind place c d → kind_number failure.kind ≤ kind_number kind
  pub given : IsSome failure.other ↔ (failure.kind ≡ Same)
