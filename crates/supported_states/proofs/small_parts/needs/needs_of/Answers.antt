use Rattle.std.proofs.Common.{◌≡◌, ◌∙◌}
use Rattle.std.proofs.lemmas.Result.{IfOk-weaker}
use Rattle.population.specs.Made.{entities_at}
use Rattle.supported_states.specs.declared.small_parts.needs.Seat.{Seat}
use Rattle.supported_states.proofs.small_parts.Beside.{needs_are}
use Rattle.supported_states.proofs.small_parts.needs.needs_of.Goals as goal

pub returns : goal.returns
returns c =
    let seat : Seat = record { model = c.args.model; row = c.args.row; one = c.args.one; placed = c.args.placed; entities = c.as_slice.result } in
    let all : seat.entities.now ≡ entities_at seat.model.now seat.row seat.one.now seat.placed.now = c.as_slice.ensures.items ∙ c.in_ok-entities.ensures in
    IfOk-weaker c.needs_at.result _ _ (λ needs is. is ∙ needs_are seat all) c.needs_at.ensures
