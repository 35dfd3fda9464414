use Rattle.std.proofs.Common.{◌+◌, ℕ, drop, sym, ap, ◌∙◌, arith}
use Rattle.round_trip.specs.Words.{Value}
use Rattle.region_states.specs.defaults.Candidates.{candidates}
use Rattle.witness_state.proofs.region_values.Among.{as_many, free_among, free_is, one_fewer, stands_here, stands_nowhere}
use Rattle.witness_state.proofs.region_values.free.free_value.Goals as goal
use Rattle.witness_state.proofs.region_values.free.free_value.Goals.{then-is_left+else-left-eq0, else-is_left}

pub returns-then-left-eq0 : goal.returns-then-left-eq0
returns-then-left-eq0 c =
    let kind = c.args.kind.now in
    let constants = c.args.constants.now in
    let value = c.in_ok-value.value in
    let place = c.loop-place.place in
    stands_here kind constants value place c.in_ok-value.ensures (sym c.if-is_left.ensures)
    ∙ ap (free_among kind constants (drop place (candidates kind))) (sym c.if-left-eq0.true)
    ∙ sym c.loop-place.invariant
    ∙ free_is kind constants c.args.before

pub loop-place-preserved : goal.loop-place-preserved
loop-place-preserved c =
    let kind = c.args.kind.now in
    let constants = c.args.constants.now in
    let value = c.in_ok-value.value in
    let place = c.loop-place.place in
    let further : ℕ → Value = free_among kind constants (drop (place + 1) (candidates kind)) in
    elim c.if-is_left.branch [
      | then-is_left+else-left-eq0 w ↦
          c.loop-place.invariant
          ∙ one_fewer kind constants value place c.in_ok-value.ensures c.loop-place.left w.if-left-eq0.false (sym w.if-is_left.ensures)
          ∙ ap further (sym w.left-is)
      | else-is_left w ↦
          c.loop-place.invariant
          ∙ as_many kind constants value place c.in_ok-value.ensures c.loop-place.left (sym w.if-is_left.ensures)
          ∙ ap further (sym w.left-is)
    ]

pub returns : goal.returns
returns c =
    let kind = c.args.kind.now in
    let constants = c.args.constants.now in
    let size = c.count_candidates-place-end.ensures.count in
    let end = c.loop-place-test.false in
    sym (c.loop-place.invariant ∙ stands_nowhere kind constants c.loop-place.place c.loop-place.left (omega (arith, size, end)))
    ∙ free_is kind constants c.args.before
