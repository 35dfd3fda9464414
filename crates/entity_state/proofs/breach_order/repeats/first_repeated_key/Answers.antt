use Rattle.std.proofs.Common.{◌≡◌, List, ap, subst, ◌∙◌}
use Rattle.std.proofs.lemmas.Result.{IfOk-weaker}
use Rattle.std.specs.Cmp.Lexicographic.{slice_cmp}
use Rattle.emc_base.specs.Order.{value_cmp}
use Rattle.emc_base.specs.OrderLaws.{key_cmp_apart, key_cmp_total}
use Rattle.round_trip.specs.Words.{Value}
use Rattle.entity_state.specs.breach_order.Repeats.{IsFirstRepeat}
use Rattle.entity_state.proofs.breach_order.Seen.{equal_repeat}
use Rattle.entity_state.proofs.breach_order.repeats.first_repeated_key.Goals as goal

pub returns : goal.returns
returns c =
    IfOk-weaker c.first_repeat.result _ _ (λ told first.
    let P : List (List Value) → Type 0 = λ keys. IsFirstRepeat (λ (one : List Value) (other : List Value). one ≡ other) keys told in
    subst P (c.as_slice.ensures.value ∙ c.in_ok-lent.ensures) (equal_repeat (slice_cmp value_cmp) key_cmp_total key_cmp_apart c.as_slice.result.now told first)) c.first_repeat.ensures
