use Rattle.std.proofs.Common.{◌≡◌, List, IsTrue, map, ap, subst, ◌∙◌}
use Rattle.std.specs.Ordering.{eq_by_cmp}
use Rattle.std.proofs.lemmas.Result.{IfOk-weaker}
use Rattle.entity_state.specs.breach_order.Repeats.{IsFirstRepeat}
use Rattle.round_trip.specs.Words.{Link}
use Rattle.state_legality.specs.link_legality.Once.{link_of}
use Rattle.state_legality.proofs.link_legality.Doubles.{pair_cmp, pairs_tie, repeat_of_images}
use Rattle.state_legality.proofs.link_legality.once.first_repeated_link.Goals as goal

pub returns : goal.returns
returns c =
    let are = ap (map link_of) c.as_slice.ensures.value ∙ c.in_ok-pairs.ensures in
    IfOk-weaker c.first_repeat.result _ _ (λ told first.
    let P : List Link → Type 0 = λ links. IsFirstRepeat (λ (one : Link) (other : Link). one ≡ other) links told in
    subst P are (repeat_of_images link_of (λ x y. IsTrue (eq_by_cmp pair_cmp x y)) pairs_tie c.as_slice.result.now told first)) c.first_repeat.ensures
