use Rattle.std.proofs.Common.{◌≡◌, ◌+◌, ℕ, List, length, Option, refl, sym, ap, subst, ◌∙◌}
use Rattle.std.specs.Global.{Vec}
use Rattle.std.proofs.lemmas.Grind.{length_at_push}
use Rattle.std.proofs.lemmas.Option.{slice_get_read}
use Rattle.emc_base.specs.Lists.{At}
use Rattle.round_trip.specs.Words.{Value}
use Rattle.state_legality.specs.link_legality.Standing.{AreInOrder}
use Rattle.state_legality.proofs.link_legality.InOrder.{in_order_more}
use Rattle.state_legality.proofs.link_legality.standing.standing_in_sets.Goals as goal

pub loop-of_set-preserved : goal.loop-of_set-preserved
loop-of_set-preserved c =
    let keys = c.args.keys.now in
    let standing = c.loop-of_set.standing.items in
    let here : Option (Vec (List Value × ℕ)) = c.of_set-item.result in
    let of_set : Option (Vec (List Value × ℕ)) = c.in_ok-in_order_if.field-0 in
    let P : ℕ → Type 0 = λ n. At keys n here in
    let K : List (Option (Vec (List Value × ℕ))) → Type 0 = λ list. (length list ≡ c.loop-of_set.of_set-index + 1) × AreInOrder keys list in
    subst K (sym c.in_ok-push.ensures.items) (
      (length_at_push standing of_set).1 ∙ ap (λ (n : ℕ). n + 1) c.loop-of_set.invariant.0,
      in_order_more keys standing of_set here
          (subst P (sym c.loop-of_set.invariant.0) (slice_get_read _ _ c.loop-of_set.of_set-index _ refl c.loop-of_set-test.true c.of_set-item.is))
          c.in_ok-in_order_if.ensures c.loop-of_set.invariant.1,
    )
