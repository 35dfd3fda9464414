use Rattle.std.proofs.Common.{◌≡◌, ◌+◌, ℕ, List, length, Option, refl, sym, ap, subst, ◌∙◌}
use Rattle.std.specs.Global.{Vec}
use Rattle.std.proofs.lemmas.Grind.{length_at_push}
use Rattle.std.proofs.lemmas.Option.{slice_get_read}
use Rattle.emc_base.specs.Lists.{At}
use Rattle.round_trip.specs.Words.{Entity, Value}
use Rattle.state_legality.specs.link_legality.Standing.{AreKeyed, HasKeyed}
use Rattle.state_legality.proofs.link_legality.InOrder.{keyed_more}
use Rattle.state_legality.proofs.link_legality.standing.keys_at_ends.Goals as goal

pub loop-place-preserved : goal.loop-place-preserved
loop-place-preserved c =
    let model = c.args.model.now in
    let entities = c.args.entities.now in
    let keys = c.loop-place.keys.items in
    let here : List Entity = c.index-entities-place.result in
    let of_set : Option (Vec (List Value × ℕ)) = c.in_ok-keys_if.field-0 in
    let P : ℕ → Type 0 = λ n. At entities n here in
    let H : List Entity → Type 0 = λ list. HasKeyed model list of_set in
    let K : List (Option (Vec (List Value × ℕ))) → Type 0 = λ list. (length list ≡ c.loop-place.place + 1) × AreKeyed model entities list in
    subst K (sym c.in_ok-push.ensures.items) (
      (length_at_push keys of_set).1 ∙ ap (λ (n : ℕ). n + 1) c.loop-place.invariant.0,
      keyed_more model entities keys of_set here
          (subst P (sym c.loop-place.invariant.0) (slice_get_read _ _ c.loop-place.place _ refl c.loop-place-test.true c.index-entities-place.is))
          (subst H c.as_slice.ensures.items c.in_ok-keys_if.ensures) c.loop-place.invariant.1,
    )
