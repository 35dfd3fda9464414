use Rattle.std.proofs.Common.{[], ◌∷◌, ◌++◌, ◌+◌, sym, refl, ◌∙◌}
use Rattle.std.proofs.lemmas.List.FromFn.{map-range_with_len_more}
use Rattle.round_trip.specs.soundness.models.Inheritance.{prop_numbered}
use Rattle.csdl_meaning.specs.Meaning.{declared_before}
use Rattle.csdl_meaning.proofs.csdl_making.types.own_props.Goals as goal

pub loop-place-preserved : goal.loop-place-preserved
loop-place-preserved c =
    let start = declared_before c.args.lookups.now.model.now c.args.owner in
    c.in_ok-push.ensures.ok ∙ (λ k. c.loop-place.invariant k ++ c.in_ok-prop_id.ensures k ∷ [])
    ∙ sym (map-range_with_len_more prop_numbered start c.loop-place.place (start + c.loop-place.place) refl)
