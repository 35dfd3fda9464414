use Rattle.std.proofs.Common.{[], ◌∷◌, ◌++◌, sym, ◌∙◌, zero-add}
use Rattle.std.proofs.lemmas.List.FromFn.{map-range_with_len_more}
use Rattle.csdl_meaning.specs.Meaning.{own_props}
use Rattle.csdl_meaning.proofs.csdl_making.types.all_own_props.Goals as goal

pub loop-place-preserved : goal.loop-place-preserved
loop-place-preserved c =
    c.in_ok-push.ensures.items ∙ (λ k. c.loop-place.invariant k ++ c.in_ok-own_props.ensures k ∷ []) ∙ sym (map-range_with_len_more (own_props c.args.lookups.now.model.now) 0 c.loop-place.place c.loop-place.place (zero-add c.loop-place.place))
