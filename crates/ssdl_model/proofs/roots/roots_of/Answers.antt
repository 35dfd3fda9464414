use Rattle.std.proofs.Common.{[], ◌∷◌, ◌++◌, ◌<◌, length, sym, ◌∙◌, zero-add, arith}
use Rattle.std.proofs.lemmas.List.FromFn.{map-range_with_len_more}
use Rattle.graphs.specs.base_chains.Chains.{root}
use Rattle.csdl_meaning.specs.Meaning.{base_in}
use Rattle.ssdl_model.proofs.ssdl_sound.Unbased.{top_is}
use Rattle.ssdl_model.proofs.roots.roots_of.Goals as goal

pub loop-place-preserved : goal.loop-place-preserved
loop-place-preserved c =
    let raw = c.args.store.now in
    let place = c.loop-place.place in
    let inside : place < length raw.types = omega (arith, c.loop-place-test.true, c.len-place-end.ensures.count) in
    c.in_ok-push.ensures.items
    ∙ (λ k. c.loop-place.invariant k ++ sym (top_is raw c.requires place inside) k ∷ [])
    ∙ sym (map-range_with_len_more (root (base_in raw) (length raw.types)) 0 place place (zero-add place))
