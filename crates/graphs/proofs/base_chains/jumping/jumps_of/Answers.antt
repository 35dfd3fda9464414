use Rattle.std.proofs.Common.{ℕ, List, length, get_or, slice_index, sym, subst}
use Rattle.std.proofs.lemmas.Option.{slice_get-get_or}
use Rattle.emc_base.specs.Lists.{At}
use Rattle.graphs.specs.base_chains.Chains.{base_at}
use Rattle.graphs.specs.base_chains.Jumps.{IsJump}
use Rattle.graphs.proofs.base_chains.orders.Filled.{filled_all, filled_more, made_above}
use Rattle.graphs.proofs.base_chains.Levels.{forest_by_order}
use Rattle.graphs.proofs.base_chains.jumping.jumps_of.Goals as goal

pub jump_from-jump-requires-clause-forest : goal.jump_from-jump-requires-clause-forest
jump_from-jump-requires-clause-forest c = forest_by_order c.args.bases.now c.args.order.now c.requires.order

pub jump_from-jump-requires-clause-made : goal.jump_from-jump-requires-clause-made
jump_from-jump-requires-clause-made c = λ j above.
    let base = base_at c.args.bases.now in
    let order = c.args.order.now in
    let n = c.loop-place.place-index in
    let jumps = c.loop-place.jumps.items in
    let here : At order n (get_or order n 0) = slice_get-get_or order n 0 c.loop-place-test.true in
    let Made : List ℕ → Type 0 = λ values. IsJump base j (slice_index values j) in
    subst Made (sym c.as_slice.ensures.value)
    (made_above (IsJump base) (length c.args.bases.now) base order c.requires.order n jumps c.loop-place.invariant (get_or order n 0) j here above)

pub loop-place-preserved : goal.loop-place-preserved
loop-place-preserved c =
    let base = base_at c.args.bases.now in
    let order = c.args.order.now in
    let n = c.loop-place.place-index in
    let here : At order n (get_or order n 0) = slice_get-get_or order n 0 c.loop-place-test.true in
    filled_more (IsJump base) (length c.args.bases.now) base order c.requires.order n c.loop-place.jumps.items c.loop-place.invariant (get_or order n 0) c.jump_from-jump.result here
    c.jump_from-jump.ensures

pub returns : goal.returns
returns c =
    let bases = c.args.bases.now in
    record {
      forest = forest_by_order bases c.args.order.now c.requires.order;
      depths_known = c.requires.depths;
      size = c.loop-place.invariant.size;
      up = filled_all (IsJump (base_at bases)) (length bases) (base_at bases) c.args.order.now c.requires.order c.loop-place.place-index c.loop-place.jumps.items
          c.loop-place.invariant c.loop-place-test.false;
    }
