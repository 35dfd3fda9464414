use Rattle.std.proofs.Common.{◌≡◌, ◌<◌, ℕ, List, length, get_or, slice_index, Option, None, sym, ap, ◌∙◌, arith}
use Rattle.std.specs.Option.{option_map_or}
use Rattle.std.proofs.lemmas.List.Elements.{All-contains}
use Rattle.std.proofs.lemmas.Option.{slice_get-get_or}
use Rattle.emc_base.specs.Lists.{At}
use Rattle.emc_base.proofs.Mapped.{contains_at}
use Rattle.graphs.specs.base_chains.Chains.{base_at, root}
use Rattle.graphs.proofs.base_chains.Chains.{base_read}
use Rattle.graphs.proofs.base_chains.orders.Filled.{Is, filled_all, filled_more, made_base, map_of_each}
use Rattle.graphs.proofs.base_chains.Levels.{forest_by_order}
use Rattle.graphs.proofs.base_chains.orders.Orders.{stays_within}
use Rattle.graphs.proofs.base_chains.Tops.{root_step}
use Rattle.graphs.proofs.base_chains.roots.chain_roots.Goals as goal

pub root_at-top-requires : goal.root_at-top-requires
root_at-top-requires c = λ i is.
    let bases = c.args.bases.now in
    let place = get_or c.args.order.now c.loop-place.place-index 0 in
    let inside : i < length bases = stays_within bases c.args.order.now c.requires.order place i (sym (base_read bases place) ∙ is) in
    let alike : length c.as_slice.result.now ≡ length bases = ap length c.as_slice.ensures.value ∙ c.loop-place.invariant.size in
    omega (arith, inside, alike)

pub loop-place-preserved : goal.loop-place-preserved
loop-place-preserved c =
    let bases = c.args.bases.now in
    let base = base_at bases in
    let count = length bases in
    let order = c.args.order.now in
    let n = c.loop-place.place-index in
    let roots = c.loop-place.roots.items in
    let place = get_or order n 0 in
    let here : At order n place = slice_get-get_or order n 0 c.loop-place-test.true in
    let inside : place < count = All-contains (λ j. j < count) order place c.requires.order.within (contains_at order n place here) in
    filled_more (Is (root base count)) count base order c.requires.order n roots c.loop-place.invariant place c.root_at-top.result here
    (c.root_at-top.ensures
    ∙ ap (λ (values : List ℕ). option_map_or (slice_index values) (get_or bases place None) place) c.as_slice.ensures.value
    ∙ ap (λ (o : Option ℕ). option_map_or (slice_index roots) o place) (base_read bases place)
    ∙ made_base (root base count) base count order c.requires.order n roots c.loop-place.invariant place place here
    ∙ sym (root_step base count (forest_by_order bases order c.requires.order) place inside))

pub returns : goal.returns
returns c =
    let bases = c.args.bases.now in
    let f = root (base_at bases) (length bases) in
    map_of_each f (length bases) c.loop-place.roots.items c.loop-place.invariant.size
    (filled_all (Is f) (length bases) (base_at bases) c.args.order.now c.requires.order c.loop-place.place-index c.loop-place.roots.items c.loop-place.invariant c.loop-place-test.false)
