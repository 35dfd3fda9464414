use Rattle.std.proofs.Common.{◌≡◌, ◌+◌, ◌*◌, ◌^◌, ◌<◌, ◌≤◌, ℕ, List, length, get_or, slice_index, Option, None, sym, ap, subst, ◌∙◌, arith}
use Rattle.std.specs.Option.{option_map_or}
use Rattle.std.proofs.Math.Facts.{Fits-lt-pow}
use Rattle.std.proofs.lemmas.Option.{slice_get-get_or}
use Rattle.emc_base.specs.Lists.{At}
use Rattle.graphs.specs.base_chains.Chains.{base_at}
use Rattle.graphs.proofs.base_chains.Chains.{base_read}
use Rattle.graphs.proofs.base_chains.orders.Orders.{order_short, stays_within}
use Rattle.graphs.proofs.base_chains.orders.Sums.{few_above, sizing_all, sizing_more}
use Rattle.graphs.proofs.base_chains.sizes.chain_sizes.Goals as goal

pub size_at-inherited-requires : goal.size_at-inherited-requires
size_at-inherited-requires c = λ i is.
    let bases = c.args.bases.now in
    let place = get_or c.args.order.now c.loop-place.place-index 0 in
    let inside : i < length bases = stays_within bases c.args.order.now c.requires.order place i (sym (base_read bases place) ∙ is) in
    let alike : length c.as_slice.result.now ≡ length bases = ap length c.as_slice.ensures.value ∙ c.loop-place.invariant.filled.size in
    omega (arith, inside, alike)

pub overflow_add-inherited : goal.overflow_add-inherited
overflow_add-inherited c =
    let bases = c.args.bases.now in
    let order = c.args.order.now in
    let n = c.loop-place.place-index in
    let place = get_or order n 0 in
    let upper : c.size_at-inherited.result ≤ n * 4294967295 =
    let Few : List ℕ → Type 0 = λ sizes. option_map_or (slice_index sizes) (get_or bases place None) 0 ≤ n * 4294967295 in
    let few : option_map_or (slice_index c.as_slice.result.now) (get_or bases place None) 0 ≤ n * 4294967295 =
    subst Few (sym c.as_slice.ensures.value)
    (few_above (base_at bases) (length bases) c.args.own.now order c.requires.order (stays_within bases order c.requires.order) n c.loop-place.sizes.items
    c.loop-place.invariant (get_or bases place None)) in
    let is = c.size_at-inherited.ensures in
    omega (arith, few, is) in
    let mine : c.from.result ≤ 4294967295 =
    let fits : get_or c.args.own.now place 0 < 2 ^ 32 = Fits-lt-pow (c.type_inv.own place) in
    let is = c.from.ensures in
    omega (arith, fits, is) in
    let short : length order ≤ length bases = order_short (base_at bases) (length bases) order c.requires.order in
    let few : length bases < 4294967296 = c.requires.few in
    let passed : n < length order = c.loop-place-test.true in
    omega (arith, upper, mine, short, few, passed)

pub loop-place-preserved : goal.loop-place-preserved
loop-place-preserved c =
    let bases = c.args.bases.now in
    let order = c.args.order.now in
    let n = c.loop-place.place-index in
    let place = get_or order n 0 in
    let here : At order n place = slice_get-get_or order n 0 c.loop-place-test.true in
    let small : slice_index c.args.own.now place ≤ 4294967295 =
    let fits : get_or c.args.own.now place 0 < 2 ^ 32 = Fits-lt-pow (c.type_inv.own place) in
    omega (arith, fits) in
    let is : c.size_at-inherited.result + c.from.result ≡ option_map_or (slice_index c.loop-place.sizes.items) (base_at bases place) 0 + slice_index c.args.own.now place =
    ap (λ upper. upper + c.from.result) (c.size_at-inherited.ensures
    ∙ ap (λ (sizes : List ℕ). option_map_or (slice_index sizes) (get_or bases place None) 0) c.as_slice.ensures.value
    ∙ ap (λ (base : Option ℕ). option_map_or (slice_index c.loop-place.sizes.items) base 0) (base_read bases place))
    ∙ ap (λ mine. option_map_or (slice_index c.loop-place.sizes.items) (base_at bases place) 0 + mine) c.from.ensures in
    sizing_more (base_at bases) (length bases) c.args.own.now order c.requires.order (stays_within bases order c.requires.order) n c.loop-place.sizes.items
    c.loop-place.invariant place (c.size_at-inherited.result + c.from.result) here small is

pub returns : goal.returns
returns c =
    let bases = c.args.bases.now in
    sizing_all (base_at bases) (length bases) c.args.own.now c.args.order.now c.requires.order (stays_within bases c.args.order.now c.requires.order)
    c.loop-place.place-index c.loop-place.sizes.items c.loop-place.invariant c.loop-place-test.false
