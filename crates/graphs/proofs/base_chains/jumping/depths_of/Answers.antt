use Rattle.std.proofs.Common.{rules, ◌≡◌, ◌+◌, ◌<◌, ◌≤◌, ◌^◌, ℕ, List, length, get_or, slice_index, Option, None, sym, ap, ◌∙◌, arith}
use Rattle.std.specs.Option.{option_map_or}
use Rattle.std.proofs.lemmas.List.Elements.{All-contains}
use Rattle.std.proofs.lemmas.Option.{slice_get-get_or}
use Rattle.emc_base.specs.Lists.{At}
use Rattle.emc_base.proofs.Mapped.{contains_at}
use Rattle.graphs.specs.base_chains.Chains.{base_at}
use Rattle.graphs.specs.base_chains.Jumps.{depth}
use Rattle.graphs.proofs.base_chains.Chains.{base_read}
use Rattle.graphs.proofs.base_chains.orders.Filled.{Is, filled_all, filled_more, made_base}
use Rattle.graphs.proofs.base_chains.Levels.{depth_by_base, depth_few, forest_by_order}
use Rattle.graphs.proofs.base_chains.orders.Orders.{stays_within}
use Rattle.graphs.proofs.base_chains.jumping.depths_of.Goals as goal

pub depth_at-above-requires : goal.depth_at-above-requires
depth_at-above-requires c = λ i is.
    let bases = c.args.bases.now in
    let place = get_or c.args.order.now c.loop-place.place-index 0 in
    let inside : i < length bases = stays_within bases c.args.order.now c.requires.order place i (sym (base_read bases place) ∙ is) in
    let alike : length c.as_slice.result.now ≡ length bases = ap length c.as_slice.ensures.value ∙ c.loop-place.invariant.size in
    omega (arith, inside, alike)

pub overflow_add-above : goal.overflow_add-above
overflow_add-above c =
    let bases = c.args.bases.now in
    let base = base_at bases in
    let count = length bases in
    let order = c.args.order.now in
    let n = c.loop-place.place-index in
    let depths = c.loop-place.depths.items in
    let place = get_or order n 0 in
    let here : At order n place = slice_get-get_or order n 0 c.loop-place-test.true in
    let inside : place < count = All-contains (λ j. j < count) order place c.requires.order.within (contains_at order n place here) in
    let is : c.depth_at-above.result ≡ option_map_or (depth base count) (base place) 0 =
    c.depth_at-above.ensures
    ∙ ap (λ (values : List ℕ). option_map_or (slice_index values) (get_or bases place None) 0) c.as_slice.ensures.value
    ∙ ap (λ (o : Option ℕ). option_map_or (slice_index depths) o 0) (base_read bases place)
    ∙ made_base (depth base count) base count order c.requires.order n depths c.loop-place.invariant place 0 here in
    let forest = forest_by_order bases order c.requires.order in
    let step : option_map_or (depth base count) (base place) 0 + 1 ≡ depth base count place = depth_by_base base count forest place inside in
    let few : depth base count place ≤ count = depth_few base count forest place inside in
    let alike : length c.as_slice.result.now ≡ count = ap length c.as_slice.ensures.value ∙ c.loop-place.invariant.size in
    let fits : length c.as_slice.result.now < 18446744073709551616 = c.as_slice.type_inv.0 in
    let small : c.depth_at-above.result + 1 < 2 ^ 64 = omega (arith, is, step, few, alike, fits) in
    search (rules, small)

pub loop-place-preserved : goal.loop-place-preserved
loop-place-preserved c =
    let bases = c.args.bases.now in
    let base = base_at bases in
    let count = length bases in
    let order = c.args.order.now in
    let n = c.loop-place.place-index in
    let depths = c.loop-place.depths.items in
    let place = get_or order n 0 in
    let here : At order n place = slice_get-get_or order n 0 c.loop-place-test.true in
    let inside : place < count = All-contains (λ j. j < count) order place c.requires.order.within (contains_at order n place here) in
    let is : c.depth_at-above.result ≡ option_map_or (depth base count) (base place) 0 =
    c.depth_at-above.ensures
    ∙ ap (λ (values : List ℕ). option_map_or (slice_index values) (get_or bases place None) 0) c.as_slice.ensures.value
    ∙ ap (λ (o : Option ℕ). option_map_or (slice_index depths) o 0) (base_read bases place)
    ∙ made_base (depth base count) base count order c.requires.order n depths c.loop-place.invariant place 0 here in
    filled_more (Is (depth base count)) count base order c.requires.order n depths c.loop-place.invariant place (c.depth_at-above.result + 1) here
    (ap (λ upper. upper + 1) is ∙ depth_by_base base count (forest_by_order bases order c.requires.order) place inside)

pub returns : goal.returns
returns c =
    let bases = c.args.bases.now in
    record {
      size = c.loop-place.invariant.size;
      deep = filled_all (Is (depth (base_at bases) (length bases))) (length bases) (base_at bases) c.args.order.now c.requires.order c.loop-place.place-index c.loop-place.depths.items
          c.loop-place.invariant c.loop-place-test.false;
    }
