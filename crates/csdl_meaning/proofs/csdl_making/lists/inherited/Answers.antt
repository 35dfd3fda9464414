use Rattle.std.proofs.Common.{◌++◌, [], length, get_or, ◌∙◌}
use Rattle.std.specs.Option.{option_map_or}
use Rattle.std.proofs.lemmas.Option.{slice_get-get_or}
use Rattle.emc_base.specs.Lists.{At}
use Rattle.graphs.specs.base_chains.Chains.{base_at}
use Rattle.graphs.proofs.base_chains.Chains.{base_read}
use Rattle.graphs.proofs.base_chains.orders.Orders.{stays_within}
use Rattle.csdl_meaning.specs.csdl_making.Making.{list_at}
use Rattle.csdl_meaning.proofs.csdl_making.Joins.{joining_all, joining_more}
use Rattle.csdl_meaning.proofs.csdl_making.lists.inherited.Goals as goal

pub loop-place-preserved : goal.loop-place-preserved
loop-place-preserved c =
    let bases = c.args.bases.now in
    let order = c.args.order.now in
    let n = c.loop-place.place-index in
    let place = get_or order n 0 in
    let here : At order n place = slice_get-get_or order n 0 c.loop-place-test.true in
    joining_more (base_at bases) (length bases) c.args.own.items order c.requires.order (stays_within bases order c.requires.order) n c.loop-place.lists.items c.loop-place.invariant
    place c.in_ok-list.list here
    (c.in_ok-list.ensures ∙ (λ k. option_map_or (list_at (c.as_slice.ensures.value k)) (base_read bases place k) [] ++ list_at (c.as_slice.ensures.value k) place))

pub returns : goal.returns
returns c =
    let bases = c.args.bases.now in
    let order = c.args.order.now in
    joining_all (base_at bases) (length bases) c.args.own.items order c.requires.order (stays_within bases order c.requires.order) c.loop-place.place-index c.loop-place.lists.items
    c.loop-place.invariant c.loop-place-test.false
