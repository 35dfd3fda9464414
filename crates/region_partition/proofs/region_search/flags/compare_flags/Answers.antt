use Rattle.std.proofs.Common.{◌+◌, ◌≤◌, List, Some, drop, length, ap, sym, subst, ◌∙◌}
use Rattle.std.specs.List.{enumerate_from, flat_map}
use Rattle.std.specs.Ordering.{ordering_then}
use Rattle.std.proofs.lemmas.List.FromFn.{length-enumerate_from}
use Rattle.std.proofs.lemmas.Option.{slice_get-get_or}
use Rattle.emc_base.specs.Lists.{At}
use Rattle.emc_base.proofs.Numbered.{numbered_at}
use Rattle.round_trip.specs.Words.{Assoc}
use Rattle.region_states.specs.region_basis.BasisOf.{basis_of, host_at}
use Rattle.region_partition.specs.region_search.Standing.{all_cmp, host_cmp}
use Rattle.region_partition.proofs.region_search.Passing.{after, goes_on, stops, turn}
use Rattle.region_partition.proofs.region_search.flags.compare_flags.Goals as goal

pub returns-then-is_ne : goal.returns-then-is_ne
returns-then-is_ne c =
    let assocs = c.args.parts.now.model.now.assocs in
    let cmp = host_cmp (basis_of c.args.parts.now) c.args.links.now c.args.linked.now in
    let hosts = host_at c.args.parts.now.cells.now.places c.args.set in
    let i = c.loop-index.index in
    let assoc : Assoc = c.assoc-item.result in
    let items = c.as_slice-assoc-items.result.now in
    let stands : At items i assoc = slice_get-get_or items i assoc c.loop-index-test.true ∙ ap Some (sym c.assoc-item.is) in
    let here : At assocs i assoc = subst (λ (list : List Assoc). At list i assoc) c.as_slice-assoc-items.ensures.items stands in
    let rest = all_cmp cmp (flat_map hosts (drop (i + 1) (enumerate_from 0 assocs))) in
    let first = turn cmp hosts (enumerate_from 0 assocs) i (i, assoc) (numbered_at assocs i assoc here) in
    sym (c.loop-index.invariant ∙ first ∙ ap (λ one. ordering_then one rest) (sym c.compare_at-order.ensures)
    ∙ stops c.compare_at-order.result rest (sym c.is_ne.ensures ∙ c.if-is_ne.true))

pub loop-index-preserved : goal.loop-index-preserved
loop-index-preserved c =
    let assocs = c.args.parts.now.model.now.assocs in
    let cmp = host_cmp (basis_of c.args.parts.now) c.args.links.now c.args.linked.now in
    let hosts = host_at c.args.parts.now.cells.now.places c.args.set in
    let i = c.loop-index.index in
    let assoc : Assoc = c.assoc-item.result in
    let items = c.as_slice-assoc-items.result.now in
    let stands : At items i assoc = slice_get-get_or items i assoc c.loop-index-test.true ∙ ap Some (sym c.assoc-item.is) in
    let here : At assocs i assoc = subst (λ (list : List Assoc). At list i assoc) c.as_slice-assoc-items.ensures.items stands in
    let rest = all_cmp cmp (flat_map hosts (drop (i + 1) (enumerate_from 0 assocs))) in
    let first = turn cmp hosts (enumerate_from 0 assocs) i (i, assoc) (numbered_at assocs i assoc here) in
    c.loop-index.invariant ∙ first ∙ ap (λ one. ordering_then one rest) (sym c.compare_at-order.ensures)
    ∙ goes_on c.compare_at-order.result rest (sym c.is_ne.ensures ∙ c.if-is_ne.false)

pub returns : goal.returns
returns c =
    let assocs = c.args.parts.now.model.now.assocs in
    let cmp = host_cmp (basis_of c.args.parts.now) c.args.links.now c.args.linked.now in
    let hosts = host_at c.args.parts.now.cells.now.places c.args.set in
    let past : length assocs ≤ c.loop-index.index =
    subst (λ (items : List Assoc). length items ≤ c.loop-index.index) c.as_slice-assoc-items.ensures.items c.loop-index-test.false in
    sym (c.loop-index.invariant ∙ after cmp hosts (enumerate_from 0 assocs) c.loop-index.index
    (subst (λ n. n ≤ c.loop-index.index) (sym (length-enumerate_from 0 assocs)) past))
