use Rattle.std.proofs.Common.{◌≤◌, List, length, refl, subst, ◌∙◌}
use Rattle.std.proofs.lemmas.Option.{slice_get_read}
use Rattle.emc_base.specs.Lists.{At}
use Rattle.round_trip.specs.Words.{Assoc}
use Rattle.witness_state.proofs.small.Hosted.{linked_more, linked_whole}
use Rattle.witness_state.proofs.small_regions.hosts.linked_hosts.Goals as goal

pub loop-index-preserved : goal.loop-index-preserved
loop-index-preserved c =
    let parts = c.args.parts.now in
    let i = c.loop-index.index in
    let assoc : Assoc = c.assoc-item.result in
    let here : At parts.model.now.assocs i assoc = subst (λ (list : List Assoc). At list i assoc) c.as_slice-assoc-items.ensures.items
    (slice_get_read _ _ i _ refl c.loop-index-test.true c.assoc-item.is) in
    linked_more parts c.args.region.now i assoc here c.loop-index.hosts c.put_found.new.list c.linked_host.result c.loop-index.invariant c.in_ok-put_found.ensures c.linked_host.ensures

pub returns : goal.returns
returns c =
    let parts = c.args.parts.now in
    let P : List Assoc → Type 0 = λ items. length items ≤ c.loop-index.index in
    let past = subst P c.as_slice-assoc-items.ensures.items c.loop-index-test.false in
    c.loop-index.invariant ∙ linked_whole parts c.args.region.now c.loop-index.index past
