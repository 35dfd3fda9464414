use Rattle.std.proofs.Common.{◌*◌, ◌≤◌, List, length, map, Some, ap, sym, subst, ◌∙◌}
use Rattle.std.proofs.lemmas.Option.{slice_get-get_or}
use Rattle.emc_base.specs.Lists.{At}
use Rattle.round_trip.specs.Words.{Assoc}
use Rattle.regions.specs.Basis.{Host}
use Rattle.regions.specs.Regions.{flags_at}
use Rattle.regions.specs.region_laws.Counting.{product_of}
use Rattle.region_states.specs.region_basis.BasisOf.{basis_of, host_at}
use Rattle.region_partition.specs.region_lists.Counts.{capped}
use Rattle.region_partition.proofs.region_lists.Hosts.{hosts_before, hosts_more, hosts_whole}
use Rattle.region_partition.proofs.region_lists.Products.{more_factors}
use Rattle.region_partition.proofs.region_lists.counting.count_flag_choices.Goals as goal

pub loop-index-preserved : goal.loop-index-preserved
loop-index-preserved c =
    let parts = c.args.parts.now in
    let s = c.args.set in
    let i = c.loop-index.index in
    let count = λ (host : Host). length (flags_at (basis_of parts) c.args.ty host) in
    let assoc : Assoc = c.assoc-item.result in
    let items = c.as_slice-assoc-items.result.now in
    let stands : At items i assoc = slice_get-get_or items i assoc c.loop-index-test.true ∙ ap Some (sym c.assoc-item.is) in
    let here : At parts.model.now.assocs i assoc = subst (λ (list : List Assoc). At list i assoc) c.as_slice-assoc-items.ensures.items stands in
    c.capped-product.ensures
    ∙ ap (λ n. capped (c.loop-index.product * n)) c.count_flags.ensures.count
    ∙ more_factors count (hosts_before parts s i) (host_at parts.cells.now.places s (i, assoc)) c.loop-index.product c.loop-index.invariant
    ∙ ap (λ (hosts : List Host). capped (product_of (map count hosts))) (sym (hosts_more parts s i assoc here))

pub returns : goal.returns
returns c =
    let parts = c.args.parts.now in
    let P : List Assoc → Type 0 = λ items. length items ≤ c.loop-index.index in
    let past = subst P c.as_slice-assoc-items.ensures.items c.loop-index-test.false in
    c.loop-index.invariant
    ∙ ap (λ (hosts : List Host). capped (product_of (map (λ host. length (flags_at (basis_of parts) c.args.ty host)) hosts))) (hosts_whole parts c.args.set c.loop-index.index past)
