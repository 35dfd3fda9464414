use Rattle.std.proofs.Common.{◌≡◌, ◌≤◌, List, [], ◌++◌, length, slice_get, Option, Some, sym, ap, subst, ◌∙◌, take}
use Rattle.std.specs.List.{enumerate_from, flat_map}
use Rattle.std.specs.Option.{unwrap_or}
use Rattle.std.proofs.lemmas.Option.{slice_get-get_or}
use Rattle.emc_base.specs.Lists.{At}
use Rattle.emc_base.proofs.Loops.{take-enumerated}
use Rattle.emc_base.proofs.facts.Images.{one_more_gives}
use Rattle.round_trip.specs.Words.{Assoc, Hosted, Link}
use Rattle.table_owners.specs.declared.places.LinkPlace.{LinkPlace}
use Rattle.table_owners.specs.declared.places.LinkPlace.TheVariants as place
use Rattle.cells.specs.HostedLinks.{hosted_at, hosted_by}
use Rattle.cells.proofs.hosted.hosted_links.Goals as goal

pub loop-index-preserved : goal.loop-index-preserved
loop-index-preserved c =
    let i = c.loop-index.index in
    let cells = c.args.cells.now in
    let state = c.args.state.now in
    let set = c.args.set in
    let key = c.args.key.now in
    let assoc : Assoc = c.assoc-item.result in
    let items = c.as_slice-assoc-items.result.now in
    let stands : At items i assoc = slice_get-get_or items i assoc c.loop-index-test.true ∙ ap Some (sym c.assoc-item.is) in
    let here : At c.args.model.now.assocs i assoc = subst (λ (list : List Assoc). At list i assoc) c.as_slice-assoc-items.ensures.items stands in
    let place : unwrap_or (slice_get cells.places i) place.Unmapped ≡ c.link_place.result = ap (λ (o : Option LinkPlace). unwrap_or o place.Unmapped) c.link_place.ensures in
    let links : c.links_at.result.now ≡ unwrap_or (slice_get state.links i) [] = c.links_at.ensures ∙ ap (λ (lists : List (List Link)). unwrap_or (slice_get lists i) []) c.link_lists-lists.ensures in
    let gives : hosted_at c.link_place.result (record { index = i }) assoc set key c.links_at.result.now ≡ hosted_by cells state set key (i, assoc) =
    (λ k. hosted_at (sym place k) (record { index = i }) assoc set key (links k)) in
    c.in_ok-add_hosted.ensures
    ∙ ap (λ (found : List Hosted). found ++ hosted_at c.link_place.result (record { index = i }) assoc set key c.links_at.result.now) c.loop-index.invariant
    ∙ ap (λ (more : List Hosted). flat_map (hosted_by cells state set key) (take i (enumerate_from 0 c.args.model.now.assocs)) ++ more) gives
    ∙ sym (one_more_gives (hosted_by cells state set key) c.args.model.now.assocs i assoc here)

pub returns : goal.returns
returns c =
    let assocs = c.args.model.now.assocs in
    let past : length assocs ≤ c.loop-index.index = subst (λ (items : List Assoc). length items ≤ c.loop-index.index) c.as_slice-assoc-items.ensures.items c.loop-index-test.false in
    c.loop-index.invariant ∙ ap (flat_map (hosted_by c.args.cells.now c.args.state.now c.args.set c.args.key.now)) (take-enumerated assocs c.loop-index.index past)
