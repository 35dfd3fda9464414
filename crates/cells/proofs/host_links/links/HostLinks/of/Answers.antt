use Rattle.std.proofs.Common.{◌≡◌, ◌≤◌, List, [], ◌++◌, length, slice_get, Option, Some, sym, ap, subst, ◌∙◌}
use Rattle.std.specs.List.{flat_map}
use Rattle.std.specs.Option.{unwrap_or}
use Rattle.std.proofs.lemmas.Option.{slice_get-get_or}
use Rattle.emc_base.specs.Lists.{At}
use Rattle.emc_base.proofs.Loops.{take-enumerated}
use Rattle.emc_base.proofs.facts.Images.{one_more_gives}
use Rattle.round_trip.specs.Words.{Assoc, Hosted, Link, SetId, Value}
use Rattle.table_owners.specs.declared.places.LinkPlace.{LinkPlace}
use Rattle.table_owners.specs.declared.places.LinkPlace.TheVariants as place
use Rattle.cells.specs.HostedLinks.{hosted_at, hosted_by}
use Rattle.cells.specs.host_links.Grouped.{links_of}
use Rattle.cells.proofs.host_links.Placed.{ends_within, none_yet}
use Rattle.cells.proofs.host_links.links.HostLinks.of.Goals as goal

pub loop-index-init : goal.loop-index-init
loop-index-init c = (
  c.in_ok-by_set.ensures.size ∙ ap length c.as_slice.ensures.items,
  none_yet c.in_ok-by_set.by_set.items c.in_ok-by_set.ensures.empty,
)

-- the sets of an association's ends are some of which there are maps
pub add_hosted-requires-clause-first : goal.add_hosted-requires-clause-first
add_hosted-requires-clause-first c = (ends_within c.args.model.now c.as_slice-assoc-items.result.now c.loop-index.index (length c.loop-index.by_set.items)
    c.assoc-item.result c.requires.sound.ids c.as_slice-assoc-items.ensures.items c.loop-index-test.true c.assoc-item.is c.loop-index.invariant.0).0

pub add_hosted-requires-clause-second : goal.add_hosted-requires-clause-second
add_hosted-requires-clause-second c = (ends_within c.args.model.now c.as_slice-assoc-items.result.now c.loop-index.index (length c.loop-index.by_set.items)
    c.assoc-item.result c.requires.sound.ids c.as_slice-assoc-items.ensures.items c.loop-index-test.true c.assoc-item.is c.loop-index.invariant.0).1

pub loop-index-preserved : goal.loop-index-preserved
loop-index-preserved c =
    let i = c.loop-index.index in
    let assocs = c.args.model.now.assocs in
    let cells = c.args.cells.now in
    let state = c.args.state.now in
    let assoc : Assoc = c.assoc-item.result in
    let items = c.as_slice-assoc-items.result.now in
    let stands : At items i assoc = slice_get-get_or items i assoc c.loop-index-test.true ∙ ap Some (sym c.assoc-item.is) in
    let here : At assocs i assoc = subst (λ (list : List Assoc). At list i assoc) c.as_slice-assoc-items.ensures.items stands in
    let told : unwrap_or (slice_get cells.places i) place.Unmapped ≡ c.link_place-place.result =
    ap (λ (o : Option LinkPlace). unwrap_or o place.Unmapped) c.link_place-place.ensures in
    let links : c.links_at.result.now ≡ unwrap_or (slice_get state.links i) [] =
    c.links_at.ensures ∙ ap (λ (lists : List (List Link)). unwrap_or (slice_get lists i) []) c.link_lists-lists.ensures in (
      c.in_ok-add_hosted.ensures.size ∙ c.loop-index.invariant.0,
      λ (s : SetId) (key : List Value).
          (let gives : hosted_at c.link_place-place.result (record { index = i }) assoc s key c.links_at.result.now ≡ hosted_by cells state s key (i, assoc) =
          (λ k. hosted_at (sym told k) (record { index = i }) assoc s key (links k)) in
          c.in_ok-add_hosted.ensures.added s key
          ∙ (λ k. c.loop-index.invariant.1 s key k ++ gives k)
          ∙ sym (one_more_gives (hosted_by cells state s key) assocs i assoc here)),
    )

pub returns : goal.returns
returns c = λ set key.
    (let assocs = c.args.model.now.assocs in
    let past : length assocs ≤ c.loop-index.index = subst (λ (items : List Assoc). length items ≤ c.loop-index.index) c.as_slice-assoc-items.ensures.items c.loop-index-test.false in
    ap (λ (none : List Hosted). links_of c.loop-index.by_set.items none set key) c.empty.ensures
    ∙ c.loop-index.invariant.1 set key
    ∙ ap (flat_map (hosted_by c.args.cells.now c.args.state.now set key)) (take-enumerated assocs c.loop-index.index past))
