use Rattle.std.proofs.Common.{◌≡◌, ◌++◌, List, map, reverse, ap, ◌∙◌}
use Rattle.emc_base.proofs.Loops.{take-enumerated}
use Rattle.round_trip.specs.Words.{Link}
use Rattle.entity_changes.specs.Spots.{link_spot}
use Rattle.entity_changes.specs.making.Fates.{behind_at, links_at, survivors}
use Rattle.entity_changes.proofs.Kept.{numbered_more}
use Rattle.entity_changes.proofs.making.lists.link_lists.Goals as goal

pub loop-place-preserved : goal.loop-place-preserved
loop-place-preserved c =
    let fates = c.args.fates.now in
    let i = c.loop-place.place in
    let list : List Link = c.index-lists-place.result in
    let kept : c.add_links.new.items ≡ survivors fates (link_spot (record { index = i })) list =
    c.in_ok-add_links.ensures ∙ ap (λ (first : List Link). first ++ survivors fates
    (link_spot (record { index = c.in_ok-narrow.field-0 })) c.as_slice.result.now) c.empty-items.ensures
    ∙ (λ k. survivors fates (link_spot (record { index = c.in_ok-narrow.ensures k })) (c.as_slice.ensures.items k)) in
    let item : c.add_new_links.new.items ≡ survivors fates (link_spot (record { index = i })) list ++ reverse (behind_at fates i) =
    c.in_ok-add_new_links.ensures ∙ ap (λ (first : List Link). first ++ reverse (behind_at fates i)) kept in
    c.in_ok-push.ensures.items
    ∙ numbered_more (links_at c.args.fates.now) c.args.lists.now i list c.loop-place.made.items c.add_new_links.new.items c.loop-place.invariant
    c.loop-place-test.true c.index-lists-place.is item

pub returns : goal.returns
returns c = c.loop-place.invariant ∙ ap (map (links_at c.args.fates.now)) (take-enumerated c.args.lists.now c.loop-place.place c.loop-place-test.false)
