use Rattle.std.proofs.Common.{List, refl, subst₂}
use Rattle.std.proofs.lemmas.Option.{slice_get_read}
use Rattle.emc_base.specs.Lists.{At}
use Rattle.round_trip.specs.Words.{AssocId, Link}
use Rattle.entity_changes.specs.making.Standing.{AddsLinks}
use Rattle.entity_changes.proofs.making.Known.{links_more}
use Rattle.entity_changes.proofs.making.standing.links_in.Goals as goal

pub loop-place-preserved : goal.loop-place-preserved
loop-place-preserved c =
    let lists = c.args.lists.now in
    let i = c.loop-place.place in
    let list : List Link = c.index-lists-place.result in
    let here : At lists i list = slice_get_read lists _ i list refl c.loop-place-test.true c.index-lists-place.is in
    let P : AssocId → List Link → Type 0 = λ a links. AddsLinks a links c.loop-place.links c.add_links.new.links in
    links_more lists i list here c.loop-place.links c.add_links.new.links
    (subst₂ P (λ k. record { index = c.in_ok-narrow.ensures k }) c.as_slice.ensures.items c.in_ok-add_links.ensures) c.loop-place.invariant
