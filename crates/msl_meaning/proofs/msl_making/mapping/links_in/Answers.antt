use Rattle.std.proofs.Common.{ℕ, Option, sym, ap, ◌∙◌}
use Rattle.std.specs.List.{enumerate_from, filter_map}
use Rattle.round_trip.specs.Words.{LinkFragment}
use Rattle.msl_rules.specs.declared.msl_lists.raw.RawLinkMapping.{RawLinkMapping}
use Rattle.emc_base.proofs.Turns.{all_placed, at_place, found_more}
use Rattle.msl_rules.specs.MappingMeaning.{link_at}
use Rattle.msl_rules.specs.Sites.{link_place}
use Rattle.msl_meaning.proofs.msl_making.Behind.{found_by_images}
use Rattle.msl_meaning.proofs.msl_making.mapping.links_in.Goals as goal

pub loop-place-preserved : goal.loop-place-preserved
loop-place-preserved c =
    let names = c.args.names.now in
    let links = c.args.raw.now.links in
    let h : ℕ × RawLinkMapping → Option LinkFragment = λ i. link_at names.model.now names.store.now (record { place = link_place i.0; link = i.1 }) in
    c.in_ok-put_found.ensures
    ∙ found_more h (enumerate_from 0 links) c.loop-place.place (c.loop-place.place, c.link-item.result) c.loop-place.made c.in_ok-link_at.field-0 c.loop-place.invariant
    (at_place c.as_slice-link-items.result.now links c.loop-place.place c.link-item.result c.as_slice-link-items.ensures.items c.loop-place-test.true c.link-item.is) c.in_ok-link_at.ensures

pub returns : goal.returns
returns c =
    let names = c.args.names.now in
    let links = c.args.raw.now.links in
    let h : ℕ × RawLinkMapping → Option LinkFragment = λ i. link_at names.model.now names.store.now (record { place = link_place i.0; link = i.1 }) in
    c.loop-place.invariant
    ∙ ap (filter_map h) (all_placed c.as_slice-link-items.result.now links c.loop-place.place c.as_slice-link-items.ensures.items c.loop-place-test.false)
    ∙ sym (found_by_images (link_at names.model.now names.store.now) (λ i. record { place = link_place i.0; link = i.1 }) (enumerate_from 0 links))
