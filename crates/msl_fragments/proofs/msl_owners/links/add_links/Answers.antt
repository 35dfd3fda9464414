use Rattle.std.proofs.Common.{◌≤◌, List, length, refl, sym, ap, subst, ◌∙◌, slice_get}
use Rattle.std.specs.List.{enumerate_from, flat_map}
use Rattle.std.proofs.lemmas.Option.{slice_get_read}
use Rattle.msl_rules.specs.declared.msl_lists.raw.RawLinkMapping.{RawLinkMapping}
use Rattle.msl_rules.specs.OwnerRules.{writers_at_link}
use Rattle.msl_rules.specs.Sites.{link_sites}
use Rattle.msl_fragments.proofs.msl_owners.Adding.{adds_item, adds_items, adds_same}
use Rattle.msl_fragments.proofs.msl_owners.Writers.{links_each, of_link}
use Rattle.msl_fragments.proofs.msl_owners.links.add_links.Goals as goal

pub loop-place-preserved : goal.loop-place-preserved
loop-place-preserved c =
    let read = slice_get_read _ _ c.loop-place.place _ refl c.loop-place-test.true c.link-item.is in
    let here = ap (λ (links : List RawLinkMapping). slice_get links c.loop-place.place) (sym c.as_slice-link-items.ensures.items) ∙ read in
    adds_item (of_link c.args.names.now.model.now c.args.names.now.store.now) c.args.raw.now.links c.args.all.now c.loop-place.place
    c.link-item.result c.loop-place.all c.add_link.new.all here c.loop-place.invariant c.in_ok-add_link.ensures

pub returns : goal.returns
returns c =
    let model = c.args.names.now.model.now in
    let store = c.args.names.now.store.now in
    let raw = c.args.raw.now in
    let Passed : List RawLinkMapping → Type 0 = λ items. length items ≤ c.loop-place.place in
    let f = of_link model store in
    adds_same c.args.all.now c.loop-place.all (flat_map f (enumerate_from 0 raw.links)) (flat_map (writers_at_link model store) (link_sites raw))
    (sym (links_each model store raw)) (adds_items f raw.links c.args.all.now c.loop-place.place c.loop-place.all (subst Passed c.as_slice-link-items.ensures.items c.loop-place-test.false) c.loop-place.invariant)
