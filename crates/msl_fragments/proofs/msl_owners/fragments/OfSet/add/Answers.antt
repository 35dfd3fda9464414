use Rattle.std.proofs.Common.{◌≤◌, List, length, refl, sym, ap, subst, ◌∙◌, slice_get}
use Rattle.std.specs.List.{enumerate_from, flat_map}
use Rattle.std.proofs.lemmas.Option.{slice_get_read}
use Rattle.msl_rules.specs.declared.msl_lists.raw.RawTypeMapping.{RawTypeMapping}
use Rattle.msl_rules.specs.OwnerRules.{writers_at_site}
use Rattle.msl_rules.specs.Sites.{sites_of_set}
use Rattle.msl_fragments.proofs.msl_owners.Adding.{adds_item, adds_items, adds_same}
use Rattle.msl_fragments.proofs.msl_owners.Writers.{of_types, set_each}
use Rattle.msl_fragments.proofs.msl_owners.fragments.OfSet.add.Goals as goal

pub loop-place-preserved : goal.loop-place-preserved
loop-place-preserved c =
    let self = c.args.self.now in
    let set = self.set.now in
    let read = slice_get_read _ _ c.loop-place.place _ refl c.loop-place-test.true c.types-item.is in
    let here = ap (λ (types : List RawTypeMapping). slice_get types c.loop-place.place) (sym c.as_slice-types-items.ensures.items) ∙ read in
    adds_item (of_types self.names.now.model.now self.names.now.store.now self.place set) set.types c.args.all.now c.loop-place.place
    c.types-item.result c.loop-place.all c.add.new.all here c.loop-place.invariant c.in_ok-add.ensures

pub returns : goal.returns
returns c =
    let self = c.args.self.now in
    let model = self.names.now.model.now in
    let store = self.names.now.store.now in
    let set = self.set.now in
    let Passed : List RawTypeMapping → Type 0 = λ items. length items ≤ c.loop-place.place in
    let f = of_types model store self.place set in
    adds_same c.args.all.now c.loop-place.all (flat_map f (enumerate_from 0 set.types)) (flat_map (writers_at_site model store) (sites_of_set self.place set))
    (sym (set_each model store self.place set)) (adds_items f set.types c.args.all.now c.loop-place.place c.loop-place.all (subst Passed c.as_slice-types-items.ensures.items c.loop-place-test.false) c.loop-place.invariant)
