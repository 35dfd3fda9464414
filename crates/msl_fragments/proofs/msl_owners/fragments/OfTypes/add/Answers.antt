use Rattle.std.proofs.Common.{◌≤◌, List, length, refl, sym, ap, subst, ◌∙◌, slice_get}
use Rattle.std.specs.List.{enumerate_from, flat_map}
use Rattle.std.proofs.lemmas.Option.{slice_get_read}
use Rattle.msl_rules.specs.declared.msl_lists.raw.RawFragment.{RawFragment}
use Rattle.msl_rules.specs.OwnerRules.{writers_at_site}
use Rattle.msl_rules.specs.Sites.{sites_of_types}
use Rattle.msl_fragments.proofs.msl_owners.Adding.{adds_item, adds_items, adds_same}
use Rattle.msl_fragments.proofs.msl_owners.Writers.{of_fragment, types_each}
use Rattle.msl_fragments.proofs.msl_owners.fragments.OfTypes.add.Goals as goal

pub loop-place-preserved : goal.loop-place-preserved
loop-place-preserved c =
    let self = c.args.self.now in
    let types = self.types.now in
    let read = slice_get_read _ _ c.loop-place.place _ refl c.loop-place-test.true c.fragment-item.is in
    let here = ap (λ (fragments : List RawFragment). slice_get fragments c.loop-place.place) (sym c.as_slice-fragment-items.ensures.items) ∙ read in
    adds_item (of_fragment self.of.names.now.model.now self.of.names.now.store.now self.of.place self.of.set.now self.place types) types.fragments c.args.all.now c.loop-place.place
    c.fragment-item.result c.loop-place.all c.add_fragment.new.all here c.loop-place.invariant c.in_ok-add_fragment.ensures

pub returns : goal.returns
returns c =
    let self = c.args.self.now in
    let model = self.of.names.now.model.now in
    let store = self.of.names.now.store.now in
    let i = self.of.place in
    let set = self.of.set.now in
    let types = self.types.now in
    let Passed : List RawFragment → Type 0 = λ items. length items ≤ c.loop-place.place in
    let f = of_fragment model store i set self.place types in
    adds_same c.args.all.now c.loop-place.all (flat_map f (enumerate_from 0 types.fragments)) (flat_map (writers_at_site model store) (sites_of_types i set self.place types))
    (sym (types_each model store i set self.place types)) (adds_items f types.fragments c.args.all.now c.loop-place.place c.loop-place.all (subst Passed c.as_slice-fragment-items.ensures.items c.loop-place-test.false) c.loop-place.invariant)
