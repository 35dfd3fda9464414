use Rattle.std.proofs.Common.{◌≤◌, List, length, refl, sym, ap, subst, ◌∙◌, slice_get}
use Rattle.std.specs.List.{enumerate_from, flat_map}
use Rattle.std.proofs.lemmas.Option.{slice_get_read}
use Rattle.msl_rules.specs.declared.msl_lists.raw.RawSetMapping.{RawSetMapping}
use Rattle.msl_rules.specs.OwnerRules.{writers_at_site}
use Rattle.msl_rules.specs.Sites.{sites}
use Rattle.msl_fragments.proofs.msl_owners.Adding.{adds_item, adds_items, adds_same}
use Rattle.msl_fragments.proofs.msl_owners.Writers.{of_set, sets_each}
use Rattle.msl_fragments.proofs.msl_owners.fragments.add_sets.Goals as goal

pub loop-place-preserved : goal.loop-place-preserved
loop-place-preserved c =
    let read = slice_get_read _ _ c.loop-place.place _ refl c.loop-place-test.true c.set-item.is in
    let here = ap (λ (sets : List RawSetMapping). slice_get sets c.loop-place.place) (sym c.as_slice-set-items.ensures.items) ∙ read in
    adds_item (of_set c.args.names.now.model.now c.args.names.now.store.now) c.args.raw.now.sets c.args.all.now c.loop-place.place
    c.set-item.result c.loop-place.all c.add.new.all here c.loop-place.invariant c.in_ok-add.ensures

pub returns : goal.returns
returns c =
    let model = c.args.names.now.model.now in
    let store = c.args.names.now.store.now in
    let raw = c.args.raw.now in
    let Passed : List RawSetMapping → Type 0 = λ items. length items ≤ c.loop-place.place in
    let f = of_set model store in
    adds_same c.args.all.now c.loop-place.all (flat_map f (enumerate_from 0 raw.sets)) (flat_map (writers_at_site model store) (sites raw))
    (sym (sets_each model store raw)) (adds_items f raw.sets c.args.all.now c.loop-place.place c.loop-place.all (subst Passed c.as_slice-set-items.ensures.items c.loop-place-test.false) c.loop-place.invariant)
