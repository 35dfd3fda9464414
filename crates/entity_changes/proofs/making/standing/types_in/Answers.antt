use Rattle.std.proofs.Common.{List, [], refl, slice_get, subst, subst₂, take_all, unwrap_or}
use Rattle.std.specs.BTreeMap.{get}
use Rattle.std.proofs.lemmas.Option.{slice_get_read}
use Rattle.emc_base.specs.Lists.{At}
use Rattle.round_trip.specs.Words.{Entity, SetId}
use Rattle.entity_changes.specs.Spots.{key_spot, spot_cmp}
use Rattle.entity_changes.specs.making.Standing.{AddsTypes}
use Rattle.entity_changes.specs.making.Types.{AreTypes}
use Rattle.entity_changes.proofs.making.Known.{set_more}
use Rattle.entity_changes.proofs.making.standing.types_in.Goals as goal

pub loop-place-preserved : goal.loop-place-preserved
loop-place-preserved c =
    let lists = c.args.lists.now in
    let i = c.loop-place.place in
    let list : List Entity = c.index-lists-place.result in
    let here : At lists i list = slice_get_read lists _ i list refl c.loop-place-test.true c.index-lists-place.is in
    let P : SetId → List Entity → Type 0 = λ s entities. AddsTypes c.args.model.now s entities c.loop-place.types c.add_types.new.types in
    set_more c.args.model.now lists i list here c.loop-place.types c.add_types.new.types
    (subst₂ P (λ k. record { index = c.in_ok-narrow.ensures k }) c.as_slice.ensures.items c.in_ok-add_types.ensures) c.loop-place.invariant

pub returns : goal.returns
returns c = λ s key.
    subst (λ (lists : List (List Entity)). AreTypes c.args.model.now (unwrap_or (slice_get lists s.index) []) key (get spot_cmp c.loop-place.types (key_spot s key)))
    (take_all c.loop-place.place c.args.lists.now c.loop-place-test.false) (c.loop-place.invariant s key)
