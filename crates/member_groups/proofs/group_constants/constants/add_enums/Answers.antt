use Rattle.std.proofs.Common.{List, refl, sym, subst, ◌∙◌}
use Rattle.std.specs.BTreeSet.{BTreeSet}
use Rattle.std.proofs.lemmas.Option.{slice_get_read}
use Rattle.round_trip.specs.Words.{Prop, Value, At}
use Rattle.member_groups.specs.group_constants.Constants.{AddsIn, NumbersOf, NumbersOfProp}
use Rattle.member_groups.proofs.group_constants.Entries.{no_numbers, one_numbers}
use Rattle.member_groups.proofs.group_constants.Sets.{adds_in_as, adds_in_below, adds_in_nothing}
use Rattle.member_groups.proofs.group_constants.constants.add_enums.Goals as goal
use Rattle.member_groups.proofs.group_constants.constants.add_enums.Goals.{in-Some+in_ok-add_kind, in_default}

pub loop-place-preserved : goal.loop-place-preserved
loop-place-preserved c =
    let n = c.loop-place.place in
    let x = c.declared-item.result in
    let model = c.args.model.now in
    let numbered = c.args.numbered.now in
    let tested = c.args.tested.now in
    let so_far = c.loop-place.sets.items in
    let By = NumbersOfProp model numbered tested in
    let Comes : List (BTreeSet Value) → Type 0 = λ after. AddsIn (By n) so_far after in
    let Here : List Prop → Type 0 = λ items. At items n x in
    let here : At model.props n x = subst Here c.as_slice-declared-items.ensures.items (slice_get_read _ _ n _ refl c.loop-place-test.true c.declared-item.is) in
    adds_in_below By n c.args.sets.now.items so_far c.match-joint.sets.items c.loop-place.invariant
    (elim c.match-joint.branch [
      | in-Some+in_ok-add_kind w ↦ let group = w.in-Some.group in
          subst Comes (sym (λ k. (w.sets-is k).items))
          (adds_in_as (NumbersOf tested group x.kind) (By n) so_far w.add_kind.new.sets.items
          (one_numbers model numbered tested n x here group (sym c.joint.ensures ∙ w.in-Some.is)) w.in_ok-add_kind.ensures)
      | in_default w ↦ subst Comes (sym (λ k. (w.sets-is k).items))
          (adds_in_nothing (By n) so_far (λ entry within. no_numbers model numbered tested n (sym c.joint.ensures ∙ w.in_default.is) entry))
    ])
