use Rattle.std.proofs.Common.{get_or, subst, true}
use Rattle.std.specs.BTreeSet.{Updates}
use Rattle.std.proofs.lemmas.Option.{slice_get-get_or}
use Rattle.round_trip.specs.Words.{PropId}
use Rattle.round_trip.specs.soundness.mappings.Joined.{prop}
use Rattle.msl_checks.specs.barred_members.Added.{IsProp}
use Rattle.member_groups.specs.joined_groups.Labels.{label_cmp}
use Rattle.msl_checks.specs.declared.barred_members.barred.Barred.{Barred}
use Rattle.member_groups.specs.declared.joined_groups.labels.Label.{Label}
use Rattle.msl_checks.proofs.barred_members.Adding.{adds_next, adds_one}
use Rattle.msl_checks.proofs.barred_members.barred.Barred.add_props.Goals as goal

pub loop-property-preserved : goal.loop-property-preserved
loop-property-preserved c =
    let properties = c.args.properties.now in
    let n = c.loop-property.property-index in
    let nil : PropId = record { index = 0 } in
    let x : PropId = get_or properties n nil in
    let so_far = c.loop-property.self in
    let after : Barred = record { groups = so_far.groups; labels = c.insert.new.self } in
    let Comes : Label → Type 0 = λ label. Updates label_cmp so_far.labels c.insert.new.self label true in
    adds_next IsProp properties n x c.args.self.now so_far after (slice_get-get_or properties n nil c.loop-property-test.true) c.loop-property.invariant
    (adds_one (prop x) so_far after (λ _. so_far.groups) (subst Comes c.prop_label.ensures c.in_ok-insert.ensures.updates))
