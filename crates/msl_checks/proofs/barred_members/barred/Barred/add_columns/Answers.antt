use Rattle.std.proofs.Common.{get_or, subst, true}
use Rattle.std.specs.BTreeSet.{Updates}
use Rattle.std.proofs.lemmas.Option.{slice_get-get_or}
use Rattle.round_trip.specs.Words.{Pair}
use Rattle.round_trip.specs.soundness.mappings.Joined.{col}
use Rattle.msl_checks.specs.barred_members.Added.{IsColumn}
use Rattle.member_groups.specs.joined_groups.Labels.{label_cmp}
use Rattle.msl_checks.specs.declared.barred_members.barred.Barred.{Barred}
use Rattle.member_groups.specs.declared.joined_groups.labels.Label.{Label}
use Rattle.msl_checks.proofs.barred_members.Adding.{adds_next, adds_one}
use Rattle.msl_checks.proofs.barred_members.barred.Barred.add_columns.Goals as goal

pub loop-pair-preserved : goal.loop-pair-preserved
loop-pair-preserved c =
    let pairs = c.args.pairs.now in
    let n = c.loop-pair.pair-index in
    let nil : Pair = record { prop = record { index = 0 }; col = record { index = 0 } } in
    let x : Pair = get_or pairs n nil in
    let so_far = c.loop-pair.self in
    let after : Barred = record { groups = so_far.groups; labels = c.insert.new.self } in
    let Comes : Label → Type 0 = λ label. Updates label_cmp so_far.labels c.insert.new.self label true in
    adds_next (IsColumn c.args.table) pairs n x c.args.self.now so_far after (slice_get-get_or pairs n nil c.loop-pair-test.true) c.loop-pair.invariant
    (adds_one (col c.args.table x.col) so_far after (λ _. so_far.groups) (subst Comes c.column_label-label.ensures c.in_ok-insert.ensures.updates))
