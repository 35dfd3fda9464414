use Rattle.std.proofs.Common.{ℕ, ◌+◌, List, sym, subst}
use Rattle.round_trip.specs.Words.{GroupId}
use Rattle.round_trip.specs.soundness.mappings.Joined.{col}
use Rattle.member_groups.specs.declared.joined_groups.labels.Label.{Label}
use Rattle.member_groups.specs.joined_groups.Labels.{label_of}
use Rattle.member_groups.specs.group_numbers.Numbers.{AreNumbered, Grows, Notes}
use Rattle.member_groups.proofs.group_numbers.Labels.{numbered_more}
use Rattle.member_groups.proofs.group_numbers.numbers.column_numbers.Goals as goal

pub loop-place-preserved : goal.loop-place-preserved
loop-place-preserved c =
    let n = c.loop-place.place in
    let label_at : ℕ → Label = λ i. label_of c.args.groups.now (col c.args.id (record { index = i })) in
    let first = c.args.labels.now.keys in
    let before = c.loop-place.labels.keys in
    let after = c.noted.new.labels.keys in
    let group = c.in_ok-noted.field-0 in
    let Noted : Label → Type 0 = λ label. Notes before after label group in
    let Numbered : List GroupId → Type 0 = λ numbers. Grows first after × AreNumbered after label_at (n + 1) numbers in
    subst Numbered (sym c.in_ok-push.ensures.ok)
    (numbered_more label_at n c.loop-place.numbers first before after group c.loop-place.invariant (subst Noted c.column_label.ensures c.in_ok-noted.ensures))
