use Rattle.round_trip.specs.soundness.mappings.Joined.{prop}
use Rattle.member_groups.specs.joined_groups.Labels.{label_of}
use Rattle.member_groups.specs.group_numbers.Numbers.{AreNumbered, Grows}
use Rattle.member_groups.proofs.group_numbers.numbers.prop_numbers.Given as goal

-- the properties so far have their numbers
abbrev pub invariant-loop-place : goal.invariant-loop-place
invariant-loop-place l = Grows l.initial.labels.keys l.labels.keys × AreNumbered l.labels.keys (λ i. label_of l.groups (prop (record { index = i }))) l.place l.numbers
