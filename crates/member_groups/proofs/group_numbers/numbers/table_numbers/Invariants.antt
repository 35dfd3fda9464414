use Rattle.member_groups.specs.group_numbers.Numbers.{AreTables, Grows}
use Rattle.member_groups.proofs.group_numbers.numbers.table_numbers.Given as goal

-- the columns of the tables so far have their numbers
abbrev pub invariant-loop-place : goal.invariant-loop-place
invariant-loop-place l = Grows l.initial.labels.keys l.labels.keys × AreTables l.groups l.labels.keys l.store.tables l.place l.tables
