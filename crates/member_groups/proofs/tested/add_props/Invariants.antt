use Rattle.member_groups.specs.mapping_asks.Adding.{Adds, EachBelow, HasKey}
use Rattle.member_groups.specs.Causes.{MarksGroup}
use Rattle.member_groups.proofs.tested.add_props.Given as goal

-- the groups that the properties so far make tested are added
abbrev pub invariant-loop-place : goal.invariant-loop-place
invariant-loop-place l = Adds (EachBelow (MarksGroup l.model l.numbered l.twice l.shared) l.place) (HasKey l.initial.tested) (HasKey l.tested)
