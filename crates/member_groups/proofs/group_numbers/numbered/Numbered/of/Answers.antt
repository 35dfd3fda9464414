use Rattle.member_groups.proofs.group_numbers.numbered.Numbered.of.Goals as goal

pub returns : goal.returns
returns c = record { groups = c.in_ok-groups.ensures; numbers = c.in_ok-numbers.ensures }
