use Rattle.std.proofs.Common.{All, take}
use Rattle.condition_logic.specs.Holds.{Holds}
use Rattle.condition_logic.specs.Subjects.{of_subject}
use Rattle.condition_logic.proofs.holding.+holds.Given as goal

-- each call goes to a smaller expression
abbrev pub decreases-holds : goal.decreases-holds
decreases-holds l = goal.size-holds l

-- the parts that were passed hold
abbrev pub invariant-loop-part : goal.invariant-loop-part
invariant-loop-part l = All (Holds (of_subject l.subject)) (take l.part-index l.part-items)

-- the parts that were passed don't hold
abbrev pub invariant-loop-part-2 : goal.invariant-loop-part-2
invariant-loop-part-2 l = All (λ part. ¬ Holds (of_subject l.subject) part) (take l.part-index l.part-items)
