use Rattle.std.proofs.Common.{take}
use Rattle.condition_logic.specs.Made.{AreOf, IsOfPick}
use Rattle.condition_logic.proofs.making.pick_exprs.Given as goal

-- the picks that were passed have their expressions
abbrev pub invariant-loop-pick : goal.invariant-loop-pick
invariant-loop-pick l = AreOf IsOfPick (λ pick. ⊥) (take l.pick-index l.picks) l.exprs
