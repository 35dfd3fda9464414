use Rattle.std.proofs.Common.{take}
use Rattle.condition_logic.specs.Made.{AreOf, IsOfCond, IsOnSide}
use Rattle.condition_logic.proofs.making.cond_exprs.Given as goal

-- the conditions that were passed have their expressions, where they are on the side
abbrev pub invariant-loop-cond : goal.invariant-loop-cond
invariant-loop-cond l = AreOf (IsOfCond l.side) (λ cond. ¬ IsOnSide l.side cond.on) (take l.cond-index l.conds) l.exprs
