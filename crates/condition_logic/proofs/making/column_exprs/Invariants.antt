use Rattle.std.proofs.Common.{take}
use Rattle.condition_logic.specs.Made.{AreOf, IsOfColumn}
use Rattle.condition_logic.proofs.making.column_exprs.Given as goal

-- the columns that were passed have their expressions
abbrev pub invariant-loop-col : goal.invariant-loop-col
invariant-loop-col l = AreOf IsOfColumn (λ col. ⊥) (take l.col-index l.cols) l.exprs
