use Rattle.std.proofs.Common.{List, subst}
use Rattle.condition_logic.specs.Words.{ColId, Cond}
use Rattle.condition_logic.specs.declared.making.Side.TheVariants as side
use Rattle.condition_logic.specs.Made.{AreOf, IsOfCond, IsOfColumn, IsOnSide}
use Rattle.condition_logic.proofs.Saying.{shown_by}
use Rattle.condition_logic.proofs.selecting.show_expr.Goals as goal

pub returns : goal.returns
returns c =
    let Conds : List Cond → Type 0 = λ conds. AreOf (IsOfCond side.Cols) (λ cond. ¬ IsOnSide side.Cols cond.on) conds c.in_ok-conds.conds in
    let Cols : List ColId → Type 0 = λ cols. AreOf IsOfColumn (λ col. ⊥) cols c.in_ok-cols.cols in
    shown_by c.args.conds.now c.args.not_null.now c.in_ok-conds.conds c.in_ok-cols.cols (subst Conds c.as_slice.ensures.items c.in_ok-conds.ensures)
    (subst Cols c.as_slice-2.ensures.items c.in_ok-cols.ensures) c.both.result c.both.ensures
