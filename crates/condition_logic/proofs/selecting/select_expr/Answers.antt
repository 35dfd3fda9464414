use Rattle.std.proofs.Common.{List, subst}
use Rattle.condition_logic.specs.Words.{Cond, Pick}
use Rattle.condition_logic.specs.declared.making.Side.TheVariants as side
use Rattle.condition_logic.specs.Made.{AreOf, IsOfCond, IsOfPick, IsOnSide}
use Rattle.condition_logic.proofs.Saying.{selected_by}
use Rattle.condition_logic.proofs.selecting.select_expr.Goals as goal

pub returns : goal.returns
returns c =
    let Picks : List Pick → Type 0 = λ picks. AreOf IsOfPick (λ pick. ⊥) picks c.in_ok-picks.picks in
    let Conds : List Cond → Type 0 = λ conds. AreOf (IsOfCond side.Props) (λ cond. ¬ IsOnSide side.Props cond.on) conds c.in_ok-conds.conds in
    selected_by c.args.fragment.now c.in_ok-picks.picks c.in_ok-conds.conds (subst Picks c.as_slice.ensures.items c.in_ok-picks.ensures)
    (subst Conds c.as_slice-2.ensures.items c.in_ok-conds.ensures) c.both.result c.both.ensures
