use Rattle.std.proofs.Common.{List, ◌+◌, take, false, sym, subst}
use Rattle.condition_logic.specs.declared.expr.Expr.{Expr}
use Rattle.condition_logic.specs.Made.{AreOf, IsOfPick}
use Rattle.condition_logic.proofs.Made.{made_of_none, one_made_at, made_of_all}
use Rattle.condition_logic.proofs.making.pick_exprs.Goals as goal

pub loop-pick-init : goal.loop-pick-init
loop-pick-init c = let P : List Expr → Type 0 = λ exprs. AreOf IsOfPick (λ pick. ⊥) _ exprs in subst P (sym c.empty-exprs.ensures) (made_of_none IsOfPick (λ pick. ⊥))

pub loop-pick-preserved : goal.loop-pick-preserved
loop-pick-preserved c =
    let n = c.loop-pick.pick-index in
    let P : List Expr → Type 0 = λ exprs. AreOf IsOfPick (λ pick. ⊥) (take (n + 1) c.args.picks.now) exprs in
    subst P (sym c.in_ok-push.ensures.ok) (one_made_at IsOfPick (λ pick. ⊥) c.args.picks.now n (record { ty = record { index = 0 }; below = false }) c.loop-pick.exprs
    c.pick_expr.result c.loop-pick-test.true c.loop-pick.invariant c.pick_expr.ensures)

pub returns : goal.returns
returns c = made_of_all IsOfPick (λ pick. ⊥) c.args.picks.now c.loop-pick.pick-index c.loop-pick.exprs c.loop-pick-test.false c.loop-pick.invariant
