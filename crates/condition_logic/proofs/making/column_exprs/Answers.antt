use Rattle.std.proofs.Common.{List, ◌+◌, take, sym, subst}
use Rattle.condition_logic.specs.declared.expr.Expr.{Expr}
use Rattle.condition_logic.specs.Made.{AreOf, IsOfColumn}
use Rattle.condition_logic.proofs.Made.{one_made_at, made_of_all}
use Rattle.condition_logic.proofs.making.column_exprs.Goals as goal

pub loop-col-preserved : goal.loop-col-preserved
loop-col-preserved c =
    let n = c.loop-col.col-index in
    let P : List Expr → Type 0 = λ exprs. AreOf IsOfColumn (λ col. ⊥) (take (n + 1) c.args.cols.now) exprs in
    subst P (sym c.in_ok-push.ensures.ok) (one_made_at IsOfColumn (λ col. ⊥) c.args.cols.now n (record { index = 0 }) c.loop-col.exprs
    c.in_ok-column_expr.field-0 c.loop-col-test.true c.loop-col.invariant c.in_ok-column_expr.ensures)

pub returns : goal.returns
returns c = made_of_all IsOfColumn (λ col. ⊥) c.args.cols.now c.loop-col.col-index c.loop-col.exprs c.loop-col-test.false c.loop-col.invariant
