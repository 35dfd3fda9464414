use Rattle.std.proofs.Common.{List, ◌+◌, take, refl, sym, subst}
use Rattle.std.proofs.lemmas.Option.{slice_get_read}
use Rattle.condition_logic.specs.declared.expr.Expr.{Expr}
use Rattle.condition_logic.specs.Made.{AreOf, IsOfCond, IsOnSide}
use Rattle.condition_logic.proofs.Made.{one_made, one_left, made_of_all}
use Rattle.condition_logic.proofs.making.cond_exprs.Goals as goal

pub loop-cond-preserved-then-not-is_on : goal.loop-cond-preserved-then-not-is_on
loop-cond-preserved-then-not-is_on c =
    let n = c.loop-cond.cond-index in
    one_left (IsOfCond c.args.side) (λ cond. ¬ IsOnSide c.args.side cond.on) c.args.conds.now n c.cond-item.result c.loop-cond.exprs
    (slice_get_read _ _ n _ refl c.loop-cond-test.true c.cond-item.is) c.loop-cond.invariant (λ is. let never = c.if-not-is_on.ensures.1 is in cc)

pub loop-cond-preserved : goal.loop-cond-preserved
loop-cond-preserved c =
    let n = c.loop-cond.cond-index in
    let P : List Expr → Type 0 = λ exprs. AreOf (IsOfCond c.args.side) (λ cond. ¬ IsOnSide c.args.side cond.on) (take (n + 1) c.args.conds.now) exprs in
    subst P (sym c.in_ok-push.ensures.ok)
    (one_made (IsOfCond c.args.side) (λ cond. ¬ IsOnSide c.args.side cond.on) c.args.conds.now n c.cond-item.result c.loop-cond.exprs c.in_ok-test_expr.field-0
    (slice_get_read _ _ n _ refl c.loop-cond-test.true c.cond-item.is) c.loop-cond.invariant (c.if-not-is_on.ensures.0 refl, c.in_ok-test_expr.ensures))

pub returns : goal.returns
returns c =
    made_of_all (IsOfCond c.args.side) (λ cond. ¬ IsOnSide c.args.side cond.on) c.args.conds.now c.loop-cond.cond-index c.loop-cond.exprs
    c.loop-cond-test.false c.loop-cond.invariant
