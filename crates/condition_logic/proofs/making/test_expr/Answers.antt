use Rattle.std.proofs.Common.{refl, sym, subst, ap, ◌∙◌}
use Rattle.edm_types.specs.declared.mapping.Test.TheVariants as test
use Rattle.condition_logic.specs.Words.{Test}
use Rattle.condition_logic.specs.declared.expr.Expr.TheVariants as expr
use Rattle.condition_logic.specs.Made.{IsOfTest}
use Rattle.condition_logic.proofs.making.test_expr.Goals as goal

pub returns-in_ok-new-in-IsNull-false : goal.returns-in_ok-new-in-IsNull-false
returns-in_ok-new-in-IsNull-false c =
    let P : Test → Type 0 = λ asked. IsOfTest c.args.on asked (expr.Not c.in_ok-new-in-IsNull-false.field-0) in
    subst P (sym (c.in-IsNull-false.is ∙ ap test.IsNull (sym c.in-IsNull-false.field-0-is ∙ c.in-IsNull-false.field-0-test)))
    (c.in_ok-new-in-IsNull-false.field-0, refl, c.in_ok-new-in-IsNull-false.ensures.ok)
