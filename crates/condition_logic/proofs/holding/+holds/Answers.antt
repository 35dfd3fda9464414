use Rattle.std.proofs.Common.{refl, sym, ap, subst, ◌∙◌}
use Rattle.std.proofs.lemmas.List.Elements.{All-more}
use Rattle.condition_logic.specs.declared.expr.Expr.{Expr}
use Rattle.condition_logic.specs.declared.expr.Expr.TheVariants as expr
use Rattle.condition_logic.specs.Holds.{Holds}
use Rattle.condition_logic.specs.Subjects.{of_subject}
use Rattle.condition_logic.proofs.Parts.{all_broken, all_passed, any_found, any_missed}
use Rattle.condition_logic.proofs.Answered.{yes_all, no_all, yes_any, no_any}
use Rattle.condition_logic.proofs.holding.+holds.Goals as goal

pub returns-then-not-holds : goal.returns-then-not-holds
returns-then-not-holds t c =
    let reading = of_subject c.args.subject.now in
    let parts = c.as_slice-part-items.result.now in
    no_all reading c.args.expr.now parts (c.in-All.is ∙ ap expr.All (sym c.as_slice-part-items.ensures.items))
    (all_broken (Holds reading) parts c.loop-part.part-index c.part-item.result c.loop-part-test.true c.part-item.is (λ holds. let never = c.if-not-holds.ensures.1 holds in cc))

pub loop-part-preserved : goal.loop-part-preserved
loop-part-preserved t c =
    let Held : Expr → Type 0 = λ part. Holds (of_subject c.args.subject.now) part in
    All-more Held c.as_slice-part-items.result.now c.loop-part.part-index c.part-item.result c.loop-part-test.true c.loop-part.invariant
    (subst Held c.part-item.is (c.if-not-holds.ensures.0 refl))

pub returns-then-holds : goal.returns-then-holds
returns-then-holds t c =
    let reading = of_subject c.args.subject.now in
    let parts = c.as_slice-part-items-in-Any.result.now in
    yes_any reading c.args.expr.now parts (c.in-Any.is ∙ ap expr.Any (sym c.as_slice-part-items-in-Any.ensures.items))
    (any_found (Holds reading) parts c.loop-part-2.part-index c.part-item-in-loop-part-2.result c.loop-part-2-test.true c.part-item-in-loop-part-2.is (c.if-holds.ensures.0 refl))

pub loop-part-2-preserved : goal.loop-part-2-preserved
loop-part-2-preserved t c =
    let Failed : Expr → Type 0 = λ part. ¬ Holds (of_subject c.args.subject.now) part in
    All-more Failed c.as_slice-part-items-in-Any.result.now c.loop-part-2.part-index c.part-item-in-loop-part-2.result c.loop-part-2-test.true c.loop-part-2.invariant
    (subst Failed c.part-item-in-loop-part-2.is (λ holds. let never = c.if-holds.ensures.1 holds in cc))

pub returns-after-loop-part : goal.returns-after-loop-part
returns-after-loop-part t c =
    let reading = of_subject c.args.subject.now in
    let parts = c.as_slice-part-items.result.now in
    yes_all reading c.args.expr.now parts (c.in-All.is ∙ ap expr.All (sym c.as_slice-part-items.ensures.items))
    (all_passed (Holds reading) parts c.loop-part.part-index c.loop-part-test.false c.loop-part.invariant)

pub returns-after-loop-part-2 : goal.returns-after-loop-part-2
returns-after-loop-part-2 t c =
    let reading = of_subject c.args.subject.now in
    let parts = c.as_slice-part-items-in-Any.result.now in
    no_any reading c.args.expr.now parts (c.in-Any.is ∙ ap expr.Any (sym c.as_slice-part-items-in-Any.ensures.items))
    (any_missed (Holds reading) parts c.loop-part-2.part-index c.loop-part-2-test.false c.loop-part-2.invariant)
