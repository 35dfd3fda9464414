use Rattle.std.proofs.Common.{ap, sym, ◌∙◌}
use Rattle.std.specs.Cmp.Lexicographic.{slice_cmp}
use Rattle.emc_base.specs.Order.{value_cmp}
use Rattle.emc_base.proofs.KeyRefs.{by_first, by_second, parts_compared}
use Rattle.emc_base.proofs.key_ref.KeyRef.compare.Goals as goal

pub returns-then-is_ne : goal.returns-then-is_ne
returns-then-is_ne c =
    by_first c.self.inside.parts.now c.other.inside.parts.now c.compare-order.result
    (parts_compared _ _ _ _ _ c.compare-order.ensures c.self.invariant.0 c.other.invariant.0) (sym c.is_ne.ensures ∙ c.if-is_ne.true)
    ∙ ap (λ key. slice_cmp value_cmp key c.other.inside.parts.now) c.self.view_is ∙ ap (slice_cmp value_cmp c.args.self.now) c.other.view_is

pub returns-then-is_ne-2 : goal.returns-then-is_ne-2
returns-then-is_ne-2 c =
    by_second c.self.inside.parts.now c.other.inside.parts.now c.compare-order.result
    (parts_compared _ _ _ _ _ c.compare-order.ensures c.self.invariant.0 c.other.invariant.0) (sym c.is_ne.ensures ∙ c.if-is_ne.false)
    c.compare-order-2.result (parts_compared _ _ _ _ _ c.compare-order-2.ensures c.self.invariant.1 c.other.invariant.1) (sym c.is_ne-2.ensures ∙ c.if-is_ne-2.true)
    ∙ ap (λ key. slice_cmp value_cmp key c.other.inside.parts.now) c.self.view_is ∙ ap (slice_cmp value_cmp c.args.self.now) c.other.view_is
