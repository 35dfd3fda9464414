-- Steps that are counted one by one.
use Rattle.std.proofs.Common.{◌≡◌, ◌∙◌, ◌+◌, ◌≤◌, ◌<◌, ℕ, zero, suc, refl, sym, ap, arith, zero-add}
use Rattle.std.proofs.Math.Nat.{suc-add}
use Rattle.std.proofs.Math.Numerals.{suc-eq-add-one}
use Rattle.emc_base.specs.Faults.{one_more}
use Rattle.delta_plan.specs.Steps.{RoseAtMost, raised}

-- one step more
pub raised_more : (steps count : ℕ) → raised (suc steps) count ≡ one_more (raised steps count)
raised_more zero count = refl
raised_more (suc steps) count = raised_more steps (one_more count)

-- some steps behind others
pub raised_both : (one other count : ℕ) → raised (one + other) count ≡ raised other (raised one count)
raised_both zero other count = ap (λ steps. raised steps count) (zero-add other)
raised_both (suc one) other count = ap (λ steps. raised steps count) (suc-add one other) ∙ raised_both one other (one_more count)

-- one step more was counted
pub stepped : (steps count before now : ℕ) → before ≡ raised steps count → now ≡ one_more before → now ≡ raised (steps + 1) count
stepped steps count before now was is = is ∙ ap one_more was ∙ sym (raised_more steps count) ∙ ap (λ n. raised n count) (suc-eq-add-one steps)

-- and there may be so many
pub rose : (most steps count before now : ℕ) → steps < most → before ≡ raised steps count → now ≡ one_more before → RoseAtMost most count now
rose most steps count before now few was is = record { steps = suc steps; few = few; is = is ∙ ap one_more was ∙ sym (raised_more steps count) }

-- so many may be more
pub rose_within : (most more before now : ℕ) → most ≤ more → RoseAtMost most before now → RoseAtMost more before now
rose_within most more before now fits rose =
    let few : rose.steps ≤ most = rose.few in
    record { steps = rose.steps; few = omega (arith, fits, few); is = rose.is }

-- and behind others
pub rose_after : (steps most count before now : ℕ) → before ≡ raised steps count → RoseAtMost most before now → RoseAtMost (steps + most) count now
rose_after steps most count before now was rose =
    let few : rose.steps ≤ most = rose.few in
    record { steps = steps + rose.steps; few = omega (arith, few); is = rose.is ∙ ap (raised rose.steps) was ∙ sym (raised_both steps rose.steps count) }

pub raised_after : (one other count before now : ℕ) → before ≡ raised one count → now ≡ raised other before → now ≡ raised (one + other) count
raised_after one other count before now was is = is ∙ ap (raised other) was ∙ sym (raised_both one other count)
