use Rattle.std.proofs.Common.{ℕ, List, Option, rules, subst}
use Rattle.std.specs.Ordering.{nat_cmp}
use Rattle.groupings.specs.least_fault.Least.{IsLeast}
use Rattle.msl_rules.specs.declared.msl_lists.raw.RawPair.{RawPair}
use Rattle.msl_checks.specs.msl_written.Again.{IsAgain}
use Rattle.msl_checks.proofs.msl_written.Again.{least_again}
use Rattle.msl_checks.proofs.msl_written.repeats.first_twice_written.Goals as goal

pub returns : goal.returns
returns c =
    let First : (RawPair → List ℕ) → Option ℕ → List RawPair → Type 0 = λ name_in first pairs. IsLeast nat_cmp (IsAgain name_in pairs) first in
    let prop = subst (First (λ pair. pair.prop) c.in_ok-prop.prop) c.as_slice.ensures.items (c.in_ok-prop.ensures (λ pair. pair.prop) (λ pair name lent. search rules)) in
    let col = subst (First (λ pair. pair.col) c.in_ok-col.col) c.as_slice-2.ensures.items (c.in_ok-col.ensures (λ pair. pair.col) (λ pair name lent. search rules)) in
    least_again c.args.pairs.now c.in_ok-prop.prop c.in_ok-col.col c.in_ok-of_prop.of_prop c.in_ok-of_col.of_col c.earlier.result prop c.in_ok-of_prop.ensures col
    c.in_ok-of_col.ensures c.earlier.ensures
