-- The least of names that stand for nothing.
use Rattle.std.proofs.Common.{◌≡◌, ℕ, List, Option, subst}
use Rattle.groupings.specs.least_fault.Least.{IsLeast}
use Rattle.layouts.specs.declared.fault.Fault.{Fault}
use Rattle.layouts.specs.Faults.{fault_cmp}
use Rattle.layouts.specs.rule_places.Names.{NamesNothing}

-- a name that stands for the same, or for nothing
pub names_nothing : (one other : Option ℕ) (member : List ℕ) (found : Option Fault) → one ≡ other → IsLeast fault_cmp (NamesNothing one member) found
    → IsLeast fault_cmp (NamesNothing other member) found
names_nothing one other member found = subst (λ (o : Option ℕ). IsLeast fault_cmp (NamesNothing o member) found)
