use Rattle.std.proofs.Common.{[], ◌∷◌, ℕ, Contains, Option, codes, sym, subst}
use Rattle.json_form.specs.declared.pointer.Step.TheVariants.{Member}
use Rattle.groupings.specs.least_fault.Least.{IsLeast}
use Rattle.layouts.specs.declared.fault.Fault.{Fault}
use Rattle.layouts.specs.declared.rule.Rule.TheVariants.{InheritedName}
use Rattle.layouts.specs.Faults.{fault_cmp}
use Rattle.layouts.specs.rule_places.Places.{InList}
use Rattle.layouts.proofs.rule_places.Rules.{least_by_place}
use Rattle.csdl_types.specs.Inherited.{IsInherited, IsInheritedFault}
use Rattle.csdl_types.proofs.inherited.first_in_items.Goals as goal

pub returns : goal.returns
returns g c =
    let above : ℕ → Type 0 = Contains c.args.above.now in
    let P : Option Fault → Type 0 = λ found. IsLeast fault_cmp (InList c.args.list.now (λ k item. IsInheritedFault above c.args.types.now (g.T.Named.name_in item)) c.args.items.now) found in
    subst P (sym c.in_ok-found.ensures)
    (least_by_place InheritedName (Member (codes "Name") ∷ []) (λ k item. IsInherited above c.args.types.now (g.T.Named.name_in item)) c.args.items.now c.args.list.now
    c.in_ok-first.first c.in_ok-first.ensures)
