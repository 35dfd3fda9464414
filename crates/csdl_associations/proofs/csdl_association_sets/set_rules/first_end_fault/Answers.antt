use Rattle.std.proofs.Common.{IfOk, codes, subst}
use Rattle.groupings.specs.least_fault.Least.{IsLeast}
use Rattle.layouts.specs.Faults.{fault_cmp}
use Rattle.layouts.specs.rule_places.Places.{InList}
use Rattle.csdl_names.specs.declared.csdl_lists.raw.RawModel.{RawModel}
use Rattle.csdl_associations.specs.csdl_association_sets.Told.{IsEndFault}
use Rattle.csdl_associations.proofs.csdl_association_sets.set_rules.first_end_fault.Goals as goal

pub returns : goal.returns
returns c =
    let sets = c.args.lookups.now.model.now.container.association_sets in
    let Told : RawModel → Type 0 = λ one. IfOk c.first_at-found.result (IsLeast fault_cmp (InList (codes "AssociationSet") (IsEndFault one) sets)) in
    subst Told c.in_ok-search.ensures c.first_at-found.ensures
