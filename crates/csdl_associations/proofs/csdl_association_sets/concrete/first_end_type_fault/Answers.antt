use Rattle.std.proofs.Common.{codes, subst}
use Rattle.groupings.specs.least_fault.Least.{IsLeast}
use Rattle.layouts.specs.Faults.{fault_cmp}
use Rattle.layouts.specs.rule_places.Places.{InList}
use Rattle.csdl_names.specs.declared.csdl_lists.raw.RawModel.{RawModel}
use Rattle.csdl_names.specs.csdl_lists.References.{names_in}
use Rattle.csdl_associations.specs.csdl_association_sets.Concrete.{IsEndsFault}
use Rattle.csdl_associations.proofs.csdl_association_sets.concrete.first_end_type_fault.Goals as goal

pub returns : goal.returns
returns c =
    let associations = c.args.lookups.now.model.now.associations in
    let Told : RawModel → Type 0 = λ one. IsLeast fault_cmp (InList (codes "Association") (IsEndsFault (names_in one) one) associations) c.in_ok-found.found in
    subst Told c.requires c.in_ok-found.ensures
