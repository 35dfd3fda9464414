use Rattle.std.proofs.Common.{Bool, List, codes, subst, true}
use Rattle.emc_base.specs.Lists.{At}
use Rattle.groupings.specs.least_fault.Least.{IsLeast}
use Rattle.layouts.specs.Faults.{fault_cmp}
use Rattle.layouts.specs.rule_places.Places.{InList}
use Rattle.layouts.proofs.rule_places.Rules.{least_given}
use Rattle.csdl_names.specs.declared.csdl_lists.raw.RawModel.{RawModel}
use Rattle.csdl_names.specs.csdl_lists.References.{names_in}
use Rattle.csdl_associations.specs.csdl_association_sets.Concrete.{IsEndTypeFault, IsEndsFault}
use Rattle.csdl_associations.proofs.csdl_association_sets.concrete.NamedEndsFinderRawAssociationFault.find.Goals as goal

pub returns : goal.returns
returns c =
    let model = c.self.inside.types.now in
    let place = c.args.place in
    let item = c.args.item.now in
    let Marked : List Bool → Type 0 = λ told. At told place true in
    let named = (c.self.invariant.each place).0 (subst Marked c.as_slice.ensures.value (c.is_told.ensures.0 c.if-not-is_told.false)) in
    let Told : RawModel → Type 0 = λ one. IsLeast fault_cmp (IsEndsFault (names_in one) one place item) c.in_ok-found.found in
    subst Told c.self.view_is (least_given (InList (codes "End") (IsEndTypeFault (names_in model) model) item.ends) c.in_ok-found.found named c.in_ok-found.ensures)
