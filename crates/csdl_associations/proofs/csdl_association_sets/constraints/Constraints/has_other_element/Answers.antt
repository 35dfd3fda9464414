use Rattle.std.proofs.Common.{◌↔◌, IsTrue, not, subst}
use Rattle.csdl_names.specs.declared.csdl_lists.raw.RawModel.{RawModel}
use Rattle.csdl_names.specs.csdl_lists.References.{names_in}
use Rattle.csdl_names.specs.SetRoles.{element_of_role}
use Rattle.csdl_names.specs.Unresolved.{type_of_role}
use Rattle.csdl_associations.specs.csdl_association_sets.Told.{HasOtherElement}
use Rattle.csdl_associations.proofs.csdl_association_sets.KnownConstraints.{differ_by}
use Rattle.csdl_associations.proofs.csdl_association_sets.constraints.Constraints.has_other_element.Goals as goal

pub returns : goal.returns
returns c =
    let model = c.self.inside.lookups.now.model.now in
    let role = c.args.role.now in
    let Told : RawModel → Type 0 = λ one. IsTrue (not c.is_same.result) ↔ HasOtherElement one c.args.set.now c.args.association.now role in
    subst Told c.self.view_is (differ_by c.is_same.result c.element_of_role-element.result c.type_of_role-ty.result
    (element_of_role (names_in model) model c.args.set.now role) (type_of_role (names_in model) model c.args.association.now role)
    c.is_same.ensures c.element_of_role-element.ensures c.type_of_role-ty.ensures)
