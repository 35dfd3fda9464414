-- The rules on what stands at the ends of associations and in the sets: V14, V15, V18, V19 and V20.
use Rattle.std.specs.Prelude.{◌⊎◌, ℕ, codes}
use Rattle.json_form.specs.declared.pointer.Step.TheVariants.{Member}
use Rattle.layouts.specs.declared.fault.Fault.{Fault}
use Rattle.layouts.specs.Inside.{Under}
use Rattle.layouts.specs.rule_places.Places.{InList}
use Rattle.csdl_names.specs.declared.csdl_lists.raw.RawAssociationSet.{RawAssociationSet}
use Rattle.csdl_names.specs.declared.csdl_lists.raw.RawContainer.{RawContainer}
use Rattle.csdl_names.specs.declared.csdl_lists.raw.RawModel.{RawModel}
use Rattle.csdl_names.specs.csdl_lists.References.{Names, names_in}
use Rattle.csdl_associations.specs.csdl_association_sets.Concrete.{IsElementFault, IsEndsFault}
use Rattle.csdl_associations.specs.csdl_association_sets.SetArrows.{IsArrowFault}
use Rattle.csdl_associations.specs.csdl_association_sets.SetEnds.{IsDependentFault, IsRolesFault, IsTypesFault}

module _ (names : Names) (model : RawModel) where
  -- an association set breaks V15, V18, V19 or V20
  abbrev pub IsSetFault : ℕ → RawAssociationSet → Fault → Type 0
  IsSetFault i set fault =
      IsRolesFault names model i set fault
      ⊎ IsDependentFault names model i set fault
      ⊎ IsArrowFault names model i set fault
      ⊎ IsTypesFault names model i set fault

  -- in the container: V14 of element types, and the rules on association sets
  abbrev pub IsContainerFault : RawContainer → Fault → Type 0
  IsContainerFault container fault =
      InList (codes "EntitySet") (IsElementFault names model) container.sets fault
      ⊎ InList (codes "AssociationSet") IsSetFault container.association_sets fault

-- V14, V15, V18, V19 and V20
abbrev pub BreaksSetRules : RawModel → Fault → Type 0
BreaksSetRules model fault =
    Under (Member (codes "EntityContainer")) (IsContainerFault (names_in model) model model.container) fault
    ⊎ InList (codes "Association") (IsEndsFault (names_in model) model) model.associations fault
