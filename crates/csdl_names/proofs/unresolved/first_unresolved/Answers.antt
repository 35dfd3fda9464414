use Rattle.std.proofs.Common.{◌⊎◌, codes}
use Rattle.json_form.specs.declared.pointer.Step.TheVariants.{Member}
use Rattle.layouts.specs.declared.fault.Fault.{Fault}
use Rattle.layouts.specs.Inside.{Under}
use Rattle.layouts.specs.rule_places.Places.{InList}
use Rattle.csdl_names.specs.csdl_lists.References.{names_in}
use Rattle.csdl_names.specs.Unresolved.{IsUnresolvedInAssociation, IsUnresolvedInContainer, IsUnresolvedInType}
use Rattle.layouts.proofs.rule_places.Rules.{least_searches}
use Rattle.csdl_names.proofs.unresolved.first_unresolved.Goals as goal

pub returns : goal.returns
returns c =
    let model = c.args.lookups.now.model.now in
    let Container : Fault → Type 0 = Under (Member (codes "EntityContainer")) (IsUnresolvedInContainer (names_in model) model model.container) in
    let Types : Fault → Type 0 = InList (codes "EntityType") (IsUnresolvedInType (names_in model) model) model.types in
    let Associations : Fault → Type 0 = InList (codes "Association") (IsUnresolvedInAssociation (names_in model) model) model.associations in
    least_searches Container (λ fault. Types fault ⊎ Associations fault) c.first_in_container-container.result c.earlier_of.result c.earlier_of-2.result c.earlier_of-2.ensures
    c.first_in_container-container.ensures
    (least_searches Types Associations c.first_at-types.result c.first_at-associations.result c.earlier_of.result c.earlier_of.ensures c.first_at-types.ensures c.first_at-associations.ensures)
