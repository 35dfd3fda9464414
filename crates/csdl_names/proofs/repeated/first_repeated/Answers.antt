use Rattle.std.proofs.Common.{◌⊎◌, codes}
use Rattle.json_form.specs.declared.pointer.Step.TheVariants.{Member}
use Rattle.layouts.specs.declared.fault.Fault.{Fault}
use Rattle.layouts.specs.Inside.{Under}
use Rattle.layouts.specs.rule_places.Places.{InList}
use Rattle.csdl_names.specs.Repeated.{IsRepeatedInAssociation, IsRepeatedInContainer, IsRepeatedInEnum, IsRepeatedInSchema, IsRepeatedInType}
use Rattle.layouts.proofs.rule_places.Rules.{least_searches}
use Rattle.csdl_names.proofs.RepeatedTypes.{types_found}
use Rattle.csdl_names.proofs.repeated.first_repeated.Goals as goal

pub returns : goal.returns
returns c =
    let model = c.args.lookups.now.model.now in
    let Schema : Fault → Type 0 = IsRepeatedInSchema model in
    let Container : Fault → Type 0 = Under (Member (codes "EntityContainer")) (IsRepeatedInContainer model.container) in
    let Types : Fault → Type 0 = InList (codes "EntityType") IsRepeatedInType model.types in
    let Enums : Fault → Type 0 = InList (codes "EnumType") IsRepeatedInEnum model.enums in
    let Roles : Fault → Type 0 = InList (codes "Association") IsRepeatedInAssociation model.associations in
    least_searches Schema (λ fault. Container fault ⊎ Types fault ⊎ Enums fault ⊎ Roles fault) c.first_in_schema-schema.result c.earlier_of-2.result c.earlier_of-3.result
    c.earlier_of-3.ensures c.first_in_schema-schema.ensures
    (least_searches Container (λ fault. Types fault ⊎ Enums fault ⊎ Roles fault) c.first_in_container-container.result c.earlier_of-in_items.result c.earlier_of-2.result
    c.earlier_of-2.ensures c.first_in_container-container.ensures
    (least_searches Types (λ fault. Enums fault ⊎ Roles fault) c.first_at-types.result c.earlier_of.result c.earlier_of-in_items.result
    c.earlier_of-in_items.ensures (types_found model c.first_at-types.result c.first_at-types.ensures)
    (least_searches Enums Roles c.first_at-enums.result c.first_at-roles.result c.earlier_of.result c.earlier_of.ensures c.first_at-enums.ensures c.first_at-roles.ensures)))
