-- The tree of an entity gives the entity.
use Rattle.std.proofs.Common.{◌≡◌, length, map, Contains, unwrap_or, Option, Some, option_and_then, option_map, ap, ◌∙◌}
use Rattle.serde_json.specs.Data.{Data}
use Rattle.serde_json.specs.Find.{as_str}
use Rattle.emc_base.specs.Lists.{AreApart, At}
use Rattle.emc_base.proofs.Lists.{all_from_members}
use Rattle.round_trip.specs.Words.{EntityModel, EntityType, Entity, Prop, PropId, TypeId, Value, Null, props_of, value_of}
use Rattle.edm_types.specs.Forest.{type_numbered}
use Rattle.entity_state.specs.Tells.{TellsEntity}
use Rattle.schema_names.specs.SchemaNames.{type_named}
use Rattle.data_documents.specs.entity_documents.Names.{type_in}
use Rattle.data_documents.specs.entity_documents.Shapes.{value_for}
use Rattle.data_documents.specs.entity_documents.States.{entity_in, entity_of, value_at}
use Rattle.data_documents.specs.shape_faults.Values.{value_in}
use Rattle.data_documents.proofs.printed.Values.{IsGood}
use Rattle.data_documents.proofs.printed.entities.Beside.{map_alike, values_beside}
use Rattle.data_documents.proofs.printed.entities.Named.{own_type}

-- an entity's value of a property, which its tree gives
pub record IsGoodValue (model : EntityModel) (prop : PropId) (v : Value) : Type 0 where
  pub declared : Prop
  pub is_declared : At model.props prop.index declared
  pub good : IsGood declared.kind v

-- an entity of a type of the model, with a value of this sort for each of its properties
pub record IsGoodEntity (model : EntityModel) (entity : Entity) : Type 0 where
  pub type : EntityType
  pub is_type : At model.types entity.ty.index type
  pub each : length entity.values ≡ length (props_of model entity.ty)
  pub values : (prop : PropId) → Contains (props_of model entity.ty) prop → IsGoodValue model prop (value_of model entity prop)

-- the value is given for the property
pub given_for : (model : EntityModel) (prop : PropId) (v : Value) (good : IsGoodValue model prop v) → (d : Data) → value_in good.declared.kind d ≡ Some v → value_for model prop d ≡ Some v
given_for model prop v good d back = ap (option_and_then (λ (declared : Prop). value_in declared.kind d)) good.is_declared ∙ back

module _ (model : EntityModel) (types_apart : AreApart (map (λ type. type.name) model.types)) where
  module _ (entity : Entity) (good : IsGoodEntity model entity) (props_apart : AreApart (props_of model entity.ty)) (tree : Data) (tells : TellsEntity model entity tree) where
    pub type_back : type_in model tree ≡ Some entity.ty
    type_back =
        ap (λ found. option_map type_numbered (option_and_then (type_named model) (option_and_then as_str found))) tells.type
        ∙ ap (option_map type_numbered) (own_type model types_apart entity.ty good.type good.is_type)

    values_back : map (value_at model tree) (props_of model entity.ty) ≡ entity.values
    values_back =
        map_alike (value_at model tree) (value_of model entity) (props_of model entity.ty)
        (all_from_members (λ prop. value_at model tree prop ≡ value_of model entity prop) (props_of model entity.ty) (λ prop has.
        let value = good.values prop has in
        ap (λ found. unwrap_or (option_and_then (value_for model prop) found) Null) (tells.values prop has)
        ∙ ap (λ found. unwrap_or found Null) (given_for model prop (value_of model entity prop) value _ value.good.back)))
        ∙ values_beside (props_of model entity.ty) entity.values props_apart good.each

    pub entity_back : entity_in model tree ≡ entity
    entity_back =
        let same : entity_of model entity.ty tree ≡ entity = λ k. record { ty = entity.ty; values = values_back k } in
        ap (λ (found : Option TypeId). entity_of model (unwrap_or found (type_numbered 0)) tree) type_back ∙ same
