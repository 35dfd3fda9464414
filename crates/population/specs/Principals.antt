-- Which principals an entity asks for.
-- Source: CSDL version 3, ReferentialConstraint, Principal and Dependent.
use Rattle.std.specs.Prelude.{◌≡◌, ◌≢◌, ◌==◌, ◌&&◌, List, [], ◌∷◌, map, flat_map, All, Contains, Bool, Some, not, if◌then◌else◌}
use Rattle.std.specs.List.{list_all}
use Rattle.std.specs.Option.{option_map_or}
use Rattle.round_trip.specs.Words.{SetId, Value, Null, EntityModel, Assoc, Constraint, Entity, IsA, dependent_end, principal_end, key_props, value_beside, values_of}
use Rattle.schema_laws.specs.sound_demand.Deriving.{derives}
use Rattle.schema_laws.specs.state_demand.Selecting.{same_value}
pub use Rattle.population.specs.declared.placed.PlacedKey.{PlacedKey}

module _ (model : EntityModel) where
  -- the key of the principal of these dependent values, in the order of the principal type's key
  abbrev pub principal_key : Assoc → Constraint → List Value → List Value
  principal_key assoc constraint values = map (λ p. value_beside p constraint.principal values) (key_props model (principal_end assoc constraint).ty)

  -- the principal by one constraint
  abbrev pub principal_by : Assoc → Constraint → Entity → PlacedKey
  principal_by assoc constraint entity = record {
    set = (principal_end assoc constraint).set;
    key = principal_key assoc constraint (values_of model entity constraint.dependent);
  }

  -- an entity of the set asks for the principal: a constraint covers it, and none of its dependent values is null
  pub record AsksFor (u : SetId) (entity : Entity) (to : PlacedKey) : Type 0 where
    pub assoc : Assoc
    pub constraint : Constraint
    pub is_assoc : Contains model.assocs assoc
    pub constrained : assoc.constraint ≡ Some constraint
    pub at_end : (dependent_end assoc constraint).set ≡ u
    pub covers : IsA model entity.ty (dependent_end assoc constraint).ty
    pub there : All (λ value. value ≢ Null) (values_of model entity constraint.dependent)
    pub is : to ≡ principal_by assoc constraint entity

  -- whether no value is null
  abbrev pub none_null : List Value → Bool
  none_null values = list_all (λ value. not (same_value value Null)) values

  -- whether a constraint asks a principal of an entity of the set
  abbrev pub is_asked : SetId → Entity → Assoc → Constraint → Bool
  is_asked u entity assoc constraint = ((dependent_end assoc constraint).set.index == u.index)
      && (derives model entity.ty (dependent_end assoc constraint).ty && none_null (values_of model entity constraint.dependent))

  abbrev pub asked_by : SetId → Entity → Assoc → Constraint → List PlacedKey
  asked_by u entity assoc constraint = if is_asked u entity assoc constraint then principal_by assoc constraint entity ∷ [] else []

  -- the principals that an entity of the set asks for
  abbrev pub principals : SetId → Entity → List PlacedKey
  principals u entity = flat_map (λ assoc. option_map_or (asked_by u entity assoc) assoc.constraint []) model.assocs
