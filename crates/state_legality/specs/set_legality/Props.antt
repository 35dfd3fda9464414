-- What a value breaks at a property, and what is found there.
-- Source: CSDL version 3, Property.
use Rattle.std.specs.Prelude.{◌≡◌, ◌≢◌, ◌⊎◌, ℕ, [], ◌∷◌, Option, Some, None, false, IsTrue, slice_get, unwrap_or}
use Rattle.round_trip.specs.Words.{Value, Null, PropId, place_at, EntityModel, EntitySet, Prop, Entity, At, InDomain, key_of, props_of}
use Rattle.entity_state.specs.declared.breach_order.found.Found.{Found}
use Rattle.entity_state.specs.declared.entity_values.rule.StateRule.{StateRule}
use Rattle.entity_state.specs.declared.entity_values.rule.StateRule.TheVariants as rule
use Rattle.entity_state.specs.entity_values.Rules.{rule_number}

-- an entity's value at a place of its own list; null where the list ends before it
abbrev pub value_numbered : Entity → ℕ → Value
value_numbered entity j = unwrap_or (slice_get entity.values j) Null

-- the value may stand at the property: S2 and S3
pub record FitsProp (value : Value) (declared : Prop) : Type 0 where
  pub null : value ≡ Null → IsTrue declared.nullable
  pub domain : (value ≡ Null) ⊎ InDomain value declared.kind

-- the value breaks the rule at the property
abbrev pub BreaksAtProp : Value → Prop → StateRule → Type 0
BreaksAtProp value declared rule.Null = (value ≡ Null) × (declared.nullable ≡ false)
BreaksAtProp value declared rule.Domain = (value ≢ Null) × ¬ InDomain value declared.kind
BreaksAtProp value declared other = ⊥

-- the rule that the value breaks, or that it may stand there
abbrev pub ValueTold : Value → Prop → Option StateRule → Type 0
ValueTold value declared None = FitsProp value declared
ValueTold value declared (Some rule) = BreaksAtProp value declared rule

-- an entity's value at a place may stand at the property, as the model declares it
pub record FitsAt (model : EntityModel) (entity : Entity) (j : ℕ) (prop : PropId) : Type 0 where
  pub told : (declared : Prop) → At model.props prop.index declared → FitsProp (value_numbered entity j) declared

-- each value of an entity may stand at its property
pub record FitsProps (model : EntityModel) (entity : Entity) : Type 0 where
  pub each : (j : ℕ) (prop : PropId) → At (props_of model entity.ty) j prop → FitsAt model entity j prop

-- a breach at the j-th property of the i-th entity of the s-th set
pub record IsPropBreach (model : EntityModel) (s : ℕ) (set : EntitySet) (i : ℕ) (entity : Entity) (j : ℕ) (prop : PropId) (found : Found) : Type 0 where
  pub declared : Prop
  pub is_declared : At model.props prop.index declared
  pub rule : StateRule
  pub broken : BreaksAtProp (value_numbered entity j) declared rule
  pub found_is : found ≡ record { rule = rule_number rule; spot = s ∷ i ∷ j ∷ []; place = place_at set.name (key_of model entity) declared.name }
