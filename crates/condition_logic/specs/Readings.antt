-- What the simple conditions of an expression say of an entity and of a row.
-- Source: MSL version 3, Condition and the type picks of MappingFragment; the select-project queries of Melnik, Adya and Bernstein, SIGMOD 2007.
use Rattle.std.specs.Prelude.{◌≡◌, ◌≢◌}
use Rattle.condition_logic.specs.Words.{TypeId, Value, Null, IsA, value_of, cell_of, EntityModel, CondOn, Entity, Row}
use Rattle.edm_types.specs.declared.mapping.CondOn.TheVariants as on

-- how an expression is read: whether the type is this one or derived from it, or is this one; whether a property or a column is null, and which
-- constant it equals
pub record Reading : Type 1 where
  pub is_of : TypeId → Type 0
  pub only_of : TypeId → Type 0
  pub is_null : CondOn → Type 0
  pub equals : CondOn → Value → Type 0

-- the value is the constant; null equals no value
abbrev pub Equals : Value → Value → Type 0
Equals value constant = (value ≡ constant) × (value ≢ Null)

-- an entity's values; a column of it counts as null
abbrev pub entity_value : EntityModel → Entity → CondOn → Value
entity_value model entity (on.Prop prop) = value_of model entity prop
entity_value model entity (on.Col col) = Null

-- a row's cells; a property of it counts as null
abbrev pub row_value : Row → CondOn → Value
row_value row (on.Prop prop) = Null
row_value row (on.Col col) = cell_of row col

-- by types and values
abbrev pub by_values : (TypeId → Type 0) → (TypeId → Type 0) → (CondOn → Value) → Reading
by_values IsOf IsOnlyOf value = record { is_of = IsOf; only_of = IsOnlyOf; is_null = λ on. value on ≡ Null; equals = λ on constant. Equals (value on) constant }

-- of an entity: its type and its values
abbrev pub of_entity : EntityModel → Entity → Reading
of_entity model entity = by_values (IsA model entity.ty) (λ t. entity.ty ≡ t) (entity_value model entity)

-- of a row: it has no type
abbrev pub of_row : Row → Reading
of_row row = by_values (λ t. ⊥) (λ t. ⊥) (row_value row)
