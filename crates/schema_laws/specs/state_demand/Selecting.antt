-- Which entities a fragment selects, as a computed answer.
-- Source: MSL version 3, MappingFragment and Condition; the select-project queries of Melnik, Adya and Bernstein, SIGMOD 2007.
use Rattle.std.specs.Prelude.{◌↔◌, ◌==◌, ◌&&◌, Bool, true, false, not, List, IsTrue, if◌then◌else◌}
use Rattle.std.specs.List.{list_all, list_any}
use Rattle.std.specs.Ordering.{eq_by_cmp}
use Rattle.std.specs.Cmp.Lexicographic.{slice_cmp}
use Rattle.emc_base.specs.Order.{value_cmp}
use Rattle.round_trip.specs.Words.{TypeId, Value, Null, EntityModel, Fragment, Pick, CondOn, Test, Entity, IsA, value_of}
use Rattle.edm_types.specs.declared.mapping.CondOn.TheVariants as on
use Rattle.edm_types.specs.declared.mapping.Test.TheVariants.{IsNull, Equals}

-- the answer tells of any two types whether the first is the second or derived from it
pub record DecidesTypes (model : EntityModel) (is_a : TypeId → TypeId → Bool) : Type 0 where
  pub tells : (t u : TypeId) → IsTrue (is_a t u) ↔ IsA model t u

-- whether two values are one
abbrev pub same_value : Value → Value → Bool
same_value one two = eq_by_cmp value_cmp one two

-- whether two keys are one
abbrev pub same_key : List Value → List Value → Bool
same_key one two = eq_by_cmp (slice_cmp value_cmp) one two

-- whether a value passes a test; null equals no value
abbrev pub passes : Test → Value → Bool
passes (IsNull true) value = same_value value Null
passes (IsNull false) value = not (same_value value Null)
passes (Equals constant) value = same_value value constant && not (same_value value Null)

-- whether a condition is on no property, or the entity's value passes
abbrev pub met_by_entity : EntityModel → Entity → CondOn → Test → Bool
met_by_entity model entity (on.Prop prop) test = passes test (value_of model entity prop)
met_by_entity model entity (on.Col col) test = true

-- whether a type is the one picked, or under it where the pick says so
abbrev pub is_picked : (TypeId → TypeId → Bool) → TypeId → Pick → Bool
is_picked is_a t pick = if pick.below then is_a t pick.ty else (t.index == pick.ty.index)

-- whether a fragment selects an entity of its set
abbrev pub selects : (TypeId → TypeId → Bool) → EntityModel → Fragment → Entity → Bool
selects is_a model fragment entity =
    list_any (is_picked is_a entity.ty) fragment.picks && list_all (λ cond. met_by_entity model entity cond.on cond.test) fragment.conds
