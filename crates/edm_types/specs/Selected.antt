-- Which entities a fragment selects, and which rows it shows.
-- Source: MSL version 3, MappingFragment and Condition; the select-project queries of Melnik, Adya and Bernstein, SIGMOD 2007.
use Rattle.std.specs.Prelude.{◌≡◌, ◌≢◌, ◌++◌, true, false, All, Any, MatchBool, ⊤}
use Rattle.edm_types.specs.Types.{TypeId, Value, Null, EntityModel, Fragment, Pick, LinkFragment, CondOn, Test, Entity, Row}
use Rattle.edm_types.specs.declared.mapping.CondOn.TheVariants as on
use Rattle.edm_types.specs.declared.mapping.Test.TheVariants.{IsNull, Equals}
use Rattle.edm_types.specs.IsA.{IsA}
use Rattle.edm_types.specs.Entities.{value_of}
use Rattle.edm_types.specs.Rows.{cell_of}

-- the value passes the test; null equals no value
abbrev pub Passes : Test → Value → Type 0
Passes (IsNull true) value = value ≡ Null
Passes (IsNull false) value = value ≢ Null
Passes (Equals constant) value = (value ≡ constant) × (value ≢ Null)

-- the condition is on no property, or the entity's value passes
abbrev pub MetByEntity : EntityModel → Entity → CondOn → Test → Type 0
MetByEntity model entity (on.Prop prop) test = Passes test (value_of model entity prop)
MetByEntity model entity (on.Col col) test = ⊤

-- the condition is on no column, or the row's cell passes
abbrev pub MetByRow : Row → CondOn → Test → Type 0
MetByRow row (on.Prop prop) test = ⊤
MetByRow row (on.Col col) test = Passes test (cell_of row col)

-- the type is the one picked, or under it where the pick says so
abbrev pub IsPicked : EntityModel → TypeId → Pick → Type 0
IsPicked model t pick = MatchBool pick.below (IsA model t pick.ty) (t ≡ pick.ty)

-- a fragment selects an entity of its set: its type is picked, and it meets each property condition
pub record Selects (model : EntityModel) (fragment : Fragment) (entity : Entity) : Type 0 where
  pub picked : Any (IsPicked model entity.ty) fragment.picks
  pub meets : All (λ cond. MetByEntity model entity cond.on cond.test) fragment.conds

-- a fragment shows a row of its table: the row meets each column condition
abbrev pub Shows : Fragment → Row → Type 0
Shows fragment row = All (λ cond. MetByRow row cond.on cond.test) fragment.conds

-- a link fragment shows a row of its table: it meets each column condition, and no mapped key column is null
pub record ShowsLink (fragment : LinkFragment) (row : Row) : Type 0 where
  pub meets : All (λ cond. MetByRow row cond.on cond.test) fragment.conds
  pub keys : All (λ pair. cell_of row pair.col ≢ Null) (fragment.first ++ fragment.second)
