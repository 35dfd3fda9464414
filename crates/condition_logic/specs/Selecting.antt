-- Expressions that say what a fragment says.
-- Source: MSL version 3, MappingFragment and Condition; the select-project queries of Melnik, Adya and Bernstein, SIGMOD 2007.
use Rattle.std.specs.Prelude.{◌≡◌, ◌≢◌, ◌↔◌, List, All, Any}
use Rattle.condition_logic.specs.Words.{PropId, ColId, Value, Null, EntityModel, Fragment, Cond, Entity, Row, MetByRow, Selects, cell_of}
use Rattle.edm_types.specs.declared.mapping.CondOn.TheVariants as on
use Rattle.edm_types.specs.declared.mapping.Test.TheVariants as test
use Rattle.condition_logic.specs.declared.expr.Expr.{Expr}
use Rattle.condition_logic.specs.Readings.{of_entity, of_row}
use Rattle.condition_logic.specs.Holds.{Holds}
use Rattle.condition_logic.specs.Mentions.{Names, NamesType, Compares}

-- it says which entities a fragment selects, and speaks of properties alone, as the fragment's conditions do
pub record SaysSelected (fragment : Fragment) (expr : Expr) : Type 0 where
  pub holds : (model : EntityModel) (entity : Entity) → Holds (of_entity model entity) expr ↔ Selects model fragment entity
  pub columns : (col : ColId) → ¬ Names expr (on.Col col)
  pub props : (prop : PropId) → Names expr (on.Prop prop) → Any (λ cond. cond.on ≡ on.Prop prop) fragment.conds
  pub constants : (prop : PropId) (value : Value) → Compares expr prop value → Any (λ cond. (cond.on ≡ on.Prop prop) × (cond.test ≡ test.Equals value)) fragment.conds

-- a row meets each column condition, and none of these columns of it is null
pub record ShowsRow (conds : List Cond) (cols : List ColId) (row : Row) : Type 0 where
  pub meets : All (λ cond. MetByRow row cond.on cond.test) conds
  pub not_null : All (λ col. cell_of row col ≢ Null) cols

-- it says which rows meet the conditions and are nowhere null, and speaks of columns alone
pub record SaysShown (conds : List Cond) (cols : List ColId) (expr : Expr) : Type 0 where
  pub holds : (row : Row) → Holds (of_row row) expr ↔ ShowsRow conds cols row
  pub props : (prop : PropId) → ¬ Names expr (on.Prop prop)
  pub types : ¬ NamesType expr
