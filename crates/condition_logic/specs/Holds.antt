-- Where an expression holds.
-- Source: MSL version 3, Condition and the type picks of MappingFragment.
use Rattle.std.specs.Prelude.{◌↔◌, ◌⊎◌, ⊤, All, Any, List, Box}
use Rattle.std.specs.Global.{Global}
use Rattle.condition_logic.specs.Words.{TypeId, Value, CondOn}
use Rattle.condition_logic.specs.declared.expr.Expr.{Expr, All', Any', Not', IsOf, OnlyOf, IsNull, Equals, Row_of-Expr, end_of-Expr, more_of-Expr}
use Rattle.condition_logic.specs.declared.expr.Expr.TheVariants as expr
use Rattle.condition_logic.specs.Readings.{Reading}

module _ (reading : Reading) where
  abbrev mutual
    -- the expression holds
    pub Holds : Expr → Type 0
    Holds (All' _ parts) = EachHolds parts
    Holds (Any' _ parts) = SomeHolds parts
    Holds (Not' _ part) = ¬ Holds part
    Holds (IsOf t) = reading.is_of t
    Holds (OnlyOf t) = reading.only_of t
    Holds (IsNull on) = reading.is_null on
    Holds (Equals on constant) = reading.equals on constant

    -- each part holds
    pub EachHolds : {n : _} → Row_of-Expr n → Type 0
    EachHolds end_of-Expr = ⊤
    EachHolds (more_of-Expr part rest) = Holds part × EachHolds rest

    -- some part holds
    pub SomeHolds : {n : _} → Row_of-Expr n → Type 0
    SomeHolds end_of-Expr = ⊥
    SomeHolds (more_of-Expr part rest) = Holds part ⊎ SomeHolds rest

  -- what the seven forms of an expression mean: each part holds, some part does, the part doesn't, and as it is read
  pub record IsMeaning : Type 0 where
    pub all : (parts : List Expr) → Holds (expr.All parts) ↔ All Holds parts
    pub any : (parts : List Expr) → Holds (expr.Any parts) ↔ Any Holds parts
    pub not : (part : Box Expr Global) → Holds (expr.Not part) ↔ ¬ Holds part.value
    pub is_of : (t : TypeId) → Holds (expr.IsOf t) ↔ reading.is_of t
    pub only_of : (t : TypeId) → Holds (expr.OnlyOf t) ↔ reading.only_of t
    pub is_null : (on : CondOn) → Holds (expr.IsNull on) ↔ reading.is_null on
    pub equals : (on : CondOn) (constant : Value) → Holds (expr.Equals on constant) ↔ reading.equals on constant
