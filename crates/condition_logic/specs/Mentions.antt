-- What an expression speaks of.
-- Source: MSL version 3, Condition and the type picks of MappingFragment.
use Rattle.std.specs.Prelude.{◌≡◌, ◌↔◌, ◌⊎◌, ⊤, List, Any, Box}
use Rattle.std.specs.Global.{Global}
use Rattle.condition_logic.specs.Words.{PropId, Value, CondOn}
use Rattle.edm_types.specs.declared.mapping.CondOn.TheVariants as on
use Rattle.condition_logic.specs.declared.expr.Expr.{Expr, All', Any', Not', IsOf, OnlyOf, IsNull, Equals, Row_of-Expr, end_of-Expr, more_of-Expr}
use Rattle.condition_logic.specs.declared.expr.Expr.TheVariants as expr

module _ (Is : Expr → Type 0) where
  abbrev mutual
    -- one of the simple conditions of the expression, those without parts, is such
    pub Mentions : Expr → Type 0
    Mentions (All' _ parts) = SomeMentions parts
    Mentions (Any' _ parts) = SomeMentions parts
    Mentions (Not' _ part) = Mentions part
    Mentions simple = Is simple

    -- one of some parts
    pub SomeMentions : {n : _} → Row_of-Expr n → Type 0
    SomeMentions end_of-Expr = ⊥
    SomeMentions (more_of-Expr part rest) = Mentions part ⊎ SomeMentions rest

-- a simple condition is on this property or column
abbrev pub IsOn : CondOn → Expr → Type 0
IsOn on (IsNull other) = other ≡ on
IsOn on (Equals other constant) = other ≡ on
IsOn on _ = ⊥

-- a simple condition compares the property or column with this value
abbrev pub IsComparison : CondOn → Value → Expr → Type 0
IsComparison on value (Equals other constant) = (other ≡ on) × (constant ≡ value)
IsComparison on value _ = ⊥

-- a simple condition is on the type
abbrev pub IsOnType : Expr → Type 0
IsOnType (IsOf t) = ⊤
IsOnType (OnlyOf t) = ⊤
IsOnType _ = ⊥

-- an expression names a property or a column
abbrev pub Names : Expr → CondOn → Type 0
Names expr on = Mentions (IsOn on) expr

-- an expression compares a property with a value
abbrev pub Compares : Expr → PropId → Value → Type 0
Compares expr prop value = Mentions (IsComparison (on.Prop prop) value) expr

-- an expression names a type
abbrev pub NamesType : Expr → Type 0
NamesType expr = Mentions IsOnType expr

-- it is so of an expression by one of its parts
pub record IsByParts (IsSo : Expr → Type 0) : Type 0 where
  pub all : (parts : List Expr) → IsSo (expr.All parts) ↔ Any IsSo parts
  pub any : (parts : List Expr) → IsSo (expr.Any parts) ↔ Any IsSo parts
  pub not : (part : Box Expr Global) → IsSo (expr.Not part) ↔ IsSo part.value
