-- Expressions as they are made, part by part.
use Rattle.std.specs.Prelude.{◌≡◌, ◌⊎◌, List, true, false, Contains, Box, if◌then◌else◌, ⊤}
use Rattle.std.specs.Global.{Global}
use Rattle.condition_logic.specs.Words.{ColId, Pick, Cond, CondOn, Test}
use Rattle.edm_types.specs.declared.mapping.CondOn.TheVariants as on
use Rattle.edm_types.specs.declared.mapping.Test.TheVariants as test
use Rattle.condition_logic.specs.declared.expr.Expr.{Expr}
use Rattle.condition_logic.specs.declared.expr.Expr.TheVariants as expr
use Rattle.condition_logic.specs.declared.making.Side.{Side}
use Rattle.condition_logic.specs.declared.making.Side.TheVariants as side

-- the expression of a type pick
abbrev pub IsOfPick : Pick → Expr → Type 0
IsOfPick pick made = made ≡ (if pick.below then expr.IsOf pick.ty else expr.OnlyOf pick.ty)

-- the expression of a test
abbrev pub IsOfTest : CondOn → Test → Expr → Type 0
IsOfTest on (test.IsNull true) made = made ≡ expr.IsNull on
IsOfTest on (test.IsNull false) made = (part : Box Expr Global) × (made ≡ expr.Not part) × (part.value ≡ expr.IsNull on)
IsOfTest on (test.Equals constant) made = made ≡ expr.Equals on constant

-- the condition is on a property, or on a column
abbrev pub IsOnSide : Side → CondOn → Type 0
IsOnSide side.Props (on.Prop prop) = ⊤
IsOnSide side.Cols (on.Col col) = ⊤
IsOnSide side on = ⊥

-- the expression of a condition on that side
abbrev pub IsOfCond : Side → Cond → Expr → Type 0
IsOfCond side cond made = IsOnSide side cond.on × IsOfTest cond.on cond.test made

-- the expression that a column isn't null
abbrev pub IsOfColumn : ColId → Expr → Type 0
IsOfColumn col made = IsOfTest (on.Col col) (test.IsNull false) made

-- the expressions of some items: each is of one of them, and each that isn't left out has one
pub record AreOf {X : Type 0} (IsOf : X → Expr → Type 0) (IsLeft : X → Type 0) (items : List X) (exprs : List Expr) : Type 0 where
  pub only : (made : Expr) → Contains exprs made → (item : X) × Contains items item × IsOf item made
  pub each : (item : X) → Contains items item → IsLeft item ⊎ ((made : Expr) × Contains exprs made × IsOf item made)
