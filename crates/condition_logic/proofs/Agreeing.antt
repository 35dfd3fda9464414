-- An expression holds alike of two readings that say the same of all that it mentions.
use Rattle.std.proofs.Common.{◌↔◌, ⊎_elim, inl, inr, refl}
use Rattle.condition_logic.specs.Words.{TypeId, Value, CondOn}
use Rattle.condition_logic.specs.declared.expr.Expr.{Expr, All', Any', Not', IsOf, OnlyOf, IsNull, Equals, Row_of-Expr, end_of-Expr, more_of-Expr}
use Rattle.condition_logic.specs.Readings.{Reading}
use Rattle.condition_logic.specs.Holds.{Holds, EachHolds, SomeHolds}
use Rattle.condition_logic.specs.Mentions.{Mentions, SomeMentions, IsOn, IsComparison}

module _ (one two : Reading) (types : (t : TypeId) → one.is_of t ↔ two.is_of t) (only : (t : TypeId) → one.only_of t ↔ two.only_of t) where
  -- they say the same of nulls and of constants where this is so of the property or column, or of the comparison
  abbrev SameNulls : (CondOn → Type 0) → Type 0
  SameNulls IsAsked = (on : CondOn) → IsAsked on → one.is_null on ↔ two.is_null on

  abbrev SameEquals : (CondOn → Value → Type 0) → Type 0
  SameEquals IsAsked = (on : CondOn) (constant : Value) → IsAsked on constant → one.equals on constant ↔ two.equals on constant

  mutual
    pub holds_alike : (expr : Expr) → SameNulls (λ on. Mentions (IsOn on) expr) → SameEquals (λ on constant. Mentions (IsComparison on constant) expr)
        → Holds one expr ↔ Holds two expr
    holds_alike (All' _ parts) nulls equals = each_alike _ parts nulls equals
    holds_alike (Any' _ parts) nulls equals = some_alike _ parts nulls equals
    holds_alike (Not' _ part) nulls equals = let is = holds_alike part nulls equals in (λ not holds. not (is.1 holds), λ not holds. not (is.0 holds))
    holds_alike (IsOf t) nulls equals = types t
    holds_alike (OnlyOf t) nulls equals = only t
    holds_alike (IsNull on) nulls equals = nulls on refl
    holds_alike (Equals on constant) nulls equals = equals on constant (refl, refl)

    each_alike : (n : _) (row : Row_of-Expr n) → SameNulls (λ on. SomeMentions (IsOn on) row) → SameEquals (λ on constant. SomeMentions (IsComparison on constant) row)
        → EachHolds one row ↔ EachHolds two row
    each_alike n end_of-Expr nulls equals = (λ h. h, λ h. h)
    each_alike n (more_of-Expr part rest) nulls equals =
        let here = holds_alike part (λ on named. nulls on (inl named)) (λ on constant compared. equals on constant (inl compared)) in
        let later = each_alike _ rest (λ on named. nulls on (inr named)) (λ on constant compared. equals on constant (inr compared)) in
        (λ each. (here.0 each.0, later.0 each.1), λ each. (here.1 each.0, later.1 each.1))

    some_alike : (n : _) (row : Row_of-Expr n) → SameNulls (λ on. SomeMentions (IsOn on) row) → SameEquals (λ on constant. SomeMentions (IsComparison on constant) row)
        → SomeHolds one row ↔ SomeHolds two row
    some_alike n end_of-Expr nulls equals = (λ h. h, λ h. h)
    some_alike n (more_of-Expr part rest) nulls equals =
        let here = holds_alike part (λ on named. nulls on (inl named)) (λ on constant compared. equals on constant (inl compared)) in
        let later = some_alike _ rest (λ on named. nulls on (inr named)) (λ on constant compared. equals on constant (inr compared)) in (
          λ some. ⊎_elim (λ (h : Holds one part). inl (here.0 h)) (λ (h : SomeHolds one rest). inr (later.0 h)) some,
          λ some. ⊎_elim (λ (h : Holds two part). inl (here.1 h)) (λ (h : SomeHolds two rest). inr (later.1 h)) some,
        )

-- a comparison names what it compares
mutual
  pub compares_named : (on : CondOn) (constant : Value) (expr : Expr) → Mentions (IsComparison on constant) expr → Mentions (IsOn on) expr
  compares_named on constant (All' _ parts) compares = some_compares_named on constant _ parts compares
  compares_named on constant (Any' _ parts) compares = some_compares_named on constant _ parts compares
  compares_named on constant (Not' _ part) compares = compares_named on constant part compares
  compares_named on constant (IsOf t) compares = absurd compares
  compares_named on constant (OnlyOf t) compares = absurd compares
  compares_named on constant (IsNull other) compares = absurd compares
  compares_named on constant (Equals other value) compares = compares.0

  some_compares_named : (on : CondOn) (constant : Value) (n : _) (row : Row_of-Expr n) → SomeMentions (IsComparison on constant) row → SomeMentions (IsOn on) row
  some_compares_named on constant n end_of-Expr compares = compares
  some_compares_named on constant n (more_of-Expr part rest) compares =
      ⊎_elim (λ (here : Mentions (IsComparison on constant) part). inl (compares_named on constant part here))
      (λ (later : SomeMentions (IsComparison on constant) rest). inr (some_compares_named on constant _ rest later)) compares
