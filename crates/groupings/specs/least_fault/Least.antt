-- The least of what may be found, by a total order.
use Rattle.std.specs.Prelude.{◌≡◌, ◌≢◌, ℕ, List, Option, Some, None, Result, Ok}
use Rattle.std.specs.declared.cmp.Ordering.{Ordering}
use Rattle.std.specs.declared.cmp.Ordering.TheVariants.{Greater}
use Rattle.std.specs.Ordering.{ord_min}
use Rattle.emc_base.specs.Lists.{At}

module _ {F : Type 0} (cmp : F → F → Ordering) where
  -- P holds of nothing, or it holds of this and of nothing that comes before it
  abbrev pub IsLeast : (F → Type 0) → Option F → Type 0
  IsLeast P None = (fault : F) → ¬ P fault
  IsLeast P (Some found) = P found × ((fault : F) → P fault → cmp found fault ≢ Greater)

  -- the lesser of two, as far as there are any
  abbrev pub earlier : Option F → Option F → Option F
  earlier None other = other
  earlier (Some one) None = Some one
  earlier (Some one) (Some other) = Some (ord_min cmp one other)

-- the lesser of what two searches found, both of which had memory
pub record IsEarlierOf {F E : Type 0} (cmp : F → F → Ordering) (one other : Result (Option F) E) (found : Option F) : Type 0 where
  pub first : Option F
  pub second : Option F
  pub is_first : one ≡ Ok first
  pub is_second : other ≡ Ok second
  pub is : found ≡ earlier cmp first second

-- what P says of some item at its place
pub record Among {X F : Type 0} (P : ℕ → X → F → Type 0) (items : List X) (fault : F) : Type 0 where
  pub i : ℕ
  pub item : X
  pub here : At items i item
  pub holds : P i item fault
