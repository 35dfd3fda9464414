-- Who the manager of an Employee is.
use Rattle.std.specs.Prelude.{◌≡◌, ◌<◌, ◌≤◌, ℕ, Option, Some, None, true, false}
use Rattle.drill_documents.specs.Draws.{draw}
use Rattle.drill_documents.specs.Objects.{is_employee}

-- nobody behind the first of these Ids up to the second is an Employee
abbrev pub NoEmployeeBetween : ℕ → ℕ → ℕ → Type 0
NoEmployeeBetween seed low high = (k : ℕ) → low < k → k ≤ high → is_employee (draw seed k) ≡ false

-- the Employee of the largest Id up to this one
pub record IsNearest (seed i manager : ℕ) : Type 0 where
  pub positive : 0 < manager
  pub within : manager ≤ i
  pub employed : is_employee (draw seed manager) ≡ true
  pub behind : NoEmployeeBetween seed manager i

-- it is that one, or there is none
abbrev pub IsNearestIfAny : ℕ → ℕ → Option ℕ → Type 0
IsNearestIfAny seed i (Some manager) = IsNearest seed i manager
IsNearestIfAny seed i None = NoEmployeeBetween seed 0 i
