-- A walk along what is waited for: what is so at each step.
-- Source: depth-first search.
use Rattle.std.specs.Prelude.{◌≡◌, ◌<◌, ◌≤◌, ◌+◌, ◌-◌, ℕ, suc, List, [], ◌∷◌, drop, length, Contains, Option, None, Some}
use Rattle.emc_base.specs.Lists.{AreApart, At}
use Rattle.arrow_orders.specs.Orders.{IsRing, Waits}
use Rattle.arrow_orders.specs.declared.walk.Mark.{Mark}
use Rattle.arrow_orders.specs.declared.walk.Mark.TheVariants.{New, Open, Done}
use Rattle.arrow_orders.specs.declared.walk.Walk.{Walk}

-- how many steps a place is good for: it may come on the path, take each of those that it waits for, and leave the path
abbrev pub weight : List ℕ → Mark → ℕ → ℕ
weight listed New taken = length listed + 2
weight listed (Open position) taken = (length listed - taken) + 1
weight listed Done taken = 0

abbrev pub left : List (List ℕ) → List Mark → List ℕ → ℕ
left (listed ∷ ends) (mark ∷ marks) (taken ∷ rest) = weight listed mark taken + left ends marks rest
left ends marks rest = 0

abbrev pub left_of : List (List ℕ) → Walk → ℕ
left_of ends walk = left ends walk.marks.items walk.taken.items

-- of marks, counts, a path and a line
pub record AreWalked (ends : List (List ℕ)) (marks : List Mark) (taken path line : List ℕ) : Type 0 where
  pub marks_size : length marks ≡ length ends
  pub counts_size : length taken ≡ length ends
  -- what is taken stands in the line
  pub heeded : (v k i w : ℕ) (listed : List ℕ) → At taken v k → At ends v listed → At listed i w → i < k → At marks w Done
  -- what is on the path is marked so, and the other way round
  pub placed : (i v : ℕ) → At path i v → At marks v (Open i)
  pub stands : (i v : ℕ) → At marks v (Open i) → At path i v
  -- each place of the path waits for the next
  pub linked : (i v w : ℕ) → At path i v → At path (suc i) w → Waits ends v w
  -- what is in the line is marked so, and the other way round
  pub listed : (v : ℕ) → At marks v Done → Contains line v
  pub done : (v : ℕ) → Contains line v → At marks v Done
  pub behind : (i v w : ℕ) → At line i v → Waits ends v w → (j : ℕ) × At line j w × (j < i)
  pub once : AreApart line

abbrev pub IsWalk : List (List ℕ) → Walk → Type 0
IsWalk ends walk = AreWalked ends walk.marks.items walk.taken.items walk.path.items walk.line.items

-- the last place of the path
pub record IsTop (walk : Walk) (top : ℕ) : Type 0 where
  pub position : ℕ
  pub at : At walk.path.items position top
  pub last : length walk.path.items ≡ suc position

-- a place that isn't seen yet, and for which the last of the path waits, if there is one
pub record IsNext (ends : List (List ℕ)) (walk : Walk) (place : ℕ) : Type 0 where
  pub unseen : At walk.marks.items place New
  pub reached : (position v : ℕ) → At walk.path.items position v → length walk.path.items ≡ suc position → Waits ends v place

-- the next of those that the place waits for, and how many are taken with it
pub record IsNextEnd (ends : List (List ℕ)) (walk : Walk) (top end more : ℕ) : Type 0 where
  pub listed : List ℕ
  pub told : At ends top listed
  pub count : ℕ
  pub taken : At walk.taken.items top count
  pub next : At listed count end
  pub more_is : more ≡ suc count

-- all of them are taken
pub record AreAllTaken (ends : List (List ℕ)) (walk : Walk) (top : ℕ) : Type 0 where
  pub listed : List ℕ
  pub told : At ends top listed
  pub count : ℕ
  pub taken : At walk.taken.items top count
  pub all : length listed ≤ count

-- the walk went on
pub record IsLater (ends : List (List ℕ)) (old now : Walk) : Type 0 where
  pub walk : IsWalk ends now
  pub fresh : (v : ℕ) → At now.marks.items v New → At old.marks.items v New

pub record IsStep (ends : List (List ℕ)) (old now : Walk) : Type 0 where
  pub later : IsLater ends old now
  pub fewer : left_of ends now < left_of ends old

pub record IsOpened (ends : List (List ℕ)) (place : ℕ) (old now : Walk) : Type 0 where
  pub step : IsStep ends old now
  pub seen : ¬ At now.marks.items place New

-- a ring begins at the position of the path
pub record IsMet (ends : List (List ℕ)) (walk : Walk) (position : ℕ) : Type 0 where
  pub within : position ≤ length walk.path.items
  pub ring : IsRing ends (drop position walk.path.items)

abbrev pub Steps : List (List ℕ) → Walk → Walk → Option ℕ → Type 0
Steps ends old now None = IsStep ends old now
Steps ends old now (Some position) = IsMet ends now position

abbrev pub Finishes : List (List ℕ) → Walk → Walk → Option ℕ → Type 0
Finishes ends old now None = IsLater ends old now × (now.path.items ≡ [])
Finishes ends old now (Some position) = IsMet ends now position

abbrev pub Visits : List (List ℕ) → ℕ → Walk → Walk → Option ℕ → Type 0
Visits ends place old now None = IsLater ends old now × (now.path.items ≡ []) × (¬ At now.marks.items place New)
Visits ends place old now (Some position) = IsMet ends now position
