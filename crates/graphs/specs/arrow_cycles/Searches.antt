-- A search along arrows: what is known of each place, the path with its groups, and the arrows that are still to be followed.
-- Source: the path-based way to strongly connected components (Purdom 1970, Munro 1971, Gabow 2000).
use Rattle.std.specs.Prelude.{◌≡◌, ℕ, ◌+◌, ◌-◌, ◌<◌, ◌≤◌, List, [], ◌∷◌, length, Contains, ◌⊎◌}
use Rattle.emc_base.specs.Lists.{At}
use Rattle.graphs.specs.arrow_cycles.Ends.{GoesTo}
use Rattle.graphs.specs.arrow_cycles.Numbers.{Reaches}
use Rattle.graphs.specs.declared.arrow_cycles.search.Group.{Group}
use Rattle.graphs.specs.declared.arrow_cycles.search.Mark.{Mark}
use Rattle.graphs.specs.declared.arrow_cycles.search.Mark.TheVariants.{New, OnPath, Closed}
use Rattle.graphs.specs.declared.arrow_cycles.search.Search.{Search}

-- no group begins between two positions of the path, the second before the first
abbrev pub IsTogether : List Group → ℕ → ℕ → Type 0
IsTogether groups p q = (i : ℕ) (group : Group) → At groups i group → group.path ≤ p → group.path ≤ q

-- a position of the path and a place of the pending ends belong to one group
abbrev pub IsBeside : List Group → ℕ → ℕ → Type 0
IsBeside groups p j = (i : ℕ) (group : Group) → At groups i group → (group.path ≤ p → group.pending ≤ j) × (group.pending ≤ j → group.path ≤ p)

-- the last group
abbrev pub IsTop : List Group → Group → Type 0
IsTop groups group = At groups (length groups - 1) group

-- the end of an arrow from a position of the path is pending there, or complete, or on the path and not before its group
pub data IsHeeded (marks : List Mark) (groups : List Group) (pending : List ℕ) (p to : ℕ) : Type 0 where
  later : (j : ℕ) → At pending j to → IsBeside groups p j → IsHeeded marks groups pending p to
  complete : (n : ℕ) → At marks to (Closed n) → IsHeeded marks groups pending p to
  onward : (q : ℕ) → At marks to (OnPath q) → IsTogether groups p q → IsHeeded marks groups pending p to

-- what is so at each step of a search, where so many components are complete
pub record IsSearch (Is : ℕ → ℕ → Type 0) (marks : List Mark) (path : List ℕ) (groups : List Group) (pending : List ℕ) (number : ℕ) : Type 0 where
  pub marked : (p v : ℕ) → At path p v → At marks v (OnPath p)
  pub stands : (p v : ℕ) → At marks v (OnPath p) → At path p v
  pub ordered : (i j : ℕ) (one other : Group) → At groups i one → At groups j other → i ≤ j → (one.path ≤ other.path) × (one.pending ≤ other.pending)
  pub within : (i : ℕ) (group : Group) → At groups i group → (group.path ≤ length path) × (group.pending ≤ length pending)
  pub grouped : (p v : ℕ) → At path p v → (i : ℕ) × (group : Group) × At groups i group × (group.path ≤ p)
  pub leads : (p q v w : ℕ) → At path p v → At path q w → IsTogether groups p q → Reaches Is v w
  pub source : (j to : ℕ) → At pending j to → (p : ℕ) × (v : ℕ) × At path p v × Is v to × IsBeside groups p j
  pub heeded : (p v to : ℕ) → At path p v → Is v to → IsHeeded marks groups pending p to
  pub lower : (v n to : ℕ) → At marks v (Closed n) → Is v to → (m : ℕ) × At marks to (Closed m) × (m ≤ n)
  pub joined : (v w n : ℕ) → At marks v (Closed n) → At marks w (Closed n) → Reaches Is v w
  pub numbered : (v n : ℕ) → At marks v (Closed n) → n < number

-- a search along the arrows that have these ends
abbrev pub Searches : List (List ℕ) → Search → Type 0
Searches ends search = (length search.marks.items ≡ length ends)
    × IsSearch (GoesTo ends) search.marks.items search.path.items search.groups.items search.pending.items (length search.components.items)

-- how many steps are left for places that are new: two for each, and one for each of its arrows
abbrev pub left_marks : List (List ℕ) → List Mark → ℕ
left_marks [] marks = 0
left_marks (listed ∷ ends) [] = 0
left_marks (listed ∷ ends) (New ∷ marks) = length listed + 2 + left_marks ends marks
left_marks (listed ∷ ends) (OnPath _ ∷ marks) = left_marks ends marks
left_marks (listed ∷ ends) (Closed _ ∷ marks) = left_marks ends marks

-- how many steps of a search are left at most: one more for each group, and for each pending end
abbrev pub left_of : List (List ℕ) → Search → ℕ
left_of ends search = left_marks ends search.marks.items + length search.groups.items + length search.pending.items

-- a search that went on: no place became new
pub record IsLater (ends : List (List ℕ)) (before after : Search) : Type 0 where
  pub search : Searches ends after
  pub fresh : (v : ℕ) → At after.marks.items v New → At before.marks.items v New

-- one step of a search, so that fewer are left
abbrev pub IsStep : List (List ℕ) → Search → Search → Type 0
IsStep ends before after = IsLater ends before after × (left_of ends after < left_of ends before)

-- a place is new, and each place of the path leads to it
pub record IsNext (ends : List (List ℕ)) (search : Search) (place : ℕ) : Type 0 where
  pub unseen : At search.marks.items place New
  pub reached : (p v : ℕ) → At search.path.items p v → Reaches (GoesTo ends) v place

-- the last of the pending ends belongs to this last group
pub record IsLast (search : Search) (group : Group) (to : ℕ) : Type 0 where
  pub top : IsTop search.groups.items group
  pub last : At search.pending.items (length search.pending.items - 1) to
  pub behind : group.pending < length search.pending.items

-- places are marked as parts of a complete component, and no others
pub record AreClosed (number : ℕ) (places : List ℕ) (before after : List Mark) : Type 0 where
  pub size : length after ≡ length before
  pub closed : (i v : ℕ) → At places i v → At after v (Closed number)
  pub kept : (v : ℕ) (mark : Mark) → At before v mark → ¬ Contains places v → At after v mark
  pub only : (v : ℕ) (mark : Mark) → At after v mark → At before v mark ⊎ ((mark ≡ Closed number) × Contains places v)
  pub fewer : (ends : List (List ℕ)) → left_marks ends after ≤ left_marks ends before
