-- Items of a list that are like one before them.
use Rattle.std.specs.Prelude.{◌≡◌, ℕ, ◌<◌, ◌≤◌, List, [], ◌∷◌, AllPairs, Option, Some, None}
use Rattle.emc_base.specs.Lists.{At}
use Rattle.round_trip.specs.Types.{Place}
use Rattle.entity_state.specs.declared.breach_order.found.Found.{Found}

-- the item at a place is like one before it
pub record IsRepeat {X : Type 0} (Like : X → X → Type 0) (items : List X) (place : ℕ) : Type 0 where
  pub earlier : ℕ
  pub before : earlier < place
  pub item : X
  pub other : X
  pub here : At items place item
  pub there : At items earlier other
  pub like : Like other item

-- no two are alike, or this is the first place whose item is like one before it
abbrev pub IsFirstRepeat : {X : Type 0} → (X → X → Type 0) → List X → Option ℕ → Type 0
IsFirstRepeat Like items None = AllPairs (λ one other. ¬ Like one other) items
IsFirstRepeat Like items (Some place) = IsRepeat Like items place × ((other : ℕ) → IsRepeat Like items other → place ≤ other)

-- a breach of a rule that forbids repeats, at an item of the list of this number: the item equals one before it, and its place is told
pub record IsFoundRepeat {X : Type 0} (rule number : ℕ) (place_of : X → Place) (items : List X) (found : Found) : Type 0 where
  pub i : ℕ
  pub repeat : IsRepeat (λ one other. one ≡ other) items i
  pub found_is : found ≡ record { rule = rule; spot = number ∷ i ∷ []; place = place_of repeat.item }
