-- Arrows from alterations to those that they wait for.
-- Source: SSDL version 3, ReferentialConstraint; foreign keys that are checked at each statement.
use Rattle.std.specs.Prelude.{◌≡◌, ◌≢◌, ◌⊎◌, ◌↔◌, ◌++◌, ℕ, List, [], ◌∷◌, length, Bool, true, false, Contains, get_or, set, if◌then◌else◌}
use Rattle.std.specs.List.{flat_map}
use Rattle.std.specs.Prelude.{nat_eq}
use Rattle.emc_base.specs.Lists.{At}
use Rattle.round_trip.specs.Words.{ForeignKey}
use Rattle.arrow_orders.specs.Orders.{Waits}
use Rattle.keyed_rows.specs.declared.row_groups.groups.KeyGroup.{KeyGroup}
use Rattle.row_orders.specs.declared.alteration.Alteration.{Alteration}
use Rattle.row_orders.specs.Waiting.{WaitsFor, WaitsToGo, WaitsToRefer}
pub use Rattle.row_plans.specs.Lengths.{AreAsLong, HasLongRows, IsAsLong}
use Rattle.row_plans.specs.declared.waiting.arrows.Arrow.{Arrow}
use Rattle.row_plans.specs.declared.waiting.parts.Part.{Part}
use Rattle.row_plans.specs.declared.waiting.parts.Role.{Role}
use Rattle.row_plans.specs.declared.waiting.parts.Role.TheVariants.{Comes, Refers, Goes, Referred}

-- one alteration waits for another by a foreign key
pub record WaitsBy (key : ForeignKey) (alterations : List Alteration) (i j : ℕ) : Type 0 where
  pub apart : i ≢ j
  pub one : Alteration
  pub at_one : At alterations i one
  pub other : Alteration
  pub at_other : At alterations j other
  pub by_key : WaitsToRefer key one other ⊎ WaitsToGo key one other

abbrev pub HasArrow : List Arrow → ℕ → ℕ → Type 0
HasArrow arrows i j = Contains arrows (record { from = i; to = j })

-- the arrows by a key are added
abbrev pub AddsArrows : ForeignKey → List Alteration → List Arrow → List Arrow → Type 0
AddsArrows key alterations before after = (i j : ℕ) → HasArrow after i j ↔ (HasArrow before i j ⊎ WaitsBy key alterations i j)

-- the arrows are just those by these keys
abbrev pub AreArrowsBy : List ForeignKey → List Alteration → List Arrow → Type 0
AreArrowsBy keys alterations arrows = (i j : ℕ) → HasArrow arrows i j ↔ WaitsFor keys alterations i j

-- the role of a row that is referred to
abbrev pub is_target : Role → Bool
is_target Comes = true
is_target Refers = false
is_target Goes = true
is_target Referred = false

-- what refers waits for what comes, and what goes for what referred
abbrev pub arrows_by : Role → Role → ℕ → ℕ → List Arrow
arrows_by Comes Refers target place = record { from = place; to = target } ∷ []
arrows_by Goes Referred target place = record { from = target; to = place } ∷ []
arrows_by Comes Comes target place = []
arrows_by Comes Goes target place = []
arrows_by Comes Referred target place = []
arrows_by Goes Comes target place = []
arrows_by Goes Goes target place = []
arrows_by Goes Refers target place = []
arrows_by Refers other target place = []
arrows_by Referred other target place = []

-- the arrow between a part that is referred to and another, if there is one
abbrev pub arrows_between : Part → Part → List Arrow
arrows_between target other = if nat_eq target.place other.place then [] else arrows_by target.role other.role target.place other.place

-- those between a part and all of its group
abbrev pub arrows_from : List Part → Part → List Arrow
arrows_from parts part = if is_target part.role then flat_map (arrows_between part) parts else []

-- those in a group
abbrev pub arrows_in : List Part → List Arrow
arrows_in parts = flat_map (arrows_from parts) parts

-- those in some groups
abbrev pub arrows_in_groups : List (KeyGroup Part) → List Arrow
arrows_in_groups groups = flat_map (λ group. arrows_in group.items.items) groups

-- for each of so many places the ends of the arrows that begin there
pub record AreEnds (count : ℕ) (arrows : List Arrow) (ends : List (List ℕ)) : Type 0 where
  pub size : length ends ≡ count
  pub only : (i j : ℕ) → Waits ends i j → HasArrow arrows i j
  pub each : (i j : ℕ) → HasArrow arrows i j → Waits ends i j

-- ends with that of one more arrow
abbrev pub with_arrow : List (List ℕ) → Arrow → List (List ℕ)
with_arrow ends arrow = set ends arrow.from (get_or ends arrow.from [] ++ arrow.to ∷ [])
