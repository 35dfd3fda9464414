-- What stands in a state, as changes ask for it.
-- Source: this project's.
use Rattle.std.specs.Prelude.{◌≡◌, ◌≢◌, ◌↔◌, ◌++◌, ◌||◌, ℕ, List, [], slice_get, unwrap_or, length, Contains, Option, None, Some, IsTrue, true, false, cond, if◌then◌else◌}
use Rattle.std.specs.BTreeMap.{BTreeMap, get}
use Rattle.std.specs.BTreeSet.{BTreeSet, contains}
use Rattle.round_trip.specs.Words.{SetId, AssocId, Value, EntityModel, Entity, Link, State, entities_in, links_in}
use Rattle.entity_changes.specs.declared.making.standing.Standing.{Standing}
use Rattle.entity_changes.specs.declared.change.Change.{Change}
use Rattle.entity_changes.specs.declared.change.Reason.{Reason}
use Rattle.entity_changes.specs.declared.change.Reason.TheVariants as reason
use Rattle.entity_changes.specs.Changes.{after_one}
use Rattle.entity_changes.specs.making.Places.{HasPlace}
use Rattle.entity_changes.specs.Refusals.{AreAccepted, IsRefusal, IsRefused}
use Rattle.entity_changes.specs.Spots.{Spot, key_spot, link_spot, same_spot, spot_cmp}
use Rattle.entity_changes.specs.making.Types.{AreTypes}
use Rattle.entity_changes.specs.declared.making.types.Types.{Types}
use Rattle.std.specs.List.{list_any}

-- the types of the entities of each key are known, and which links there are
pub record TellsStanding (model : EntityModel) (state : State) (standing : Standing) : Type 0 where
  pub entities : (s : SetId) (key : List Value) → AreTypes model (entities_in state s) key (get spot_cmp standing.entities (key_spot s key))
  pub links : (a : AssocId) (link : Link) → IsTrue (contains spot_cmp standing.links (link_spot a link)) ↔ Contains (links_in state a) link

-- of the entities of some sets the types are known, and of some association sets the links
abbrev pub TellsTypes : EntityModel → List (List Entity) → BTreeMap Spot Types → Type 0
TellsTypes model lists types = (s : SetId) (key : List Value) → AreTypes model (unwrap_or (slice_get lists s.index) []) key (get spot_cmp types (key_spot s key))

abbrev pub TellsLinks : List (List Link) → BTreeSet Spot → Type 0
TellsLinks lists links = (a : AssocId) (link : Link) → IsTrue (contains spot_cmp links (link_spot a link)) ↔ Contains (unwrap_or (slice_get lists a.index) []) link

-- the change is of one of the state's lists
abbrev pub HasList : State → Change → Type 0
HasList state one = HasPlace (length state.entities) (length state.links) one

-- a change is made and nothing refuses it, or the reason to refuse it is told
abbrev pub IsTaken : EntityModel → State → Change → Standing → Option Reason → Type 0
IsTaken model state one new None = ((why : Reason) → ¬ IsRefused model state one why) × TellsStanding model (after_one model state one) new
IsTaken model state one new (Some why) = IsRefused model state one why

abbrev pub Takes : EntityModel → Change → Standing → Standing → Option Reason → Type 0
Takes model one old new found = (state : State) → HasList state one → TellsStanding model state old → IsTaken model state one new found

-- a link comes, unless it is there; and it goes, unless it isn't
abbrev pub AddsLink : Spot → BTreeSet Spot → BTreeSet Spot → Option Reason → Type 0
AddsLink spot old new found = (found ≡ (if contains spot_cmp old spot then Some reason.LinkExists else None))
    × ((q : Spot) → contains spot_cmp new q ≡ cond (same_spot spot q) true (contains spot_cmp old q))

abbrev pub TakesLink : Spot → BTreeSet Spot → BTreeSet Spot → Option Reason → Type 0
TakesLink spot old new found = (found ≡ (if contains spot_cmp old spot then None else Some reason.LinkAbsent))
    × ((q : Spot) → contains spot_cmp new q ≡ cond (same_spot spot q) false (contains spot_cmp old q))

-- those of the entities of a set are added to what is known of some that stand before them there; what is known of other sets stays
pub record AddsTypes (model : EntityModel) (s : SetId) (entities : List Entity) (old new : BTreeMap Spot Types) : Type 0 where
  pub own : (before : List Entity) → ((key : List Value) → AreTypes model before key (get spot_cmp old (key_spot s key)))
      → (key : List Value) → AreTypes model (before ++ entities) key (get spot_cmp new (key_spot s key))
  pub others : (q : Spot) → s.index ≢ q.0 → get spot_cmp new q ≡ get spot_cmp old q

-- the links of an association set are added
abbrev pub AddsLinks : AssocId → List Link → BTreeSet Spot → BTreeSet Spot → Type 0
AddsLinks a links old new = (q : Spot) → contains spot_cmp new q ≡ (contains spot_cmp old q || list_any (λ link. same_spot (link_spot a link) q) links)

-- the first change that is refused, by its place, if there is one
abbrev pub IsFirstRefused : EntityModel → State → List Change → Option (ℕ × Reason) → Type 0
IsFirstRefused model state changes None = AreAccepted model state changes
IsFirstRefused model state changes (Some (index, why)) = IsRefusal model state changes index why
