-- What the last of some changes do to the items that stand before them.
-- Source: this project's.
use Rattle.std.specs.Prelude.{◌≡◌, ◌++◌, ◌∷◌, [], ℕ, List, Option, None, Some, cond, map, length, slice_get, unwrap_or, reverse, set, All}
use Rattle.std.specs.List.{cons_option, filter_map}
use Rattle.std.specs.BTreeMap.{get, IsEmpty}
use Rattle.round_trip.specs.Words.{EntityModel, SetId, AssocId, Entity, Link, State, entities_in, links_in, key_of}
use Rattle.entity_changes.specs.Changes.{after}
use Rattle.entity_changes.specs.Spots.{Spot, key_spot, link_spot, same_spot, spot_cmp}
use Rattle.entity_changes.specs.declared.change.Change.{Change}
use Rattle.entity_changes.specs.declared.making.foretold.Foretold.{Foretold}
use Rattle.entity_changes.specs.declared.making.fates.Fate.{Fate}
use Rattle.entity_changes.specs.declared.making.fates.Fate.TheVariants.{Replaced, Gone}
use Rattle.entity_changes.specs.declared.making.fates.Fates.{Fates}

module _ {X : Type 0} where
  -- what becomes of an item
  abbrev pub survivor : Option (Fate X) → X → Option X
  survivor None item = Some item
  survivor (Some (Replaced other)) item = Some other.now
  survivor (Some Gone) item = None

  -- what stands behind the items of each list afterwards, the last first
  abbrev pub behind_lists : Fates X → List (List X)
  behind_lists fates = map (λ list. map (λ item. item.now) list.items) fates.behind.items

  abbrev pub behind_at : Fates X → ℕ → List X
  behind_at fates place = unwrap_or (slice_get (behind_lists fates) place) []

  -- what becomes of items whose spots are these
  abbrev pub survivors : Fates X → (X → Spot) → List X → List X
  survivors fates spot_of items = filter_map (λ item. survivor (get spot_cmp fates.by_spot (spot_of item)) item) items

  -- what becomes of a list
  abbrev pub becomes : Fates X → (X → Spot) → ℕ → List X → List X
  becomes fates spot_of place items = survivors fates spot_of items ++ reverse (behind_at fates place)

  -- nothing is known of so many lists
  pub record IsFresh (count : ℕ) (fates : Fates X) : Type 0 where
    pub size : length fates.behind.items ≡ count
    pub none : All (λ list. list.items ≡ []) fates.behind.items
    pub empty : IsEmpty fates.by_spot

  -- the items of a spot go
  pub record RemovesItems (spot : Spot) (old new : Fates X) : Type 0 where
    pub behind : new.behind ≡ old.behind
    pub fates : (q : Spot) → get spot_cmp new.by_spot q ≡ cond (same_spot spot q) (Some Gone) (get spot_cmp old.by_spot q)

  -- they are replaced by an item, unless more becomes of them later
  pub record ReplacesItems (spot : Spot) (item : X) (old new : Fates X) : Type 0 where
    pub behind : new.behind ≡ old.behind
    pub fates : (q : Spot) (one : X) → survivor (get spot_cmp new.by_spot q) one ≡ survivor (get spot_cmp old.by_spot q) (cond (same_spot spot q) item one)

  -- an item comes behind those of a list
  pub record AddsItem (place : ℕ) (spot : Spot) (item : X) (old new : Fates X) : Type 0 where
    pub fates : new.by_spot ≡ old.by_spot
    pub lists : behind_lists new ≡ set (behind_lists old) place (behind_at old place ++ cons_option (survivor (get spot_cmp old.by_spot spot) item) [])

-- by their fates, what entities and links become by some changes
pub record Foretells (model : EntityModel) (changes : List Change) (told : Foretold) : Type 0 where
  pub entities : (state : State) → length state.entities ≡ length told.entities.behind.items → (s : SetId)
      → entities_in (after model state changes) s ≡ becomes told.entities (λ entity. key_spot s (key_of model entity)) s.index (entities_in state s)
  pub links : (state : State) → length state.links ≡ length told.links.behind.items → (a : AssocId)
      → links_in (after model state changes) a ≡ becomes told.links (link_spot a) a.index (links_in state a)

-- what becomes of the entities of a numbered set, and of the links of a numbered association set
abbrev pub entities_at : EntityModel → Fates Entity → ℕ × List Entity → List Entity
entities_at model fates entry = becomes fates (λ entity. key_spot (record { index = entry.0 }) (key_of model entity)) entry.0 entry.1

abbrev pub links_at : Fates Link → ℕ × List Link → List Link
links_at fates entry = becomes fates (link_spot (record { index = entry.0 })) entry.0 entry.1

-- as many lists are known as before
pub record HasSize (sets assocs : ℕ) (told : Foretold) : Type 0 where
  pub entities : length told.entities.behind.items ≡ sets
  pub links : length told.links.behind.items ≡ assocs

-- one change more is foretold, before the others
pub record ForetellsOneMore (model : EntityModel) (one : Change) (old new : Foretold) : Type 0 where
  pub size : HasSize (length old.entities.behind.items) (length old.links.behind.items) new
  pub told : (changes : List Change) → Foretells model changes old → Foretells model (one ∷ changes) new
