-- Items that are gathered, each once.
-- Source: this project's.
use Rattle.std.specs.Prelude.{◌≡◌, ◌↔◌, ◌⊎◌, ◌++◌, ◌∷◌, [], List, Contains, IsTrue, true, cond, if◌then◌else◌}
use Rattle.std.specs.BTreeSet.{contains}
use Rattle.emc_base.specs.Lists.{AreApart}
use Rattle.round_trip.specs.Words.{SetId, AssocId, Value, EntityModel, Link}
use Rattle.cells.specs.declared.cells.Cells.{Cells}
use Rattle.entity_changes.specs.declared.change.Change.{Change}
use Rattle.entity_changes.specs.declared.touched.gathered.Gathered.{Gathered}
use Rattle.entity_changes.specs.declared.touched.seen.Seen.{Seen}
use Rattle.entity_changes.specs.Spots.{Spot, key_spot, link_spot, same_spot, spot_cmp}
use Rattle.entity_changes.specs.Touching.{Hosts, IsJoined, TouchesEntity, TouchesLink}

module _ {X : Type 0} where
  -- an item comes behind the others, unless its spot is there
  pub record AddsOnce (spot : Spot) (item : X) (old new : Seen X) : Type 0 where
    pub added : new.items ≡ (if contains spot_cmp old.spots spot then old.items else old.items ++ item ∷ [])
    pub noted : (q : Spot) → contains spot_cmp new.spots q ≡ cond (same_spot spot q) true (contains spot_cmp old.spots q)

  -- the items are apart, and their spots are noted
  pub record AreSeen (spot_of : X → Spot) (seen : Seen X) : Type 0 where
    pub noted : (item : X) → IsTrue (contains spot_cmp seen.spots (spot_of item)) ↔ Contains seen.items item
    pub once : AreApart seen.items

-- the spots of what is touched
abbrev pub entity_at : SetId × List Value → Spot
entity_at one = key_spot one.0 one.1

abbrev pub link_at : AssocId × Link → Spot
link_at one = link_spot one.0 one.1

-- what is gathered is apart
pub record AreGathered (gathered : Gathered) : Type 0 where
  pub entities : AreSeen entity_at gathered.entities
  pub links : AreSeen link_at gathered.links

-- some entities and links more are gathered
pub record GathersThese (entities : SetId × List Value → Type 0) (links : AssocId × Link → Type 0) (old new : Gathered) : Type 0 where
  pub seen : AreGathered new
  pub more_entities : (item : SetId × List Value) → Contains new.entities.items item ↔ (Contains old.entities.items item ⊎ entities item)
  pub more_links : (item : AssocId × Link) → Contains new.links.items item ↔ (Contains old.links.items item ⊎ links item)

-- those that a change touches
abbrev pub GathersMore : EntityModel → Cells → Change → Gathered → Gathered → Type 0
GathersMore model cells one old new = GathersThese (TouchesEntity model cells one) (TouchesLink model cells one) old new

-- those that a change of a link touches
abbrev pub GathersLink : EntityModel → Cells → AssocId → Link → Gathered → Gathered → Type 0
GathersLink model cells a link old new = GathersThese (λ one. Hosts model cells a link one.0 one.1) (λ one. ((a, link) ≡ one) × IsJoined cells a) old new
