-- What is touched, as it is looked up.
-- Source: this project's.
use Rattle.std.specs.Prelude.{◌≡◌, ◌==◌, List, Bool, false, if◌then◌else◌}
use Rattle.std.specs.BTreeSet.{BTreeSet, contains}
use Rattle.std.specs.List.{list_any}
use Rattle.std.specs.declared.cmp.Ordering.{Ordering}
use Rattle.round_trip.specs.Words.{SetId, AssocId, Value, Link}
use Rattle.schema_laws.specs.state_demand.Selecting.{same_key}
use Rattle.entity_changes.specs.Changes.{same_link}
use Rattle.entity_changes.specs.declared.touched.Touched.{Touched}
use Rattle.delta_plan.specs.declared.marks.KeySpot.{KeySpot}
use Rattle.delta_plan.specs.declared.marks.LinkSpot.{LinkSpot}
use Rattle.delta_plan.specs.declared.marks.Marks.{Marks}
use Rattle.delta_plan.specs.contracts.marks.KeySpotOrd.TheImpl as key_ord
use Rattle.delta_plan.specs.contracts.marks.LinkSpotOrd.TheImpl as link_ord
use Rattle.delta_plan.specs.Units.{is_touched_key, is_touched_link}

-- the orders in which they are looked up
abbrev pub key_cmp : KeySpot → KeySpot → Ordering
key_cmp = (key_ord.ghosts).cmp

abbrev pub link_cmp : LinkSpot → LinkSpot → Ordering
link_cmp = (link_ord.ghosts).cmp

-- whether some keys hold one, and some links
abbrev pub has_key : BTreeSet KeySpot → SetId → List Value → Bool
has_key spots s key = contains key_cmp spots (record { set = s.index; key = key })

abbrev pub has_link : BTreeSet LinkSpot → AssocId → Link → Bool
has_link spots a link = contains link_cmp spots (record { assoc = a.index; first = link.first; second = link.second })

-- they hold those that are listed
abbrev pub HoldsKeys : List (SetId × List Value) → BTreeSet KeySpot → Type 0
HoldsKeys listed spots = (s : SetId) (key : List Value) → has_key spots s key ≡ list_any (λ one. if one.0.index == s.index then same_key one.1 key else false) listed

abbrev pub HoldsLinks : List (AssocId × Link) → BTreeSet LinkSpot → Type 0
HoldsLinks listed spots = (a : AssocId) (link : Link) → has_link spots a link ≡ list_any (λ one. if one.0.index == a.index then same_link one.1 link else false) listed

-- whether a key or a link is marked
abbrev pub holds_key : Marks → SetId → List Value → Bool
holds_key marks s key = has_key marks.keys s key

abbrev pub holds_link : Marks → AssocId → Link → Bool
holds_link marks a link = has_link marks.links a link

-- just what is touched is marked
pub record AreMarks (touched : Touched) (marks : Marks) : Type 0 where
  pub keys : (s : SetId) (key : List Value) → holds_key marks s key ≡ is_touched_key touched s key
  pub links : (a : AssocId) (link : Link) → holds_link marks a link ≡ is_touched_link touched a link
