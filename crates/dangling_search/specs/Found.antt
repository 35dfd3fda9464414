-- What the search for dangling keys finds: to what a key points, and whether it dangles at a focus.
-- Source: this project's; SSDL version 3, Association and ReferentialConstraint.
use Rattle.std.specs.Prelude.{◌≡◌, ◌||◌, List, [], ◌∷◌, filter, Bool, not, Option, None, Some, if◌then◌else◌}
use Rattle.std.specs.List.{list_all}
use Rattle.round_trip.specs.Words.{ColId, ForeignKey, Pair, PropId, Schema, SetId, TableId, TypeId}
use Rattle.round_trip.specs.soundness.mappings.Owners.{IsOwner, set}
use Rattle.regions.specs.Basis.{Basis}
use Rattle.regions.specs.Patterns.{pattern_of}
use Rattle.regions.specs.Regions.{regions_of}
use Rattle.regions.specs.declared.pattern.Focus.{Focus}
use Rattle.regions.specs.declared.pattern.Focus.TheVariants as focus
use Rattle.regions.specs.declared.region.Region.{Region}
use Rattle.region_states.specs.conflicts.Facts.{has_row}
use Rattle.forced_entities.specs.Forced.{own_member}
use Rattle.forced_entities.specs.declared.member.Forced.{Forced}
use Rattle.dangling_keys.specs.Dangling.{DanglesAt, IsOwn, OwnsTable}
use Rattle.dangling_keys.specs.Showing.{Fits, fits}
use Rattle.dangling_search.specs.declared.target.Owned.{Owned}
use Rattle.dangling_search.specs.declared.target.Target.{Target}

-- the set owns the table: one of its fragments, or a fragment of links that are hosted at the set, writes it
abbrev pub IsOwnedBy : Schema → TableId → SetId → Type 0
IsOwnedBy schema t s = IsOwner schema t (set s)

-- each column with the property that stands beside it
abbrev pub pairs_by : List ColId → List PropId → List Pair
pairs_by [] props = []
pairs_by (col ∷ cols) [] = []
pairs_by (col ∷ cols) (prop ∷ props) = record { prop = prop; col = col } ∷ pairs_by cols props

-- whether the entities of a region have no row of a table
abbrev pub lacks_row : Basis → TableId → Region → Bool
lacks_row basis t region = not (has_row (pattern_of basis (focus.Entity region)) t)

-- the set that owns a table, or no set owns it
abbrev pub OwnedHere : Basis → TableId → Option Owned → Type 0
OwnedHere basis t None = (u : SetId) (pairing : List Pair) → ¬ OwnsTable basis t u pairing
OwnedHere basis t (Some owned) = OwnsTable basis t owned.set owned.pairing

-- and the set's regions that have no row of it
abbrev pub TargetHere : Basis → ForeignKey → Option Target → Type 0
TargetHere basis key None = (u : SetId) (pairing : List Pair) → ¬ OwnsTable basis key.to u pairing
TargetHere basis key (Some target) = OwnsTable basis key.to target.owned.set target.owned.pairing
    × (target.lacking ≡ filter (lacks_row basis key.to) (regions_of basis target.owned.set))

-- the key dangles at the focus so, or it doesn't dangle there
abbrev pub DanglesHere : Basis → Focus → ForeignKey → Option (Option Region) → Type 0
DanglesHere basis of key None = (principal : Option Region) → ¬ DanglesAt basis of key principal
DanglesHere basis of key (Some principal) = DanglesAt basis of key principal

-- the focus is an entity of this region and has the key that is shown, or it hasn't
abbrev pub OwnFits : Basis → Focus → ForeignKey → Owned → Option Region → Type 0
OwnFits basis of key owned None = (own : Forced) → IsOwn basis of own → ¬ Fits basis of key owned.set owned.pairing own
OwnFits basis of key owned (Some region) = (of ≡ focus.Entity region) × Fits basis of key owned.set owned.pairing (own_member basis region)

-- the type of one that has the key that is shown
abbrev pub fitting_type : Basis → Focus → ForeignKey → Owned → Forced → Option TypeId
fitting_type basis of key owned one = if fits basis of key owned.set owned.pairing one then Some one.ty else None

-- whether the region's type is under all of these
abbrev pub is_below : Basis → List TypeId → Region → Bool
is_below basis types region = list_all (basis.is_a region.ty) types

-- whether the region's type is under the types of all of these that have the key that is shown
abbrev pub is_below_all : Basis → Focus → ForeignKey → Owned → List Forced → Region → Bool
is_below_all basis of key owned list region = list_all (λ one. not (fits basis of key owned.set owned.pairing one) || basis.is_a region.ty one.ty) list
