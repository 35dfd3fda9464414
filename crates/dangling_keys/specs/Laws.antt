-- What the laws on foreign keys that dangle rest on, and what they say.
-- Source: this project's; the round-trip criterion of Melnik, Adya and Bernstein, SIGMOD 2007.
use Rattle.std.specs.Prelude.{◌≡◌, ◌≤◌, ℕ, Contains, List, Option, None, Some}
use Rattle.round_trip.specs.Words.{Assoc, AssocId, At, ColId, EntitySet, ForeignKey, IsIndependent, Pair, Place, PropId, SetId}
use Rattle.round_trip.specs.declared.FailKind.{FailKind}
use Rattle.round_trip.specs.declared.FailKind.TheVariants as kind
use Rattle.cells.specs.Limits.{IsWithinLimits}
use Rattle.regions.specs.Basis.{Basis}
use Rattle.regions.specs.Regions.{regions_of}
use Rattle.regions.specs.declared.pattern.Focus.{Focus}
use Rattle.regions.specs.declared.pattern.Focus.TheVariants as focus
use Rattle.regions.specs.declared.region.Region.{Region}
use Rattle.regions.specs.region_laws.IsBasis.{IsBasis}
use Rattle.region_states.specs.Entities.{focus_entity}
use Rattle.region_states.specs.HoldsFocus.{HoldsFocus}
use Rattle.region_states.specs.conflicts.Conflicts.{IsConflictAt, IsLinkConflictAt}
use Rattle.region_states.specs.conflicts.There.{NoneFailsBy}
use Rattle.region_states.specs.declared.conflicts.conflict.Conflict.{Conflict}
use Rattle.population.specs.LinkStates.{HoldsLink}
use Rattle.forced_entities.specs.Held.{HasNoNull}
use Rattle.dangling_keys.specs.Dangling.{DanglesAt, IsDangling, OwnsTable}
use Rattle.dangling_keys.specs.DanglingStates.{IsRowPlace, dangling_state}
use Rattle.dangling_keys.specs.Failing.{FailsAtKey}
use Rattle.dangling_keys.specs.FlowStates.{AreOpen, flow_state, values_of_focus}
use Rattle.dangling_keys.specs.LeftOut.{LeavesUnforcedOut, SetsApart}
use Rattle.dangling_keys.specs.Outer.{IsPartOrOuter, outer_row}
use Rattle.dangling_keys.specs.Showing.{cell_at, not_null_for}
use Rattle.dangling_keys.specs.declared.key.DanglingKey.{DanglingKey}

-- a sound mapping within the limits
pub record IsSoundBasis (basis : Basis) : Type 0 where
  pub is_basis : IsBasis basis
  pub limits : IsWithinLimits basis.schema

-- and no legal state clashes
pub record HasNoClash (basis : Basis) : Type 0 where
  pub sound : IsSoundBasis basis
  pub none : NoneFailsBy basis.schema kind.Clash

-- nothing is told of the mapping: there is no conflict at a set, none at the links of an association, and no key dangles
pub record HasNoConflicts (basis : Basis) : Type 0 where
  pub sets : (of : FailKind) (s : SetId) (set : EntitySet) → At basis.schema.model.sets s.index set → (conflict : Conflict) → ¬ IsConflictAt basis s of conflict
  pub links : (of : FailKind) (a : AssocId) (assoc : Assoc) → At basis.schema.model.assocs a.index assoc → (conflict : Conflict) → ¬ IsLinkConflictAt basis a of conflict
  pub keys : (told : DanglingKey) → ¬ IsDangling basis told

-- the key dangles at some focus
abbrev pub Dangles : Basis → ForeignKey → Type 0
Dangles basis key = (of : Focus) × (principal : Option Region) × DanglesAt basis of key principal

-- something is told of the key
abbrev pub IsToldOf : Basis → ForeignKey → Type 0
IsToldOf basis key = (told : DanglingKey) × (by : IsDangling basis told) × (by.key ≡ key)

-- where the row of a region's entity is missing, its set owns the table to which the key points, by this pairing
abbrev pub IsPairedBy : Basis → ForeignKey → List Pair → Option Region → Type 0
IsPairedBy basis key pairing None = key ≡ key
IsPairedBy basis key pairing (Some region) = OwnsTable basis key.to region.set pairing

-- the small state that is shown of what is told fails by the key, at the place of the row of the focus
abbrev pub IsShownToFail : (basis : Basis) (told : DanglingKey) → IsDangling basis told → Type 0
IsShownToFail basis told dangling = (pairing : List Pair) → IsPairedBy basis dangling.key pairing told.principal → (place : Place) → IsRowPlace basis told.focus dangling.key place
    → FailsAtKey basis dangling.key place (dangling_state basis told.focus dangling.key pairing told.principal)

-- some place names the row of the focus, and some pairing is that by which the set of the region owns the table
pub record HasPlace (basis : Basis) (told : DanglingKey) (dangling : IsDangling basis told) : Type 0 where
  pub place : Place
  pub named : IsRowPlace basis told.focus dangling.key place
  pub pairing : List Pair
  pub paired : IsPairedBy basis dangling.key pairing told.principal

-- one of the five rows of numbers
abbrev pub IsRow : ℕ → Type 0
IsRow outer = outer ≤ 4

-- a row of numbers; a region of a set, and properties of its type that may be null and are to be none
pub record IsEntityOf (basis : Basis) (outer : ℕ) (region : Region) (not_null : List PropId) : Type 0 where
  pub row : IsRow outer
  pub s : SetId
  pub listed : Contains (regions_of basis s) region
  pub open_ : AreOpen basis region not_null

-- a row of numbers, and an independent association
pub record IsLinkOf (basis : Basis) (outer : ℕ) (a : AssocId) (assoc : Assoc) : Type 0 where
  pub row : IsRow outer
  pub here : At basis.schema.model.assocs a.index assoc
  pub independent : IsIndependent assoc

-- the state that holds the focus, its entity or its link, leaves out what isn't forced, and sets its values apart
pub record LeavesOutAt (basis : Basis) (outer : ℕ) (of : Focus) (not_null : List PropId) : Type 0 where
  pub leaves : LeavesUnforcedOut basis outer of (values_of_focus basis outer of not_null) not_null (flow_state basis outer of not_null)
  pub apart : SetsApart basis outer of (values_of_focus basis outer of not_null) (flow_state basis outer of not_null)

-- it holds the entity, none of whose given properties is null
pub record HoldsEntity (basis : Basis) (outer : ℕ) (region : Region) (not_null : List PropId) : Type 0 where
  pub holds : HoldsFocus basis region (values_of_focus basis outer (focus.Entity region) not_null) (flow_state basis outer (focus.Entity region) not_null)
  pub no_null : HasNoNull basis not_null (focus_entity basis region (values_of_focus basis outer (focus.Entity region) not_null))

-- it holds the plain link
abbrev pub HoldsLinkOf : Basis → ℕ → AssocId → Assoc → List PropId → Type 0
HoldsLinkOf basis outer a assoc not_null = HoldsLink basis.schema.model outer a assoc (flow_state basis outer (focus.Link a) not_null)

-- in the row of numbers that is chosen for a foreign key the focus shows by it parts of keys, and else values which that row doesn't have, so that nobody in the state has one of them in a key;
-- and of the properties that are to be none it is open whether they are null
pub record ShowsApart (basis : Basis) (of : Focus) (key : ForeignKey) : Type 0 where
  pub row : IsRow (outer_row basis of key)
  pub open_ : (region : Region) → of ≡ focus.Entity region → AreOpen basis region (not_null_for basis of key)
  pub cells : (col : ColId) → Contains key.from_cols col
      → IsPartOrOuter basis (outer_row basis of key) of (values_of_focus basis (outer_row basis of key) of (not_null_for basis of key)) (cell_at basis of key.from col)
