-- Foreign keys that dangle: some legal state has a row that refers by the key, and none to which it refers.
-- Source: the round-trip criterion of Melnik, Adya and Bernstein, SIGMOD 2007, decided over regions; SSDL version 3, ReferentialConstraint.
use Rattle.std.specs.Prelude.{◌≡◌, ◌⊎◌, List, Contains, Option, None, Some}
use Rattle.round_trip.specs.Words.{SetId, TableId, ForeignKey, IsA, IsWritten, Pair, At}
use Rattle.schema_laws.specs.state_demand.Owners.{IsOwned}
use Rattle.regions.specs.Basis.{Basis}
use Rattle.regions.specs.Patterns.{pattern_of}
use Rattle.regions.specs.Regions.{regions_of}
use Rattle.regions.specs.declared.pattern.Focus.{Focus}
use Rattle.regions.specs.declared.pattern.Focus.TheVariants as focus
use Rattle.regions.specs.declared.region.Region.{Region}
use Rattle.region_states.specs.conflicts.Conflicts.{IsTableOf}
use Rattle.region_states.specs.focus.Held.{HasRow}
use Rattle.forced_entities.specs.Forced.{IsForced, own_member}
use Rattle.forced_entities.specs.declared.member.Forced.{Forced}
use Rattle.dangling_keys.specs.Showing.{Fits, MayRefer, not_null_for}
use Rattle.dangling_keys.specs.declared.key.DanglingKey.{DanglingKey}

module _ (basis : Basis) where
  -- the focus is a region of a set, or a link of an association with a table of its own
  abbrev pub IsRowFocus : Focus → Type 0
  IsRowFocus (focus.Entity region) = (s : SetId) × Contains (regions_of basis s) region
  IsRowFocus (focus.Link a) = (t : TableId) × IsTableOf basis a t

  -- the set owns the table by the pairing, and something writes it
  pub record OwnsTable (t : TableId) (u : SetId) (pairing : List Pair) : Type 0 where
    pub owned : IsOwned basis.schema t u pairing
    pub written : IsWritten basis.schema.mapping t

  -- the focus itself, where it is an entity
  abbrev pub IsOwn : Focus → Forced → Type 0
  IsOwn (focus.Entity region) one = one ≡ own_member basis region
  IsOwn (focus.Link a) one = ⊥

  -- the focus itself, or what it forces where none of its properties that a column of the key shows is null
  abbrev pub IsThere : Focus → ForeignKey → Forced → Type 0
  IsThere of key one = IsOwn of one ⊎ IsForced basis of (not_null_for basis of key) one

  -- no such entity has the key that is shown. This holds, too, where no set owns the table.
  abbrev pub NoneFits : Focus → ForeignKey → Type 0
  NoneFits of key = (u : SetId) (pairing : List Pair) → OwnsTable key.to u pairing → (one : Forced) → IsThere of key one → ¬ Fits basis of key u pairing one

  -- the entity of the region itself has the key that is shown, and no row of the table
  pub record OwnLacks (region : Region) (key : ForeignKey) : Type 0 where
    pub pairing : List Pair
    pub owns : OwnsTable key.to region.set pairing
    pub fits : Fits basis (focus.Entity region) key region.set pairing (own_member basis region)
    pub no_row : ¬ HasRow (pattern_of basis (focus.Entity region)) key.to

  -- another entity that is forced has it; and it may be one of the region, which is under the types of all that have it and has no row of the table
  pub record OtherLacks (of : Focus) (key : ForeignKey) (region : Region) : Type 0 where
    pub u : SetId
    pub pairing : List Pair
    pub owns : OwnsTable key.to u pairing
    pub one : Forced
    pub is_there : IsThere of key one
    pub fits : Fits basis of key u pairing one
    pub not_own : (own : Forced) → IsOwn of own → ¬ Fits basis of key u pairing own
    pub listed : Contains (regions_of basis u) region
    pub under : (other : Forced) → IsThere of key other → Fits basis of key u pairing other → IsA basis.schema.model region.ty other.ty
    pub no_row : ¬ HasRow (pattern_of basis (focus.Entity region)) key.to

  -- there is no row at the key that is shown: no entity has this key, or the focus itself or one of the region has it
  abbrev pub LacksRow : Focus → ForeignKey → Option Region → Type 0
  LacksRow of key None = NoneFits of key
  LacksRow of key (Some region) = ((of ≡ focus.Entity region) × OwnLacks region key) ⊎ OtherLacks of key region

  -- the foreign key dangles at the focus
  pub record DanglesAt (of : Focus) (key : ForeignKey) (principal : Option Region) : Type 0 where
    pub of_rows : IsRowFocus of
    pub refers : MayRefer basis of key
    pub lacks : LacksRow of key principal

  -- what is told is so
  pub record IsDangling (told : DanglingKey) : Type 0 where
    pub key : ForeignKey
    pub is_key : At basis.schema.store.keys told.key.index key
    pub dangles : DanglesAt told.focus key told.principal
