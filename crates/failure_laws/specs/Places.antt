-- Where the states fail that are shown of a conflict.
-- Source: this project's choice of how places are told.
use Rattle.std.specs.Prelude.{◌≡◌, ◌⊎◌, ℕ, [], ◌++◌, List, Contains, if◌then◌else◌}
use Rattle.std.specs.Option.{option_map_or}
use Rattle.round_trip.specs.Words.{AssocId, SetId, TableId, ColId, Assoc, At, Column, EntitySet, Fragment, LinkFragment, Pair, Place, Table, Value, key_of, place_at, written_key}
use Rattle.round_trip.specs.FailsAt.{HasColumn}
use Rattle.schema_laws.specs.sound_demand.Disagreeing.{keys_in_row}
use Rattle.schema_laws.specs.state_demand.Owners.{IsJoinedTo, paired_key}
use Rattle.schema_laws.specs.state_demand.Writings.{link_writing}
use Rattle.regions.specs.declared.region.Region.{Region}
use Rattle.regions.specs.declared.pattern.Focus.{Focus}
use Rattle.regions.specs.declared.pattern.Focus.TheVariants as focus
use Rattle.regions.specs.declared.pattern.PatternRow.{PatternRow}
use Rattle.regions.specs.Basis.{Basis, HostedAssoc}
use Rattle.regions.specs.Patterns.{Valuation, pattern_of}
use Rattle.regions.specs.Regions.{regions_of}
use Rattle.regions.specs.region_laws.pattern.Described.{row_for}
use Rattle.region_states.specs.Entities.{focus_entity}
use Rattle.region_states.specs.defaults.Defaults.{default_valuation}
use Rattle.region_states.specs.declared.conflicts.conflict.Conflict.{Conflict}
use Rattle.region_states.specs.declared.conflicts.conflict.Conflict.TheVariants as conflict
use Rattle.population.specs.LinkStates.{plain_link}
use Rattle.conflict_laws.specs.Told.{OwnedColumn}
use Rattle.conflict_laws.specs.clash.ClashValues.{clash_values}
use Rattle.conflict_laws.specs.rival.RivalValues.{first_values}
use Rattle.conflict_laws.specs.same.SameValues.{first_several, with_one}
use Rattle.host_states.specs.ManyPartners.{shared_entity}

module _ (basis : Basis) where
  -- a cell in the row of an entity of the region that has these values, in a table that its set owns
  pub record IsEntityCell (region : Region) (values : Valuation) (t : TableId) (col : ColId) (place : Place) : Type 0 where
    pub at : OwnedColumn basis.schema region.set t col
    pub is : place ≡ place_at at.table.name (paired_key basis.schema.model at.pairing (focus_entity basis region values)) at.column.name

  -- a cell in the row of the plain link of an association, in its own table
  pub record IsLinkCell (a : AssocId) (t : TableId) (col : ColId) (place : Place) : Type 0 where
    pub table : Table
    pub column : Column
    pub has_column : HasColumn basis.schema t table col column
    pub fragment : LinkFragment
    pub assoc : Assoc
    pub joined : IsJoinedTo basis.schema t fragment assoc
    pub of_assoc : fragment.assoc ≡ a
    pub is : place ≡ place_at table.name (written_key basis.schema.store (link_writing basis.schema.model fragment assoc (plain_link basis.schema.model 0 assoc))) column.name

  abbrev pub IsCell : Focus → (Region → Valuation) → TableId → ColId → Place → Type 0
  IsCell (focus.Entity region) values t col place = IsEntityCell region (values region) t col place
  IsCell (focus.Link a) values t col place = IsLinkCell a t col place

  -- a cell in the row of the entity that has two partners, where the association's link fragment writes a part of the partner's key
  pub record IsSharedCell (a : AssocId) (place : Place) : Type 0 where
    pub s : SetId
    pub at : HostedAssoc basis s
    pub of_assoc : at.host.assoc ≡ a
    pub fragment : LinkFragment
    pub mapped : Contains basis.schema.mapping.links fragment
    pub of_fragment : fragment.assoc ≡ a
    pub pair : Pair
    pub paired : Contains (if at.host.first_hosts then fragment.second else fragment.first) pair
    pub owned : OwnedColumn basis.schema s fragment.table pair.col
    pub is : place ≡ place_at owned.table.name (paired_key basis.schema.model owned.pairing (shared_entity basis at.host at.assoc)) owned.column.name

  -- the row of the usual entity of a region in the table of a hosted link fragment: the keys of both ends are read there
  pub record IsHostRow (region : Region) (fragment : LinkFragment) (keys : List Value) : Type 0 where
    pub assoc : Assoc
    pub is_assoc : At basis.schema.model.assocs fragment.assoc.index assoc
    pub row : PatternRow
    pub is_row : Contains (pattern_of basis (focus.Entity region)).rows row
    pub of_table : row.table ≡ fragment.table
    pub is : keys ≡ keys_in_row basis.schema assoc fragment (row_for (default_valuation basis 0 region) row)

  -- a fragment of this place: with the key of the usual entity, or with the keys of both ends of a link
  abbrev pub IsFragment : Focus → List ℕ → Place → Type 0
  IsFragment (focus.Entity region) name place =
      ((fragment : Fragment) × Contains basis.schema.mapping.fragments fragment × (fragment.place ≡ name)
      × (place ≡ place_at name (key_of basis.schema.model (focus_entity basis region (default_valuation basis 0 region))) []))
      ⊎ ((fragment : LinkFragment) × (keys : List Value) × Contains basis.schema.mapping.links fragment × (fragment.place ≡ name)
      × IsHostRow region fragment keys × (place ≡ place_at name keys []))
  IsFragment (focus.Link a) name place = (assoc : Assoc) × At basis.schema.model.assocs a.index assoc
      × (place ≡ place_at name ((plain_link basis.schema.model 0 assoc).first ++ (plain_link basis.schema.model 0 assoc).second) [])

  -- the set with the key of an entity of the region that has these values
  abbrev pub IsInSet : Region → Valuation → Place → Type 0
  IsInSet region values place = (set : EntitySet) × At basis.schema.model.sets region.set.index set
      × (place ≡ place_at set.name (key_of basis.schema.model (focus_entity basis region values)) [])

  -- the values of the first entity that is shown of a region without rows
  abbrev pub absent_values : Region → Valuation
  absent_values region = option_map_or (with_one basis region) (first_several basis region) (default_valuation basis 0 region)

  -- the place at which the states fail that are shown of a conflict
  abbrev pub IsPlaceOf : Conflict → Place → Type 0
  IsPlaceOf (conflict.Clash of t col one two) place = IsCell of (λ region. clash_values basis region one two) t col place
  IsPlaceOf (conflict.ManyLinks a) place = IsSharedCell a place
  IsPlaceOf (conflict.NullIn of t col one) place = IsCell of (default_valuation basis 0) t col place
  IsPlaceOf (conflict.Disagree of name) place = IsFragment of name place
  IsPlaceOf (conflict.Absent region) place = IsInSet region (absent_values region) place
  IsPlaceOf (conflict.Rival one two) place = IsInSet one (first_values basis one two) place
  IsPlaceOf (conflict.Lost region p) place = IsInSet region (with_one basis region p) place
  IsPlaceOf (conflict.Unmapped a) place = (assoc : Assoc) × At basis.schema.model.assocs a.index assoc × (place ≡ place_at assoc.set_name [] [])
