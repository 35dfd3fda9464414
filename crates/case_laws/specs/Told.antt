-- An entity that the rows at a key tell, by the case of its region.
-- Source: the query views of Melnik, Adya and Bernstein, SIGMOD 2007.
use Rattle.std.specs.Prelude.{◌≡◌, List, length, All, Contains, Bool, false}
use Rattle.round_trip.specs.Words.{SetId, TableId, ColId, PropId, Value, Prop, Table, Column, Entity, Hosted, Row, Tables, At, IsEntity, IsFree, cell_of, key_of, props_of, value_of}
use Rattle.round_trip.specs.soundness.Lookups.{set_key}
use Rattle.regions.specs.declared.region.Region.{Region}
use Rattle.regions.specs.declared.pattern.PatternRow.{PatternRow}
use Rattle.regions.specs.declared.pattern.Focus.TheVariants as focus
use Rattle.regions.specs.Atoms.{Allows}
use Rattle.regions.specs.Basis.{Basis}
use Rattle.regions.specs.Patterns.{Valuation, by_entity, pattern_of}
use Rattle.regions.specs.Regions.{Holds, regions_of}
use Rattle.regions.specs.region_laws.pattern.Allowed.{partner_parts}
use Rattle.regions.specs.region_laws.pattern.Described.{row_for}
use Rattle.region_states.specs.conflicts.SameFacts.{is_absent, is_lost}
use Rattle.conflict_laws.specs.rival.Alike.{IsClear}
use Rattle.case_laws.specs.region_cases.Cases.{case_of}
use Rattle.case_laws.specs.region_cases.Meets.{HaveLinksOf, IsEntityOf, MeetsCase, StandsAtKey}

-- a region of the set that can be read: no cell of its pattern clashes, it has a row, and it loses no property
pub record IsReadable (basis : Basis) (s : SetId) (region : Region) : Type 0 where
  pub listed : Contains (regions_of basis s) region
  pub clear : IsClear basis region
  pub present : is_absent basis region ≡ false
  pub kept : (p : PropId) → is_lost basis region p ≡ false

module _ (basis : Basis) (is_free : TableId → ColId → Bool) (s : SetId) (region : Region) (tables : Tables) (key : List Value) where
  -- rows at the key, which has as many parts as the set's, meet the case of the region
  pub record IsMet : Type 0 where
    pub meets : MeetsCase basis tables key (case_of is_free basis region)
    pub whole : length key ≡ length (set_key basis.schema.model s)

  -- the pattern's row stands at the key: with these values, but in free columns
  pub record StandsWith (valuation : Valuation) (pattern : PatternRow) : Type 0 where
    pub held : Row
    pub stands : StandsAtKey basis.schema tables s key pattern.table held
    pub cells : (table : Table) (col : ColId) (column : Column) → At basis.schema.store.tables pattern.table.index table → At table.cols col.index column
        → ¬ IsFree basis.schema pattern.table col → cell_of held col ≡ cell_of (row_for valuation pattern) col

  -- the rows tell the entity and these links
  pub record AreTold (entity : Entity) (links : List Hosted) : Type 0 where
    pub entity_told : IsEntityOf basis tables key (case_of is_free basis region) entity
    pub links_told : HaveLinksOf basis tables key (case_of is_free basis region) links

  -- the entity is one that the region holds with these links, its key is the one at which the rows stand, each property may hold its value, and its rows
  -- are these
  pub record IsReadBack (entity : Entity) (links : List Hosted) : Type 0 where
    pub is_entity : IsEntity basis.schema.model entity
    pub holds : Holds basis region entity links
    pub at_key : key_of basis.schema.model entity ≡ key
    pub values : (p : PropId) (declared : Prop) → Contains (props_of basis.schema.model entity.ty) p → At basis.schema.model.props p.index declared
        → Allows declared (value_of basis.schema.model entity p)
    pub rows : All (StandsWith (by_entity basis.schema.model entity (partner_parts basis.schema.model links))) (pattern_of basis (focus.Entity region)).rows
