-- What is told of regions of a set, fact by fact, and where its row stands.
-- Source: this project's; the round-trip criterion of Melnik, Adya and Bernstein, SIGMOD 2007, decided over regions.
use Rattle.std.specs.Prelude.{List, Contains, IsTrue}
use Rattle.round_trip.specs.Words.{SetId, TableId, ColId, PropId, Column, Fragment, Pair, Schema, Table}
use Rattle.round_trip.specs.FailsAt.{HasColumn}
use Rattle.schema_laws.specs.state_demand.Owners.{IsOwned}
use Rattle.regions.specs.declared.region.Region.{Region}
use Rattle.regions.specs.declared.pattern.Symbol.{Symbol}
use Rattle.regions.specs.declared.pattern.Focus.TheVariants as focus
use Rattle.regions.specs.Basis.{Basis}
use Rattle.regions.specs.Regions.{regions_of}
use Rattle.region_states.specs.conflicts.Facts.{differs_at, is_clash, is_null_in}
use Rattle.region_states.specs.conflicts.SameFacts.{are_rivals, is_absent, is_lost}

-- a column of a table that the set owns by the pairing
pub record OwnedColumn (schema : Schema) (s : SetId) (t : TableId) (col : ColId) : Type 0 where
  pub table : Table
  pub column : Column
  pub has_column : HasColumn schema t table col column
  pub pairing : List Pair
  pub owned : IsOwned schema t s pairing

-- two symbols that a cell of a region's pattern lists, and that can differ
pub record ClashingCell (basis : Basis) : Type 0 where
  pub s : SetId
  pub region : Region
  pub listed : Contains (regions_of basis s) region
  pub t : TableId
  pub col : ColId
  pub one : Symbol
  pub two : Symbol
  pub clash : IsTrue (is_clash basis (focus.Entity region) t col one two)

-- a symbol that stands for null in a cell of a region's pattern, where the column isn't nullable
pub record NullCell (basis : Basis) : Type 0 where
  pub s : SetId
  pub region : Region
  pub listed : Contains (regions_of basis s) region
  pub t : TableId
  pub col : ColId
  pub one : Symbol
  pub null : IsTrue (is_null_in basis (focus.Entity region) t col one)

-- a fragment that differs from a region of its set
pub record DifferingFragment (basis : Basis) : Type 0 where
  pub s : SetId
  pub region : Region
  pub listed : Contains (regions_of basis s) region
  pub fragment : Fragment
  pub mapped : Contains basis.schema.mapping.fragments fragment
  pub differs : IsTrue (differs_at basis region fragment)

-- two regions of a set that are rivals
pub record RivalRegions (basis : Basis) : Type 0 where
  pub s : SetId
  pub one : Region
  pub two : Region
  pub is_one : Contains (regions_of basis s) one
  pub is_two : Contains (regions_of basis s) two
  pub rivals : IsTrue (are_rivals basis one two)

-- a region of a set, and a property of it that is lost
pub record LostProp (basis : Basis) : Type 0 where
  pub s : SetId
  pub region : Region
  pub listed : Contains (regions_of basis s) region
  pub p : PropId
  pub lost : IsTrue (is_lost basis region p)

-- a region of a set that leaves no row
pub record AbsentRegion (basis : Basis) : Type 0 where
  pub s : SetId
  pub region : Region
  pub listed : Contains (regions_of basis s) region
  pub absent : IsTrue (is_absent basis region)
