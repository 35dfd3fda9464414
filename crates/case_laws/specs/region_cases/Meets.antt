-- Where the rows at a key meet a case, and which entity and links they then tell.
-- Source: the query views of Melnik, Adya and Bernstein, SIGMOD 2007.
use Rattle.std.specs.Prelude.{◌≡◌, ◌⊎◌, ◌↔◌, List, length, map, All, Any, Contains, Some, None, IsTrue}
use Rattle.std.specs.List.{AllZip}
use Rattle.round_trip.specs.Words.{SetId, TableId, ColId, PropId, AssocId, Value, Null, Prop, Assoc, Table, Pair, Schema, Entity, Hosted, Row, At, InDomain, IsWritten, Tables, rows_in, row_key, cell_of, props_of, key_props, value_beside, value_of}
use Rattle.round_trip.specs.soundness.mappings.Joined.{prop}
use Rattle.round_trip.specs.soundness.Lookups.{set_key}
use Rattle.condition_logic.specs.declared.atoms.Atom.TheVariants as atom
use Rattle.regions.specs.Atoms.{LiesIn, atom_at}
use Rattle.regions.specs.Basis.{Basis, Host, partner_end}
use Rattle.schema_laws.specs.state_demand.Owners.{IsOwned}
use Rattle.case_laws.specs.declared.region_cases.case.CaseCell.{CaseCell}
use Rattle.case_laws.specs.declared.region_cases.case.CaseCell.TheVariants as cell
use Rattle.case_laws.specs.declared.region_cases.case.CaseRow.{CaseRow}
use Rattle.case_laws.specs.declared.region_cases.case.Case.{Case}

-- a row at this key of the set, in a table that the set owns
pub record StandsAtKey (schema : Schema) (tables : Tables) (s : SetId) (key : List Value) (t : TableId) (held : Row) : Type 0 where
  pub pairing : List Pair
  pub table : Table
  pub written : IsWritten schema.mapping t
  pub owned : IsOwned schema t s pairing
  pub is_table : At schema.store.tables t.index table
  pub stands : Contains (rows_in tables t) held
  pub at_key : row_key table held ≡ map (λ pair. value_beside pair.prop (set_key schema.model s) key) pairing

module _ (basis : Basis) (tables : Tables) (key : List Value) (case : Case) where
  -- a row at the key, in a table that the set of the case owns
  abbrev pub StandsHere : TableId → Row → Type 0
  StandsHere = StandsAtKey basis.schema tables case.region.set key

  -- a row at the key, in a table of which the case has a row, and what the case says of one of its columns
  pub record HasCell (t : TableId) (held : Row) (col : ColId) (told : CaseCell) : Type 0 where
    pub row : CaseRow
    pub of_case : Contains case.rows row
    pub of_table : row.table ≡ t
    pub stands : StandsHere t held
    pub is_cell : At row.cells col.index told

  -- a cell that shows the property holds the value
  abbrev pub ShowsValue : PropId → Value → Type 0
  ShowsValue p value = (t : TableId) × (held : Row) × (col : ColId) × HasCell t held col (cell.Prop p) × (value ≡ cell_of held col)

  -- a cell that shows the part of the partner's key holds the value
  abbrev pub ShowsPart : AssocId → PropId → Value → Type 0
  ShowsPart assoc p value = (t : TableId) × (held : Row) × (col : ColId) × HasCell t held col (cell.Partner assoc p) × (value ≡ cell_of held col)

  -- a value that the property may have in the region: one in its domain, or null where it isn't tested and nullable; and where its atom is other,
  -- neither null nor one of the constants
  abbrev pub MayBe : PropId → Prop → Value → Type 0
  MayBe p declared value = (InDomain value declared.kind ⊎ ((value ≡ Null) × (atom_at case.region.atoms p ≡ None) × IsTrue declared.nullable))
      × (atom_at case.region.atoms p ≡ Some atom.Other → LiesIn (basis.constants (prop p)) atom.Other value)

  -- the rows at the key meet the case
  pub record MeetsCase : Type 0 where
    -- just the case's tables have a row there
    pub present : All (λ row. (held : Row) × StandsHere row.table held) case.rows
    pub absent : (t : TableId) (held : Row) → StandsHere t held → Any (λ row. row.table ≡ t) case.rows
    -- cells hold the constants
    pub constants : (t : TableId) (held : Row) (col : ColId) (value : Value) → HasCell t held col (cell.Const value) → cell_of held col ≡ value
    -- cells that show one property hold one value, which the property may have
    pub one : (p : PropId) (value other : Value) → ShowsValue p value → ShowsValue p other → value ≡ other
    pub values : (p : PropId) (declared : Prop) (value : Value) → At basis.schema.model.props p.index declared → ShowsValue p value → MayBe p declared value
    -- those that show a partner's key hold values in its domain
    pub parts : (assoc : AssocId) (p : PropId) (declared : Prop) (value : Value) → At basis.schema.model.props p.index declared → ShowsPart assoc p value
        → InDomain value declared.kind

  -- the entity that they tell: of the region's type, with the shown values, and the values of atoms that have one
  pub record IsEntityOf (entity : Entity) : Type 0 where
    pub typed : entity.ty ≡ case.region.ty
    pub size : length entity.values ≡ length (props_of basis.schema.model entity.ty)
    pub shown : (p : PropId) (value : Value) → ShowsValue p value → value_of basis.schema.model entity p ≡ value
    pub nulls : All (λ told. told.atom ≡ atom.Null → value_of basis.schema.model entity told.prop ≡ Null) case.region.atoms
    pub single : (value : Value) → All (λ told. told.atom ≡ atom.Is value → value_of basis.schema.model entity told.prop ≡ value) case.region.atoms

  -- a link that they tell: of an association of the region, to the partner whose key is shown
  pub record IsLinkOf (hosted : Hosted) : Type 0 where
    pub linked : Contains case.region.linked hosted.assoc
    pub host : Host
    pub assoc : Assoc
    pub is_host : Contains (basis.hosts case.region.set) host
    pub of_assoc : host.assoc ≡ hosted.assoc
    pub is_assoc : At basis.schema.model.assocs host.assoc.index assoc
    pub size : length hosted.partner ≡ length (key_props basis.schema.model (partner_end host.first_hosts assoc).ty)
    pub parts : All (λ p. ShowsPart hosted.assoc p (value_beside p (key_props basis.schema.model (partner_end host.first_hosts assoc).ty) hosted.partner))
        (key_props basis.schema.model (partner_end host.first_hosts assoc).ty)

  -- the links that they tell, in some order
  pub record HaveLinksOf (links : List Hosted) : Type 0 where
    pub tells : (hosted : Hosted) → Contains links hosted ↔ IsLinkOf hosted

  -- the links that they tell, one of each association of which one is there, in the order of associations
  abbrev pub AreLinksOf : List Hosted → Type 0
  AreLinksOf links = AllZip (λ a hosted. (hosted.assoc ≡ a) × IsLinkOf hosted) case.region.linked links
