-- How the links of a case's region are read, and which links are read so.
-- Source: the query views of Melnik, Adya and Bernstein, SIGMOD 2007.
use Rattle.std.specs.Prelude.{◌≡◌, ◌⊎◌, ◌<◌, ◌==◌, ◌&&◌, Bool, false, List, length, map, Contains}
use Rattle.std.specs.List.{AllZip}
use Rattle.round_trip.specs.Words.{SetId, AssocId, PropId, TableId, Assoc, Hosted, Row, At, key_props}
use Rattle.regions.specs.Basis.{Basis, Host, partner_end}
use Rattle.case_laws.specs.declared.region_cases.case.CaseCell.{CaseCell}
use Rattle.case_laws.specs.declared.region_cases.case.CaseCell.TheVariants as cell
use Rattle.case_laws.specs.declared.region_cases.case.CaseRow.{CaseRow}
use Rattle.case_laws.specs.declared.region_cases.case.Case.{Case}
use Rattle.query_cases.specs.declared.case_reading.reading.CellPlace.{CellPlace}
use Rattle.query_cases.specs.declared.case_reading.reading.LinkReading.{LinkReading}
use Rattle.query_cases.specs.declared.case_reading.reading.Reading.{Reading}
use Rattle.query_cases.specs.case_reading.Sources.{cell_at}

-- the cell at the place shows the part of the partner's key
pub record ShowsPartAt (case : Case) (a : AssocId) (p : PropId) (place : CellPlace) : Type 0 where
  pub row : CaseRow
  pub at_row : At case.rows place.row row
  pub at_cell : At row.cells place.col (cell.Partner a p)

-- a part of the partner's key is read at a cell that shows it; where none does, anywhere
abbrev pub IsPartPlace : Case → AssocId → PropId → CellPlace → Type 0
IsPartPlace case a p place = ShowsPartAt case a p place ⊎ ((other : CellPlace) → ¬ ShowsPartAt case a p other)

-- whether a cell shows the part
abbrev pub shows_part : AssocId → PropId → CaseCell → Bool
shows_part a p (cell.Partner b q) = (b.index == a.index) && (q.index == p.index)
shows_part a p told = false

-- entities of the set host the links of the association
abbrev pub IsHosted : Basis → SetId → AssocId → Type 0
IsHosted basis s a = (host : Host) × Contains (basis.hosts s) host × (host.assoc ≡ a)

-- the key of the partners to which these links lead
pub record IsPartnerKey (basis : Basis) (s : SetId) (a : AssocId) (keys : List PropId) : Type 0 where
  pub host : Host
  pub assoc : Assoc
  pub is_host : Contains (basis.hosts s) host
  pub same_assoc : host.assoc ≡ a
  pub is_assoc : At basis.schema.model.assocs host.assoc.index assoc
  pub is_key : keys ≡ key_props basis.schema.model (partner_end host.first_hosts assoc).ty

-- a link of the association is read so: each part of its partner's key, in the key's order, at a cell that shows it, if one does
pub record IsLinkReading (basis : Basis) (case : Case) (a : AssocId) (reading : LinkReading) : Type 0 where
  pub of_assoc : reading.assoc ≡ a
  pub host : Host
  pub assoc : Assoc
  pub is_host : Contains (basis.hosts case.region.set) host
  pub same_assoc : host.assoc ≡ a
  pub is_assoc : At basis.schema.model.assocs host.assoc.index assoc
  pub parts : AllZip (IsPartPlace case a) (key_props basis.schema.model (partner_end host.first_hosts assoc).ty) reading.parts

-- there is a cell at the place
pub record HasPlace (rows : List (TableId × Row)) (place : CellPlace) : Type 0 where
  pub placed : TableId × Row
  pub at_row : At rows place.row placed
  pub within : place.col < length placed.1.cells

-- the link that is read, and all links of an entity, one of each association of which one is there
abbrev pub read_link : List (TableId × Row) → LinkReading → Hosted
read_link rows reading = record { assoc = reading.assoc; partner = map (cell_at rows) reading.parts }

abbrev pub read_links : Reading → List (TableId × Row) → List Hosted
read_links reading rows = map (read_link rows) reading.links
