-- How the entities of a case's region are read.
-- Source: the query views of Melnik, Adya and Bernstein, SIGMOD 2007.
use Rattle.std.specs.Prelude.{◌≡◌, ◌⊎◌, All, Contains, Option, None, Some, option_and_then}
use Rattle.std.specs.List.{AllZip}
use Rattle.round_trip.specs.Words.{PropId, Value, Null, At, props_of}
use Rattle.condition_logic.specs.declared.atoms.Atom.{Atom}
use Rattle.condition_logic.specs.declared.atoms.Atom.TheVariants as atom
use Rattle.regions.specs.Atoms.{atom_at}
use Rattle.regions.specs.Basis.{Basis}
use Rattle.case_laws.specs.declared.region_cases.case.CaseCell.TheVariants as cell
use Rattle.case_laws.specs.declared.region_cases.case.CaseRow.{CaseRow}
use Rattle.case_laws.specs.declared.region_cases.case.Case.{Case}
use Rattle.query_cases.specs.declared.case_reading.reading.CellPlace.{CellPlace}
use Rattle.query_cases.specs.declared.case_reading.reading.Source.{Source}
use Rattle.query_cases.specs.declared.case_reading.reading.Source.TheVariants as source
use Rattle.query_cases.specs.declared.case_reading.reading.Reading.{Reading}
use Rattle.query_cases.specs.case_reading.Links.{IsLinkReading}

-- the value of an atom that has one alone
abbrev pub one_value : Atom → Option Value
one_value atom.Null = Some Null
one_value (atom.Is value) = Some value
one_value atom.Other = None

module _ (case : Case) where
  -- the value that a property has in every entity of the region, where its atom has one alone
  abbrev pub fixed_value : PropId → Option Value
  fixed_value p = option_and_then one_value (atom_at case.region.atoms p)

  -- the cell at the place shows the property
  pub record ShowsAt (p : PropId) (place : CellPlace) : Type 0 where
    pub row : CaseRow
    pub at_row : At case.rows place.row row
    pub at_cell : At row.cells place.col (cell.Prop p)

  -- a property with one value alone is read as this; another at a cell that shows it, and as null where none does
  abbrev pub IsReadAs : PropId → Option Value → Source → Type 0
  IsReadAs p (Some value) told = told ≡ source.Is value
  IsReadAs p None (source.Is value) = (value ≡ Null) × ((place : CellPlace) → ¬ ShowsAt p place)
  IsReadAs p None (source.Cell place) = ShowsAt p place

  abbrev pub IsSource : PropId → Source → Type 0
  IsSource p told = IsReadAs p (fixed_value p) told

-- the sources are those of the type's properties, in their order; the twins show one property each, and each cell that shows a property is its first
-- or a later twin of this; and the links are those of the region's associations, in their order
pub record IsReadingOf (basis : Basis) (case : Case) (reading : Reading) : Type 0 where
  pub values : AllZip (IsSource case) (props_of basis.schema.model case.region.ty) reading.values
  pub twins : All (λ twins. (p : PropId) × ShowsAt case p twins.first × ShowsAt case p twins.later) reading.twins
  pub first : PropId → CellPlace
  pub linked : (p : PropId) (place : CellPlace) → ShowsAt case p place → (place ≡ first p) ⊎ Contains reading.twins (record { first = first p; later = place })
  pub links : AllZip (IsLinkReading basis case) case.region.linked reading.links
