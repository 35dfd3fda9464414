-- Which values a cell of a region's case may hold, by itself.
-- Source: the query views of Melnik, Adya and Bernstein, SIGMOD 2007.
use Rattle.std.specs.Prelude.{◌≡◌, List, [], ⊤}
use Rattle.std.specs.List.{AllZip}
use Rattle.round_trip.specs.Words.{TableId, ColId, PropId, Value, Prop, Row, InDomain, At, cell_of}
use Rattle.regions.specs.declared.region.Region.{Region}
use Rattle.regions.specs.Basis.{Basis}
use Rattle.case_laws.specs.declared.region_cases.case.Case.{Case}
use Rattle.case_laws.specs.declared.region_cases.case.CaseCell.{CaseCell}
use Rattle.case_laws.specs.declared.region_cases.case.CaseCell.TheVariants as cell
use Rattle.case_laws.specs.region_cases.Meets.{MayBe}

module _ (basis : Basis) (region : Region) where
  -- a value that a property may have in the region
  abbrev pub MayBeIn : PropId → Prop → Value → Type 0
  MayBeIn = MayBe basis [] [] (record { region = region; rows = [] })

  -- the constant; what the property may have; what a part of a partner's key may be; or anything
  abbrev pub MayHold : CaseCell → Value → Type 0
  MayHold (cell.Const one) value = value ≡ one
  MayHold (cell.Prop p) value = (declared : Prop) → At basis.schema.model.props p.index declared → MayBeIn p declared value
  MayHold (cell.Partner assoc p) value = (declared : Prop) → At basis.schema.model.props p.index declared → InDomain value declared.kind
  MayHold cell.Free value = ⊤

-- a row holds what each cell of the case's row may hold
abbrev pub MayHoldCells : Basis → Region → List CaseCell → Row → Type 0
MayHoldCells basis region cells held = (col : ColId) (told : CaseCell) → At cells col.index told → MayHold basis region told (cell_of held col)

-- the rows are of the case's tables, each of one, and each cell may hold its value by itself
abbrev pub MayMeet : Basis → Case → List (TableId × Row) → Type 0
MayMeet basis case rows = AllZip (λ row placed. (row.table ≡ placed.0) × MayHoldCells basis case.region row.cells placed.1) case.rows rows
