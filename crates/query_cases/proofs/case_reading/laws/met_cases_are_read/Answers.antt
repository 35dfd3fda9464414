use Rattle.std.proofs.Common.{◌≡◌, ◌↔◌, List, Bool, Contains, sym, subst}
use Rattle.emc_base.proofs.Numbered.{map_contains}
use Rattle.round_trip.specs.Words.{ColId, Row, SetId, TableId, Tables, Value}
use Rattle.regions.specs.declared.region.Region.{Region}
use Rattle.regions.specs.Basis.{Basis}
use Rattle.regions.specs.Regions.{regions_of}
use Rattle.regions.specs.region_laws.IsBasis.{IsBasis}
use Rattle.regions.proofs.region_laws.listing.Listed.{set_is}
use Rattle.case_laws.specs.declared.region_cases.case.Case.{Case}
use Rattle.case_laws.specs.region_cases.Cases.{case_of, cases_of}
use Rattle.case_laws.specs.region_cases.Meets.{IsEntityOf, MeetsCase}
use Rattle.case_laws.specs.candidates.Rows.{AreRowsAt}
use Rattle.query_cases.specs.case_cells.Holding.{MayMeet}
use Rattle.query_cases.specs.declared.case_reading.reading.Reading.{Reading}
use Rattle.query_cases.specs.case_reading.Reading.{IsReadingOf}
use Rattle.query_cases.specs.case_reading.Sources.{AgreeTwins, read_entity}
use Rattle.query_cases.proofs.case_reading.CellByCell.{may_meet, meets_case, twins_agree}
use Rattle.query_cases.proofs.case_reading.Linking.{are_links, are_places}
use Rattle.query_cases.proofs.case_reading.Telling.{told_entity}
use Rattle.query_cases.proofs.case_reading.laws.met_cases_are_read.Goals as goal

module _ (basis : Basis) (is : IsBasis basis) (is_free : TableId → ColId → Bool) (s : SetId) (case : Case) (listed : Contains (cases_of is_free basis s) case)
    (tables : Tables) (key : List Value) (rows : List (TableId × Row)) (here : AreRowsAt basis.schema tables s key rows) where
  -- the region of the case
  of_region : (region : Region) × Contains (regions_of basis s) region × (case_of is_free basis region ≡ case)
  of_region = map_contains (case_of is_free basis) (regions_of basis s) case listed

  abbrev region : Region
  region = of_region.0

  here_too : AreRowsAt basis.schema tables region.set key rows
  here_too = subst (λ u. AreRowsAt basis.schema tables u key rows) (sym (set_is basis s region of_region.1)) here

  met_may : MeetsCase basis tables key case → MayMeet basis case rows
  met_may =
      let P : Case → Type 0 = λ one. MeetsCase basis tables key one → MayMeet basis one rows in
      subst P of_region.2 (may_meet is_free basis region tables key rows here_too)

  met_read : (reading : Reading) → IsReadingOf basis case reading → MeetsCase basis tables key case ↔ (MayMeet basis case rows × AgreeTwins reading rows)
  met_read reading =
      let P : Case → Type 0 = λ one. IsReadingOf basis one reading → MeetsCase basis tables key one ↔ (MayMeet basis one rows × AgreeTwins reading rows) in
      subst P of_region.2 (λ is_reading. (
        λ met. (may_meet is_free basis region tables key rows here_too met, twins_agree is_free basis region tables key rows here_too met reading is_reading),
        λ both. meets_case is_free basis region tables key rows here_too both.0 reading is_reading both.1,
      ))

  told_read : (reading : Reading) → IsReadingOf basis case reading → MeetsCase basis tables key case
      → IsEntityOf basis tables key case (read_entity reading case.region.ty rows)
  told_read reading =
      let P : Case → Type 0 = λ one. IsReadingOf basis one reading → MeetsCase basis tables key one
      → IsEntityOf basis tables key one (read_entity reading one.region.ty rows) in
      subst P of_region.2 (λ is_reading met. told_entity is_free basis is s region of_region.1 tables key rows here_too met reading is_reading)

pub returns-clause-met : goal.returns-clause-met
returns-clause-met c basis is is_free s case listed tables key rows here reading is_reading = met_read basis is is_free s case listed tables key rows here reading is_reading

pub returns-clause-may : goal.returns-clause-may
returns-clause-may c basis is is_free s case listed tables key rows here met = met_may basis is is_free s case listed tables key rows here met

pub returns-clause-told : goal.returns-clause-told
returns-clause-told c basis is is_free s case listed tables key rows here reading is_reading met = told_read basis is is_free s case listed tables key rows here reading is_reading met

-- of a region that can be read
here_of : (basis : Basis) (s : SetId) (region : Region) → Contains (regions_of basis s) region → (tables : Tables) (key : List Value) (rows : List (TableId × Row))
    → AreRowsAt basis.schema tables s key rows → AreRowsAt basis.schema tables region.set key rows
here_of basis s region listed tables key rows here = subst (λ u. AreRowsAt basis.schema tables u key rows) (sym (set_is basis s region listed)) here

pub returns-clause-links : goal.returns-clause-links
returns-clause-links c basis is is_free decides s region readable tables key rows here reading is_reading met =
    are_links is_free basis is decides s region readable tables key rows (here_of basis s region readable.listed tables key rows here) met reading is_reading

pub returns-clause-places : goal.returns-clause-places
returns-clause-places c basis is is_free decides s region readable tables shape key rows here reading is_reading met =
    are_places is_free basis is decides s region readable tables key rows (here_of basis s region readable.listed tables key rows here) met reading is_reading shape
