-- What rows at a key tell by the first case that they meet: an entity and its links.
use Rattle.std.proofs.Common.{◌≡◌, List, All, Bool, Contains, sym, subst}
use Rattle.emc_base.proofs.Numbered.{map_contains}
use Rattle.round_trip.specs.Words.{AreLegalTables, ColId, RoundTrips, Row, SetId, TableId, Tables, Value}
use Rattle.cells.specs.Cells.{is_free_in}
use Rattle.cells.specs.Limits.{IsWithinLimits}
use Rattle.cells.specs.Parts.{AreParts, schema_in}
use Rattle.cells.specs.declared.parts.Parts.{Parts}
use Rattle.regions.specs.declared.region.Region.{Region}
use Rattle.regions.specs.Basis.{Basis}
use Rattle.regions.specs.Regions.{regions_of}
use Rattle.regions.specs.region_laws.IsBasis.{IsBasis}
use Rattle.regions.proofs.region_laws.listing.Listed.{set_is}
use Rattle.case_laws.specs.declared.region_cases.case.Case.{Case}
use Rattle.case_laws.specs.region_cases.Cases.{case_of, cases_of}
use Rattle.case_laws.specs.region_cases.Meets.{AreLinksOf, HaveLinksOf, MeetsCase}
use Rattle.case_laws.specs.candidates.Rows.{AreRowsAt}
use Rattle.case_laws.specs.Reading.{DecidesFree}
use Rattle.case_laws.specs.Told.{IsReadable}
use Rattle.case_laws.proofs.candidate_laws.FreeCells.{cells_tell}
use Rattle.case_laws.proofs.reading.ReadBack.{alone_by_keys}
use Rattle.case_laws.proofs.reading.RoundTripping.{readable}
use Rattle.case_laws.proofs.reading.Telling.{listed_links}
use Rattle.query_cases.specs.case_reading.Links.{HasPlace, read_links}
use Rattle.query_cases.specs.case_reading.Reading.{IsReadingOf}
use Rattle.query_cases.specs.declared.case_reading.reading.LinkReading.{LinkReading}
use Rattle.query_cases.specs.declared.case_reading.reading.Reading.{Reading}
use Rattle.query_cases.proofs.case_reading.Linking.{are_links, are_places}

-- cells answer which columns are free
pub cells_decide : (parts : Parts) → AreParts parts → DecidesFree (schema_in parts) (is_free_in parts.cells.now)
cells_decide parts are = record { tells = cells_tell parts are }

module _ (basis : Basis) (is : IsBasis basis) (limits : IsWithinLimits basis.schema) (round : RoundTrips basis.schema) (is_free : TableId → ColId → Bool)
    (decides : DecidesFree basis.schema is_free) (s : SetId) (tables : Tables) (key : List Value) (rows : List (TableId × Row)) (here : AreRowsAt basis.schema tables s key rows)
    (case : Case) (listed : Contains (cases_of is_free basis s) case) (meets : MeetsCase basis tables key case) (reading : Reading) (read : IsReadingOf basis case reading) where
  of_region : (region : Region) × Contains (regions_of basis s) region × (case_of is_free basis region ≡ case)
  of_region = map_contains (case_of is_free basis) (regions_of basis s) case listed

  abbrev region : Region
  region = of_region.0

  can : IsReadable basis s region
  can = readable basis is limits round s region of_region.1

  rows_here : AreRowsAt basis.schema tables region.set key rows
  rows_here = let At : SetId → Type 0 = λ u. AreRowsAt basis.schema tables u key rows in subst At (sym (set_is basis s region of_region.1)) here

  met : MeetsCase basis tables key (case_of is_free basis region)
  met = subst (MeetsCase basis tables key) (sym of_region.2) meets

  read_so : IsReadingOf basis (case_of is_free basis region) reading
  read_so = let Reads : Case → Type 0 = λ one. IsReadingOf basis one reading in subst Reads (sym of_region.2) read

  links_there : AreLinksOf basis tables key (case_of is_free basis region) (read_links reading rows)
  links_there = are_links is_free basis is decides s region can tables key rows rows_here met reading read_so

  -- the links that are read are those of the case, in their order
  pub links_told : AreLinksOf basis tables key case (read_links reading rows)
  links_told = let Tells : Case → Type 0 = λ one. AreLinksOf basis tables key one (read_links reading rows) in subst Tells of_region.2 links_there

  module _ (legal : AreLegalTables basis.schema.store tables) where
    -- and just those
    pub links_are : HaveLinksOf basis tables key case (read_links reading rows)
    links_are =
        let Tells : Case → Type 0 = λ one. HaveLinksOf basis tables key one (read_links reading rows) in
        subst Tells of_region.2 (listed_links is_free basis is decides s region can tables key (record { meets = met; whole = here.whole })
        (alone_by_keys is_free basis is decides s region can tables (record { keys = λ t table at. (legal.rows t table at).keys }) key) (read_links reading rows) links_there)

    -- each part of a link stands in a row
    pub places_are : All (λ (link : LinkReading). All (HasPlace rows) link.parts) reading.links
    places_are = are_places is_free basis is decides s region can tables key rows rows_here met reading read_so legal.shape
