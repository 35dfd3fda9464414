-- The first of some cases that rows meet, as it is found.
-- Source: the query views of Melnik, Adya and Bernstein, SIGMOD 2007.
use Rattle.std.specs.Prelude.{◌<◌, ℕ, List, [], All, slice_get, take, Option, Some, None, unwrap_or}
use Rattle.std.specs.Option.{option_map_or}
use Rattle.round_trip.specs.Words.{SetId, TableId, Row, At}
use Rattle.regions.specs.Basis.{Basis}
use Rattle.case_laws.specs.declared.region_cases.case.Case.{Case}
use Rattle.query_cases.specs.case_cells.Holding.{MayMeet}
use Rattle.query_cases.specs.declared.case_reading.reading.Reading.{Reading}
use Rattle.query_cases.specs.case_reading.Sources.{AgreeTwins}
use Rattle.query_views.specs.declared.views.Met.{Met}
use Rattle.query_views.specs.declared.views.QueryViews.{QueryViews}

module _ (basis : Basis) (rows : List (TableId × Row)) where
  -- the rows meet the case, which is read so
  abbrev pub MeetsBy : Case → Reading → Type 0
  MeetsBy case reading = MayMeet basis case rows × AgreeTwins reading rows

  module _ (cases : List Case) (readings : List Reading) where
    -- they meet none of those before a place
    abbrev pub MeetsNoneBefore : ℕ → Type 0
    MeetsNoneBefore place = (i : ℕ) (case : Case) (reading : Reading) → i < place → At cases i case → At readings i reading → ¬ MeetsBy case reading

    -- the first of the cases that they meet, and how it is read
    pub record IsFirstFound (met : Met) : Type 0 where
      pub place : ℕ
      pub is_case : At cases place met.case.now
      pub is_reading : At readings place met.reading.now
      pub meets : MeetsBy met.case.now met.reading.now
      pub first : MeetsNoneBefore place

    -- the first, or that they meet none
    abbrev pub FindsFirst : Option Met → Type 0
    FindsFirst (Some met) = IsFirstFound met
    FindsFirst None = (i : ℕ) (case : Case) (reading : Reading) → At cases i case → At readings i reading → ¬ MeetsBy case reading

    -- the case at a place, if there is one, isn't met
    abbrev pub IsPassed : ℕ → Type 0
    IsPassed i = (case : Case) (reading : Reading) → At cases i case → At readings i reading → ¬ MeetsBy case reading

    -- the one at the first of these places that they meet, or that they meet none there
    abbrev pub FindsAmong : List ℕ → Option Met → Type 0
    FindsAmong places (Some met) = (i : ℕ) × (place : ℕ) × At places i place × At cases place met.case.now × At readings place met.reading.now
        × MeetsBy met.case.now met.reading.now × All IsPassed (take i places)
    FindsAmong places None = All IsPassed places

-- the cases of a set, and how they are read; none where there is no such set
abbrev pub cases_in : QueryViews → SetId → List Case
cases_in views s = unwrap_or (slice_get views.cases s.index) []

abbrev pub readings_in : QueryViews → SetId → List Reading
readings_in views s = option_map_or (λ reader. reader.readings) (slice_get views.readers s.index) []
