-- The query views of a mapping.
-- Source: the query views of Melnik, Adya and Bernstein, SIGMOD 2007.
use Rattle.std.specs.Prelude.{◌≡◌, List, length, Bool, Contains}
use Rattle.std.specs.List.{AllZip}
use Rattle.round_trip.specs.Words.{SetId, TableId, ColId, At}
use Rattle.regions.specs.Basis.{Basis}
use Rattle.case_laws.specs.declared.region_cases.case.Case.{Case}
use Rattle.case_laws.specs.region_cases.Cases.{cases_of}
use Rattle.query_cases.specs.case_reading.Reading.{IsReadingOf}
use Rattle.query_cases.specs.case_index.Found.{IsIndexOf}
use Rattle.query_views.specs.declared.views.QueryViews.{QueryViews}
use Rattle.query_views.specs.declared.views.SetReader.{SetReader}

-- the cases of each entity set, in the order of the model
pub record AreCases (basis : Basis) (is_free : TableId → ColId → Bool) (cases : List (List Case)) : Type 0 where
  pub count : length cases ≡ length basis.schema.model.sets
  pub each : (s : SetId) (of_set : List Case) → At cases s.index of_set → of_set ≡ cases_of is_free basis s

-- a case of some entity set
abbrev pub IsCaseOf : Basis → (TableId → ColId → Bool) → Case → Type 0
IsCaseOf basis is_free case = (s : SetId) × Contains (cases_of is_free basis s) case

-- how entities are read by these cases, and an index that finds which of them rows may meet
pub record IsReaderOf (basis : Basis) (cases : List Case) (reader : SetReader) : Type 0 where
  pub readings : AllZip (IsReadingOf basis) cases reader.readings
  pub index : IsIndexOf basis cases reader.index

-- the query views of the mapping: its cases, and a reader of those of each set
pub record AreQueryViewsOf (basis : Basis) (is_free : TableId → ColId → Bool) (views : QueryViews) : Type 0 where
  pub cases : AreCases basis is_free views.cases
  pub readers : AllZip (IsReaderOf basis) views.cases views.readers
