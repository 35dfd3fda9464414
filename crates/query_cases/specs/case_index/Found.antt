-- The cases that an index finds by rows.
-- Source: this project's.
use Rattle.std.specs.Prelude.{◌≡◌, ◌<◌, ℕ, List, [], length, map, All, AllPairs, Contains}
use Rattle.std.specs.BTreeMap.{BTreeMap, get_by}
use Rattle.std.specs.Cmp.Lexicographic.{slice_cmp}
use Rattle.std.specs.Global.{Vec}
use Rattle.std.specs.List.{enumerate_from}
use Rattle.std.specs.Option.{option_map_or}
use Rattle.std.specs.Ordering.{nat_cmp}
use Rattle.round_trip.specs.Words.{TableId, Row, At}
use Rattle.regions.specs.Basis.{Basis}
use Rattle.case_laws.specs.declared.region_cases.case.Case.{Case}
use Rattle.query_cases.specs.case_cells.Holding.{MayMeet}
use Rattle.query_cases.specs.declared.case_index.index.CaseIndex.{CaseIndex}
use Rattle.query_cases.specs.declared.case_index.telling.Column.{Column}
use Rattle.query_cases.specs.case_index.Codes.{case_code, rows_code}

-- a code with a place, and a case's code with the case's place
abbrev pub shown_code : Vec ℕ × ℕ → List ℕ × ℕ
shown_code one = (one.0.items, one.1)

abbrev pub numbered_code : BTreeMap ℕ (Vec Column) → ℕ × Case → List ℕ × ℕ
numbered_code telling numbered = (case_code telling numbered.1, numbered.0)

-- each case's code, with its place, in the order of cases
abbrev pub AreCoded : BTreeMap ℕ (Vec Column) → List Case → List (Vec ℕ × ℕ) → Type 0
AreCoded telling cases coded = map shown_code coded ≡ map (numbered_code telling) (enumerate_from 0 cases)

-- the places that are listed of a code
abbrev pub places_at : BTreeMap (Vec ℕ) (Vec ℕ) → List ℕ → List ℕ
places_at by_code code = option_map_or (λ places. places.items) (get_by (λ key. slice_cmp nat_cmp code key.items) by_code) []

-- those of the rows' code
abbrev pub found_places : CaseIndex → List (TableId × Row) → List ℕ
found_places index rows = places_at index.by_code (rows_code index.telling rows)

-- the index finds all cases that rows may meet
pub record IsIndexOf (basis : Basis) (cases : List Case) (index : CaseIndex) : Type 0 where
  -- each case that the rows may meet is found
  pub all : (i : ℕ) (case : Case) → At cases i case → (rows : List (TableId × Row)) → MayMeet basis case rows → Contains (found_places index rows) i
  -- what is found are places of cases
  pub within : (rows : List (TableId × Row)) → All (λ i. i < length cases) (found_places index rows)
  -- in rising order
  pub rising : (rows : List (TableId × Row)) → AllPairs (λ i j. i < j) (found_places index rows)
