-- The first of the cases that rows meet is among those that an index finds, and is the first that is met of these.
use Rattle.std.proofs.Common.{◌≡◌, ◌<◌, ◌≤◌, ⊎_elim, ℕ, List, All, Contains, Option, Some, None, length, get_or, refl, sym, arith}
use Rattle.std.proofs.lemmas.Bool.{cases_lt, cases_eq}
use Rattle.std.proofs.lemmas.List.Elements.{All-contains}
use Rattle.std.proofs.lemmas.Option.{get_or_from_slice_get, slice_get_read, slice_get_within}
use Rattle.round_trip.specs.Words.{At, TableId, Row}
use Rattle.regions.specs.Basis.{Basis}
use Rattle.case_laws.specs.declared.region_cases.case.Case.{Case}
use Rattle.query_cases.specs.declared.case_reading.reading.Reading.{Reading}
use Rattle.query_cases.specs.declared.case_index.index.CaseIndex.{CaseIndex}
use Rattle.query_cases.specs.case_index.Found.{IsIndexOf, found_places}
use Rattle.query_views.specs.declared.views.Met.{Met}
use Rattle.query_views.specs.First.{FindsAmong, FindsFirst, IsFirstFound, IsPassed, MeetsBy}
use Rattle.query_views.proofs.Zips.{before_holds}

module _ (basis : Basis) (rows : List (TableId × Row)) (cases : List Case) (readings : List Reading) (index : CaseIndex) (is : IsIndexOf basis cases index) where
  abbrev found : List ℕ
  found = found_places index rows

  -- a case that the rows meet has its place among the found ones
  place_found : (i : ℕ) (case : Case) (reading : Reading) → At cases i case → MeetsBy basis rows case reading → Contains found i
  place_found i case reading here meets = is.all i case here rows meets.0

  -- the found places rise: one that is below another stands before it
  stands_before : (i j : ℕ) (one other : ℕ) → At found i one → At found j other → one < other → i < j
  stands_before i j one other at_i at_j below = ⊎_elim
      (λ (same : i ≡ j). absurd (let one_is : one ≡ other = by same in omega (arith, below, one_is)))
      (λ not_same. ⊎_elim
      (λ (before : i < j). before)
      (λ (behind : j ≤ i). absurd (let turned : get_or found j one < get_or found i one = is.rising rows j i one (omega (arith, behind, not_same)) (slice_get_within found i one at_i) in
      let first : get_or found j one ≡ other = get_or_from_slice_get found j other one at_j in
      let second : get_or found i one ≡ one = get_or_from_slice_get found i one one at_i in
      omega (arith, turned, first, second, below)))
      (cases_lt i j))
      (cases_eq i j)
    where
      by : i ≡ j → one ≡ other
      by same = cc

  -- the first of the found ones that is met is the first of all
  some_first : (met : Met) → FindsAmong basis rows cases readings found (Some met) → IsFirstFound basis rows cases readings met
  some_first met (i, place, at_place, is_case, is_reading, meets, before) = record {
    place = place;
    is_case = is_case;
    is_reading = is_reading;
    meets = meets;
    first = λ j case reading below here read so.
        (let has = place_found j case reading here so in
        let at_j : At found has.0 j = member_at has in
        before_holds (IsPassed basis rows cases readings) found i before has.0 j (stands_before has.0 i j place at_j at_place below) at_j case reading here read so);
  }
    where
      member_at : {j : ℕ} → (has : Contains found j) → At found has.0 j
      member_at {j} has = slice_get_read found (length found) has.0 j refl has.1 (sym has.2)

  -- where none of the found ones is met, none is
  none_first : All (IsPassed basis rows cases readings) found → FindsFirst basis rows cases readings None
  none_first passed = λ i case reading here read so.
      All-contains (IsPassed basis rows cases readings) found i passed (place_found i case reading here so) case reading here read so

  pub finds_first : (met : Option Met) → FindsAmong basis rows cases readings found met → FindsFirst basis rows cases readings met
  finds_first None passed = none_first passed
  finds_first (Some met) among = some_first met among
