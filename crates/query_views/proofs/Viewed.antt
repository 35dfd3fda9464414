-- What rows at a key tell by the cases of a set, as the query view says it.
use Rattle.std.proofs.Common.{◌≡◌, ◌≢◌, ◌==◌, ◌↔◌, ◌<◌, ℕ, true, map, List, [], ◌∷◌, length, get_or, take, All, Contains, Bool, Option, None, refl, sym, ap, subst, ◌∙◌, arith}
use Rattle.std.specs.List.{AllZip}
use Rattle.std.specs.Option.{option_map_or, unwrap_or}
use Rattle.std.proofs.lemmas.List.Elements.{All-contains, All-head}
use Rattle.std.proofs.lemmas.Option.{slice_get-get_or}
use Rattle.emc_base.proofs.Lists.{item_at}
use Rattle.emc_base.proofs.Mapped.{contains_at}
use Rattle.emc_base.proofs.facts.Zipped.{zip_at}
use Rattle.round_trip.specs.Words.{At, ColId, Row, SetId, TableId, Tables, Value}
use Rattle.regions.specs.Basis.{Basis}
use Rattle.case_laws.specs.region_cases.Cases.{cases_of}
use Rattle.case_laws.specs.region_cases.Meets.{MeetsCase, StandsAtKey}
use Rattle.case_laws.specs.declared.region_cases.case.Case.{Case}
use Rattle.case_laws.specs.candidates.Rows.{AreRowsAt, HasRows}
use Rattle.case_laws.specs.candidates.Viewed.{IsFirstMet, LacksCase}
use Rattle.query_cases.specs.case_reading.Reading.{IsReadingOf}
use Rattle.query_cases.specs.declared.case_reading.reading.Reading.{Reading}
use Rattle.query_views.specs.First.{FindsFirst, IsFirstFound, MeetsBy, cases_in, readings_in}
use Rattle.query_views.specs.Views.{AreQueryViewsOf, IsReaderOf}
use Rattle.query_views.specs.declared.views.Met.{Met}
use Rattle.query_views.specs.declared.views.QueryViews.{QueryViews}
use Rattle.query_views.specs.declared.views.SetReader.{SetReader}
use Rattle.query_views.proofs.Zips.{all_before, zip_beside}

module _ (basis : Basis) (is_free : TableId → ColId → Bool) (tables : Tables) (s : SetId) (key : List Value) where
  -- rows at a key meet a case of the set exactly where they do as it is read
  abbrev pub MeetAsRead : List (TableId × Row) → Type 0
  MeetAsRead rows = (case : Case) → Contains (cases_of is_free basis s) case → (reading : Reading) → IsReadingOf basis case reading
      → MeetsCase basis tables key case ↔ MeetsBy basis rows case reading

  -- where rows meet a case first, they don't lack one
  pub met_not_lacking : (case : Case) → IsFirstMet basis is_free tables s key case → ¬ LacksCase basis is_free tables s key
  met_not_lacking case first lacks =
      All-contains (λ other. ¬ MeetsCase basis tables key other) (cases_of is_free basis s) case lacks.none
      (contains_at (cases_of is_free basis s) first.place case first.is_case) first.meets

  -- some rows at a key are rows there
  pub has_rows : (rows : List (TableId × Row)) → AreRowsAt basis.schema tables s key rows → rows ≢ [] → HasRows basis.schema tables s key
  has_rows [] are some = absurd (some refl)
  has_rows (placed ∷ rows) are some = record {
    whole = are.whole;
    table = placed.0;
    held = placed.1;
    stands = All-head (λ one. StandsAtKey basis.schema tables s key one.0 one.1) placed rows are.stand;
  }

  -- and no rows are none
  pub lacks_rows : (rows : List (TableId × Row)) → AreRowsAt basis.schema tables s key rows → HasRows basis.schema tables s key → rows ≢ []
  lacks_rows [] are has empty = let none = are.all has.table has.held has.stands in absurd (omega (arith, none.1))
  lacks_rows (placed ∷ rows) are has empty = cc

module _ (basis : Basis) (is_free : TableId → ColId → Bool) (views : QueryViews) (are : AreQueryViewsOf basis is_free views) (s : SetId)
    (within : s.index < length basis.schema.model.sets) where
  of_set : (cases : List Case) × At views.cases s.index cases
  of_set = let count = are.cases.count in item_at views.cases s.index (omega (arith, count, within))

  of_reader : (reader : SetReader) × At views.readers s.index reader × IsReaderOf basis of_set.0 reader
  of_reader = zip_beside (IsReaderOf basis) views.cases views.readers s.index of_set.0 are.readers of_set.1

  -- the cases that are looked at are those of the set
  pub cases_are : cases_in views s ≡ cases_of is_free basis s
  cases_are = ap (λ (found : Option (List Case)). unwrap_or found []) of_set.1 ∙ are.cases.each s of_set.0 of_set.1

  readings_are : readings_in views s ≡ of_reader.0.readings
  readings_are = ap (λ (found : Option SetReader). option_map_or (λ reader. reader.readings) found []) of_reader.1

  abbrev IsRead : Case → Reading → Type 0
  IsRead case reading = IsReadingOf basis case reading

  -- and are read by their readings
  are_read : AllZip IsRead (cases_in views s) (readings_in views s)
  are_read =
      let cases : cases_in views s ≡ of_set.0 = ap (λ (found : Option (List Case)). unwrap_or found []) of_set.1 in
      subst (AllZip IsRead (cases_in views s)) (sym readings_are) (subst (λ list. AllZip IsRead list of_reader.0.readings) (sym cases) of_reader.2.readings)

  module _ (tables : Tables) (key : List Value) (rows : List (TableId × Row)) (meet : MeetAsRead basis is_free tables s key rows) where
    among : (i : ℕ) (case : Case) → At (cases_in views s) i case → Contains (cases_of is_free basis s) case
    among i case here = subst (λ list. Contains list case) cases_are (contains_at (cases_in views s) i case here)

    passed : (i : ℕ) (case : Case) → At (cases_in views s) i case → ((reading : Reading) → At (readings_in views s) i reading → ¬ MeetsBy basis rows case reading)
        → ¬ MeetsCase basis tables key case
    passed i case here none meets =
        let reading = zip_beside IsRead (cases_in views s) (readings_in views s) i case are_read here in
        none reading.0 reading.1 ((meet case (among i case here) reading.0 reading.2).0 meets)

    -- the first case that is found is the first that the rows meet, and read so
    pub record IsMetBy (met : Met) : Type 0 where
      pub listed : Contains (cases_of is_free basis s) met.case.now
      pub read : IsRead met.case.now met.reading.now
      pub first_met : IsFirstMet basis is_free tables s key met.case.now

    pub is_met_by : (met : Met) → IsFirstFound basis rows (cases_in views s) (readings_in views s) met → IsMetBy met
    is_met_by met first =
        let case = met.case.now in
        let here = among first.place case first.is_case in
        let read : IsRead case met.reading.now = zip_at IsRead (cases_in views s) (readings_in views s) first.place case met.reading.now are_read first.is_case first.is_reading in
        let Passed : Case → Type 0 = λ other. ¬ MeetsCase basis tables key other in
        record {
          listed = here;
          read = read;
          first_met = record {
            place = first.place;
            is_case = subst (λ list. At list first.place case) cases_are first.is_case;
            meets = (meet case here met.reading.now read).1 first.meets;
            first = subst (λ list. All Passed (take first.place list)) cases_are (all_before Passed (cases_in views s) first.place
                (λ i other below there. passed i other there (λ reading at. first.first i other reading below there at)));
          };
        }

    -- where none is found, the rows meet no case
    pub lack_case : FindsFirst basis rows (cases_in views s) (readings_in views s) None → HasRows basis.schema tables s key → LacksCase basis is_free tables s key
    lack_case none has = record {
      rows = has;
      none = subst (All (λ case. ¬ MeetsCase basis tables key case)) cases_are (λ k d inside.
          (let here : At (cases_in views s) k (get_or (cases_in views s) k d) = slice_get-get_or (cases_in views s) k d inside in
          passed k (get_or (cases_in views s) k d) here (λ reading at. none k (get_or (cases_in views s) k d) reading here at)));
    }

-- a list of length 0
pub no_items : {X : Type 0} (xs : List X) → length xs ≡ 0 → xs ≡ []
no_items [] is = refl
no_items (x ∷ xs) is = absurd (omega (arith, is))

-- the same by a test
pub none_by_length : {X : Type 0} (xs : List X) → (length xs == 0) ≡ true → xs ≡ []
none_by_length xs is = no_items xs (grind (arith, is))

-- images of items are as many
pub some_shown : {X Y : Type 0} (f : X → Y) (xs : List X) → xs ≢ [] → map f xs ≢ []
some_shown f [] some empty = some refl
some_shown f (x ∷ xs) some empty = cc
