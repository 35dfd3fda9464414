-- Rows at a key against the case of a region: cell by cell, and twin by twin.
use Rattle.std.proofs.Common.{◌≡◌, ◌≢◌, ⊎_elim, ◌<◌, ℕ, List, Bool, length, AllPairs, Any, Contains, refl, sym, ap, subst, ◌∙◌, arith}
use Rattle.std.specs.List.{AllZip}
use Rattle.std.specs.Option.{option_map_or}
use Rattle.std.proofs.lemmas.List.Elements.{All-contains}
use Rattle.std.proofs.lemmas.Option.{slice_get_within}
use Rattle.emc_base.proofs.Lists.{all_from_members, item_at}
use Rattle.emc_base.proofs.Mapped.{contains_at}
use Rattle.emc_base.proofs.Numbered.{all_pairs_map}
use Rattle.emc_base.proofs.facts.Standing.{place_of_member}
use Rattle.emc_base.proofs.facts.Zipped.{zip_long}
use Rattle.round_trip.specs.Words.{TableId, ColId, PropId, Null, Row, Tables, Value, At, cell_of}
use Rattle.schema_laws.proofs.state_demand.lists.Lists.{any_of, of_any, same_by_key}
use Rattle.regions.specs.declared.region.Region.{Region}
use Rattle.regions.specs.declared.pattern.Focus.TheVariants as focus
use Rattle.regions.specs.Basis.{Basis}
use Rattle.regions.specs.Patterns.{pattern_of, writings_of}
use Rattle.regions.proofs.region_laws.writings.Rows.{rows_order}
use Rattle.case_laws.specs.declared.region_cases.case.Case.{Case}
use Rattle.case_laws.specs.declared.region_cases.case.CaseCell.{CaseCell}
use Rattle.case_laws.specs.declared.region_cases.case.CaseCell.TheVariants as cell
use Rattle.case_laws.specs.declared.region_cases.case.CaseRow.{CaseRow}
use Rattle.case_laws.specs.region_cases.Cases.{case_of, case_row}
use Rattle.case_laws.specs.region_cases.Meets.{HasCell, MeetsCase, ShowsValue, StandsHere}
use Rattle.case_laws.specs.candidates.Rows.{AreRowsAt}
use Rattle.query_cases.specs.case_cells.Holding.{MayHold, MayHoldCells, MayMeet}
use Rattle.query_cases.specs.declared.case_reading.reading.CellPlace.{CellPlace}
use Rattle.query_cases.specs.declared.case_reading.reading.Reading.{Reading}
use Rattle.query_cases.specs.declared.case_reading.reading.Twins.{Twins}
use Rattle.query_cases.specs.case_reading.Reading.{IsReadingOf, ShowsAt}
use Rattle.query_cases.specs.case_reading.Sources.{AgreeTwins, cell_at}
use Rattle.query_cases.proofs.case_reading.Zips.{rising_zip, zip_at, zip_members}

module _ (is_free : TableId → ColId → Bool) (basis : Basis) (region : Region) (tables : Tables) (key : List Value) (rows : List (TableId × Row))
    (here : AreRowsAt basis.schema tables region.set key rows) where
  abbrev pub case : Case
  case = case_of is_free basis region

  abbrev pub Stands : TableId → Row → Type 0
  Stands = StandsHere basis tables key case

  abbrev pub Tells : TableId → Row → ColId → CaseCell → Type 0
  Tells = HasCell basis tables key case

  abbrev pub Shows : PropId → Value → Type 0
  Shows = ShowsValue basis tables key case

  abbrev IsOfTable : CaseRow → TableId × Row → Type 0
  IsOfTable row placed = row.table.index ≡ placed.0.index

  abbrev May : CaseRow → TableId × Row → Type 0
  May row placed = (row.table ≡ placed.0) × MayHoldCells basis region row.cells placed.1

  case_rises : AllPairs (λ (one next : CaseRow). one.table.index < next.table.index) case.rows
  case_rises = all_pairs_map (λ (one next : CaseRow). one.table.index < next.table.index) (case_row is_free basis.schema.model region.atoms)
      (pattern_of basis (focus.Entity region)).rows (rows_order basis.schema.store (writings_of basis (focus.Entity region)))

  -- a row of the list stands at the key
  pub stands_at : (placed : TableId × Row) → Contains rows placed → Stands placed.0 placed.1
  stands_at placed has = All-contains (λ (one : TableId × Row). Stands one.0 one.1) rows placed here.stand has

  -- no other row of its table does
  pub alone : (t : TableId) (held : Row) → Stands t held → (placed : TableId × Row) → Contains rows placed → placed.0 ≡ t → placed.1 ≡ held
  alone t held stands placed has same =
      let apart : AllPairs (λ (one later : TableId × Row). one.0.index ≢ later.0.index) rows = λ i j d below within is.
      absurd (let less = here.rising i j d below within in omega (arith, less, is)) in
      let one : placed ≡ (t, held) =
      same_by_key (λ (it : TableId × Row). it.0.index) rows placed (t, held) apart has (here.all t held stands) (ap (λ (u : TableId). u.index) same) in
      ap (λ (it : TableId × Row). it.1) one

  -- of rows beside the case's rows, each by its table
  module _ (beside : AllZip (λ (row : CaseRow) (placed : TableId × Row). row.table ≡ placed.0) case.rows rows) where
    -- the row beside a row of the case
    pub record IsBesideRow (i : ℕ) (row : CaseRow) : Type 0 where
      pub placed : TableId × Row
      pub at : At rows i placed
      pub of_table : row.table ≡ placed.0

    pub row_beside : (i : ℕ) (row : CaseRow) → At case.rows i row → IsBesideRow i row
    row_beside i row at_row =
        let R : CaseRow → TableId × Row → Type 0 = λ row placed. row.table ≡ placed.0 in
        let within : i < length rows = subst (λ n. i < n) (zip_long R case.rows rows beside) (slice_get_within case.rows i row at_row) in
        let found = item_at rows i within in
        record { placed = found.0; at = found.1; of_table = zip_at R case.rows rows beside i row found.0 at_row found.1 }

    -- what is told of a column is told at a place, where the cell is that of the row that stands
    pub record IsPlaced (t : TableId) (held : Row) (col : ColId) (told : CaseCell) : Type 0 where
      pub place : ℕ
      pub row : CaseRow
      pub at_row : At case.rows place row
      pub at_cell : At row.cells col.index told
      pub placed : TableId × Row
      pub at_placed : At rows place placed
      pub is_held : placed.1 ≡ held

    pub placed_of : (t : TableId) (held : Row) (col : ColId) (told : CaseCell) → Tells t held col told → IsPlaced t held col told
    placed_of t held col told has =
        let at_row = place_of_member case.rows has.row has.of_case in
        let found = row_beside has.of_case.0 has.row at_row in
        let among = contains_at rows has.of_case.0 found.placed found.at in
        record {
          place = has.of_case.0;
          row = has.row;
          at_row = at_row;
          at_cell = has.is_cell;
          placed = found.placed;
          at_placed = found.at;
          is_held = alone t held has.stands found.placed among (sym found.of_table ∙ has.of_table);
        }

    -- the cell at a place where a property is shown
    pub cell_read : (place : CellPlace) (placed : TableId × Row) → At rows place.row placed → cell_at rows place ≡ cell_of placed.1 (record { index = place.col })
    cell_read place placed at = ap (λ found. option_map_or (λ (one : TableId × Row). cell_of one.1 (record { index = place.col })) found Null) at

    pub shown_here : (p : PropId) (place : CellPlace) → ShowsAt case p place → Shows p (cell_at rows place)
    shown_here p place shows =
        let found = row_beside place.row shows.row shows.at_row in
        let among = contains_at rows place.row found.placed found.at in
        let col : ColId = record { index = place.col } in (
          found.placed.0,
          found.placed.1,
          col,
          record {
            row = shows.row;
            of_case = contains_at case.rows place.row shows.row shows.at_row;
            of_table = found.of_table;
            stands = stands_at found.placed among;
            is_cell = shows.at_cell;
          },
          cell_read place found.placed found.at,
        )

    -- a value that is shown is that of a cell at a place
    pub record IsShownAt (p : PropId) (value : Value) : Type 0 where
      pub place : CellPlace
      pub shows : ShowsAt case p place
      pub is : value ≡ cell_at rows place

    pub shown_at : (p : PropId) (value : Value) → Shows p value → IsShownAt p value
    shown_at p value (t, held, col, has, is_value) =
        let found = placed_of t held col (cell.Prop p) has in
        let place : CellPlace = record { row = found.place; col = col.index } in
        record {
          place = place;
          shows = record { row = found.row; at_row = found.at_row; at_cell = found.at_cell };
          is = is_value ∙ ap (λ (row : Row). cell_of row col) (sym found.is_held) ∙ sym (cell_read place found.placed found.at_placed);
        }

  tables_beside : MayMeet basis case rows → AllZip (λ (row : CaseRow) (placed : TableId × Row). row.table ≡ placed.0) case.rows rows
  tables_beside may = zip_members May (λ row placed. row.table ≡ placed.0) case.rows rows may (λ row placed has_row has_placed so. so.0)

  -- rows that meet the case
  module _ (met : MeetsCase basis tables key case) where
    held_there : (row : CaseRow) → Contains case.rows row → (placed : TableId × Row) × Contains rows placed × IsOfTable row placed
    held_there row has =
        let held = All-contains (λ (one : CaseRow). (held : Row) × Stands one.table held) case.rows row met.present has in
        ((row.table, held.0), here.all row.table held.0 held.1, refl)

    told_there : (placed : TableId × Row) → Contains rows placed → (row : CaseRow) × Contains case.rows row × IsOfTable row placed
    told_there placed has =
        let found = of_any (λ (row : CaseRow). row.table ≡ placed.0) case.rows (met.absent placed.0 placed.1 (stands_at placed has)) in
        (found.0, found.1, ap (λ (t : TableId). t.index) found.2)

    -- each cell may hold its value
    may_hold : (row : CaseRow) (placed : TableId × Row) → Contains case.rows row → Contains rows placed → row.table ≡ placed.0 → (col : ColId) (told : CaseCell)
        → At row.cells col.index told → MayHold basis region told (cell_of placed.1 col)
    may_hold row placed has_row has_placed of_table col told at_cell = by told (record {
      row = row;
      of_case = has_row;
      of_table = of_table;
      stands = stands_at placed has_placed;
      is_cell = at_cell;
    })
      where
        by : (told : CaseCell) → Tells placed.0 placed.1 col told → MayHold basis region told (cell_of placed.1 col)
        by (cell.Const one) has = met.constants placed.0 placed.1 col one has
        by (cell.Prop p) has = λ declared at. met.values p declared (cell_of placed.1 col) at (placed.0, placed.1, col, has, refl)
        by (cell.Partner assoc p) has = λ declared at. met.parts assoc p declared (cell_of placed.1 col) at (placed.0, placed.1, col, has, refl)
        by cell.Free has = tt

    pub may_meet : MayMeet basis case rows
    may_meet = zip_members IsOfTable May case.rows rows
        (rising_zip (λ (row : CaseRow). row.table.index) (λ (placed : TableId × Row). placed.0.index) case.rows rows case_rises here.rising held_there told_there)
        (λ row placed has_row has_placed so.
        let same : row.table ≡ placed.0 = λ k. record { index = so k } in
        (same, may_hold row placed has_row has_placed same))

    pub besides : AllZip (λ (row : CaseRow) (placed : TableId × Row). row.table ≡ placed.0) case.rows rows
    besides = tables_beside may_meet

    -- and twins agree
    pub twins_agree : (reading : Reading) → IsReadingOf basis case reading → AgreeTwins reading rows
    twins_agree reading is_reading = all_from_members (λ (two : Twins). cell_at rows two.first ≡ cell_at rows two.later) reading.twins
        (λ two has.
        let both = All-contains (λ (two : Twins). (p : PropId) × ShowsAt case p two.first × ShowsAt case p two.later) reading.twins two is_reading.twins has in
        met.one both.0 (cell_at rows two.first) (cell_at rows two.later) (shown_here besides both.0 two.first both.1) (shown_here besides both.0 two.later both.2))

  -- rows whose cells may hold their values, and whose twins agree
  module _ (may : MayMeet basis case rows) (reading : Reading) (is_reading : IsReadingOf basis case reading) (agree : AgreeTwins reading rows) where
    abbrev beside : AllZip (λ (row : CaseRow) (placed : TableId × Row). row.table ≡ placed.0) case.rows rows
    beside = tables_beside may

    -- each cell that is told may hold its value
    cell_may : (t : TableId) (held : Row) (col : ColId) (told : CaseCell) → Tells t held col told → MayHold basis region told (cell_of held col)
    cell_may t held col told has =
        let found = placed_of beside t held col told has in
        let both = zip_at May case.rows rows may found.place found.row found.placed found.at_row found.at_placed in
        subst (λ (row : Row). MayHold basis region told (cell_of row col)) found.is_held (both.1 col told found.at_cell)

    -- the first cell of a property holds what each does
    first_agrees : (p : PropId) (place : CellPlace) → ShowsAt case p place → cell_at rows place ≡ cell_at rows (is_reading.first p)
    first_agrees p place shows = ⊎_elim
        (λ (same : place ≡ is_reading.first p). ap (cell_at rows) same)
        (λ (later : Contains reading.twins (record { first = is_reading.first p; later = place })).
        sym (All-contains (λ (two : Twins). cell_at rows two.first ≡ cell_at rows two.later) reading.twins (record { first = is_reading.first p; later = place }) agree later))
        (is_reading.linked p place shows)

    one_value : (p : PropId) (value other : Value) → Shows p value → Shows p other → value ≡ other
    one_value p value other shown too =
        let one = shown_at beside p value shown in
        let two = shown_at beside p other too in
        one.is ∙ first_agrees p one.place one.shows ∙ sym (first_agrees p two.place two.shows) ∙ sym two.is

    present_row : (row : CaseRow) → Contains case.rows row → (held : Row) × Stands row.table held
    present_row row has =
        let found = row_beside beside has.0 row (place_of_member case.rows row has) in
        let stands = stands_at found.placed (contains_at rows has.0 found.placed found.at) in
        (found.placed.1, subst (λ t. Stands t found.placed.1) (sym found.of_table) stands)

    told_row : (t : TableId) (held : Row) → Stands t held → Any (λ (row : CaseRow). row.table ≡ t) case.rows
    told_row t held stands =
        let R : CaseRow → TableId × Row → Type 0 = λ row placed. row.table ≡ placed.0 in
        let has = here.all t held stands in
        let within : has.0 < length case.rows = subst (λ n. has.0 < n) (sym (zip_long R case.rows rows beside)) has.1 in
        let found = item_at case.rows has.0 within in
        any_of (λ (row : CaseRow). row.table ≡ t) case.rows found.0 (contains_at case.rows has.0 found.0 found.1)
        (zip_at R case.rows rows beside has.0 found.0 (t, held) found.1 (place_of_member rows (t, held) has))

    pub meets_case : MeetsCase basis tables key case
    meets_case = record {
      present = all_from_members (λ (row : CaseRow). (held : Row) × Stands row.table held) case.rows present_row;
      absent = told_row;
      constants = λ t held col value has. cell_may t held col (cell.Const value) has;
      one = one_value;
      values = λ p declared value at shown.
          subst (λ v. MayHold basis region (cell.Prop p) v) (sym shown.4)
          (λ other at_other. cell_may shown.0 shown.1 shown.2 (cell.Prop p) shown.3 other at_other) declared at;
      parts = λ assoc p declared value at shown.
          subst (λ v. MayHold basis region (cell.Partner assoc p) v) (sym shown.4)
          (λ other at_other. cell_may shown.0 shown.1 shown.2 (cell.Partner assoc p) shown.3 other at_other) declared at;
    }
