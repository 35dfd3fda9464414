-- The links that rows at a key tell by a case that they meet are those that are read.
use Rattle.std.proofs.Common.{◌≡◌, ⊎_elim, ◌<◌, List, [], ◌∷◌, map, length, All, Bool, not, false, Contains, refl, sym, ap, subst, ◌∙◌}
use Rattle.std.specs.List.{AllZip}
use Rattle.std.proofs.lemmas.List.{length-map}
use Rattle.std.proofs.lemmas.List.Elements.{All-contains}
use Rattle.std.proofs.lemmas.Option.{slice_get_within}
use Rattle.emc_base.proofs.Lists.{all_from_members, at_once}
use Rattle.emc_base.proofs.Mapped.{contains_at}
use Rattle.emc_base.proofs.facts.Standing.{place_of_member}
use Rattle.emc_base.proofs.facts.Zipped.{zip_long, zipped_right}
use Rattle.round_trip.specs.Words.{AreTables, AssocId, ColId, Hosted, PropId, Row, SetId, Table, TableId, Tables, Value, cell_of, key_props, rows_in, value_beside}
use Rattle.regions.specs.declared.region.Region.{Region}
use Rattle.regions.specs.declared.pattern.Focus.TheVariants as focus
use Rattle.regions.specs.declared.pattern.Symbol.{Symbol}
use Rattle.regions.specs.declared.pattern.Symbol.TheVariants as symbol
use Rattle.regions.specs.Basis.{Basis, Host, partner_end}
use Rattle.regions.specs.Patterns.{writings_of}
use Rattle.regions.specs.Settled.{multi, possible}
use Rattle.regions.specs.region_laws.IsBasis.{IsBasis}
use Rattle.regions.proofs.region_laws.pattern.Cells.{cell_of as column_of}
use Rattle.case_laws.specs.declared.region_cases.case.Case.{Case}
use Rattle.case_laws.specs.declared.region_cases.case.CaseCell.TheVariants as cell
use Rattle.case_laws.specs.region_cases.Cases.{case_of}
use Rattle.case_laws.specs.region_cases.Meets.{AreLinksOf, HasCell, IsLinkOf, MeetsCase, ShowsPart}
use Rattle.case_laws.specs.candidates.Rows.{AreRowsAt}
use Rattle.case_laws.specs.Reading.{DecidesFree}
use Rattle.case_laws.specs.Told.{IsReadable}
use Rattle.case_laws.proofs.shown.Cases.{cell_of_told}
use Rattle.case_laws.proofs.shown.Links.{part_listed}
use Rattle.case_laws.proofs.shown.Present.{present_cell}
use Rattle.case_laws.proofs.shown.Shown.{shows, shows_part}
use Rattle.query_cases.specs.declared.case_reading.reading.CellPlace.{CellPlace}
use Rattle.query_cases.specs.declared.case_reading.reading.LinkReading.{LinkReading}
use Rattle.query_cases.specs.declared.case_reading.reading.Reading.{Reading}
use Rattle.query_cases.specs.case_reading.Links.{HasPlace, IsLinkReading, IsPartPlace, ShowsPartAt, read_link, read_links}
use Rattle.query_cases.specs.case_reading.Reading.{IsReadingOf}
use Rattle.query_cases.specs.case_reading.Sources.{cell_at}
use Rattle.query_cases.proofs.case_reading.CellByCell.{besides, cell_read, placed_of, row_beside, stands_at}
use Rattle.query_cases.proofs.case_reading.Zips.{beside_item, zip_members}

-- what is made of the second of two lists
zip_made : {X Y Z : Type 0} (R : X → Z → Type 0) (f : Y → Z) (xs : List X) (ys : List Y) → AllZip (λ x y. R x (f y)) xs ys → AllZip R xs (map f ys)
zip_made R f [] [] zip = tt
zip_made R f [] (y ∷ ys) zip = absurd zip
zip_made R f (x ∷ xs) [] zip = absurd zip
zip_made R f (x ∷ xs) (y ∷ ys) zip = (zip.0, zip_made R f xs ys zip.1)

-- what is so of each of the second
zip_each : {X Y : Type 0} (R : X → Y → Type 0) (P : Y → Type 0) (xs : List X) (ys : List Y) → AllZip R xs ys → ((x : X) (y : Y) → Contains xs x → R x y → P y) → All P ys
zip_each R P xs ys zip each = all_from_members P ys (λ y has.
    let found = zipped_right R xs ys zip has.0 y (place_of_member ys y has) in
    each found.0 y (contains_at xs has.0 found.0 found.1) found.2)

module _ (is_free : TableId → ColId → Bool) (basis : Basis) (is : IsBasis basis) (decides : DecidesFree basis.schema is_free) (s : SetId) (region : Region)
    (readable : IsReadable basis s region) (tables : Tables) (key : List Value) (rows : List (TableId × Row)) (here : AreRowsAt basis.schema tables region.set key rows)
    (met : MeetsCase basis tables key (case_of is_free basis region)) where
  abbrev case : Case
  case = case_of is_free basis region

  abbrev Shown : AssocId → PropId → Value → Type 0
  Shown = ShowsPart basis tables key case

  -- a place that shows a part reads the cell of the row that stands there
  part_here : (a : AssocId) (p : PropId) (place : CellPlace) → ShowsPartAt case a p place → Shown a p (cell_at rows place)
  part_here a p place shows =
      let found = row_beside is_free basis region tables key rows here (besides is_free basis region tables key rows here met) place.row shows.row shows.at_row in
      let among = contains_at rows place.row found.placed found.at in
      let col : ColId = record { index = place.col } in (
        found.placed.0,
        found.placed.1,
        col,
        record {
          row = shows.row;
          of_case = contains_at case.rows place.row shows.row shows.at_row;
          of_table = found.of_table;
          stands = stands_at is_free basis region tables key rows here found.placed among;
          is_cell = shows.at_cell;
        },
        cell_read is_free basis region tables key rows here (besides is_free basis region tables key rows here met) place found.placed found.at,
      )

  -- what is shown is shown at a place
  shown_place : (a : AssocId) (p : PropId) (value : Value) → Shown a p value → (place : CellPlace) × ShowsPartAt case a p place
  shown_place a p value (t, held, col, has, is_value) =
      let found = placed_of is_free basis region tables key rows here (besides is_free basis region tables key rows here met) t held col (cell.Partner a p) has in
      (record { row = found.place; col = col.index }, record { row = found.row; at_row = found.at_row; at_cell = found.at_cell })

  -- the row that stands there has a cell for each column of its table
  place_there : AreTables basis.schema.store tables → (a : AssocId) (p : PropId) (place : CellPlace) → ShowsPartAt case a p place → HasPlace rows place
  place_there shape a p place shows =
      let found = row_beside is_free basis region tables key rows here (besides is_free basis region tables key rows here met) place.row shows.row shows.at_row in
      let t : TableId = found.placed.0 in
      let held : Row = found.placed.1 in
      let col : ColId = record { index = place.col } in
      let stands = stands_at is_free basis region tables key rows here found.placed (contains_at rows place.row found.placed found.at) in
      let has : HasCell basis tables key case t held col (cell.Partner a p) = record {
        row = shows.row;
        of_case = contains_at case.rows place.row shows.row shows.at_row;
        of_table = found.of_table;
        stands = stands;
        is_cell = shows.at_cell;
      } in
      let told = cell_of_told is_free basis region tables key t held col (cell.Partner a p) has in
      let column = column_of basis.schema.store (writings_of basis (focus.Entity region)) t col told.0 told.1 in
      let long : length held.cells ≡ length stands.table.cols = All-contains (λ (row : Row). length row.cells ≡ length stands.table.cols) (rows_in tables t) held
      (shape.rows t stands.table stands.is_table) stands.stands in
      let same : column.table ≡ stands.table = at_once basis.schema.store.tables t.index column.table stands.table column.is_table stands.is_table in
      let within : place.col < length column.table.cols = slice_get_within column.table.cols place.col column.column column.is_column in
      record {
        placed = found.placed;
        at_row = found.at;
        within = subst (λ n. place.col < n) (ap (λ (table : Table). length table.cols) same ∙ sym long) within;
      }

  -- of a link that is there
  module _ (a : AssocId) (link : LinkReading) (linked : Contains region.linked a) (read : IsLinkReading basis case a link) where
    abbrev keys : List PropId
    keys = key_props basis.schema.model (partner_end read.host.first_hosts read.assoc).ty

    -- each part of the partner's key is shown
    part_there : (p : PropId) → Contains keys p → (value : Value) × Shown a p value
    part_there p among =
        let host : Host = read.host in
        let flagged : Contains region.linked host.assoc = subst (Contains region.linked) (sym read.same_assoc) linked in
        let found = part_listed basis is s region readable.listed host read.is_host flagged read.assoc read.is_assoc p among in
        let one : Symbol = symbol.End host.assoc (not host.first_hosts) p in
        let row = present_cell is_free basis region tables key met found.0 found.1 found.2 found.3 in
        let several : possible basis.schema.model region.atoms one ≡ multi false = refl in
        let shown = shows is_free basis is decides s region readable.listed readable.clear tables key found.0 row.0 row.1 found.1 found.2 found.3 one found.4 false several in
        let value : Value = cell_of row.0 found.1 in
        let part : Shown host.assoc p value = shows_part is_free basis is decides s region readable.listed readable.clear tables key host.assoc (not host.first_hosts) p value shown in
        (value, subst (λ (b : AssocId). Shown b p value) read.same_assoc part)

    -- so it is read where it is shown
    part_read : (p : PropId) → Contains keys p → (place : CellPlace) → IsPartPlace case a p place → ShowsPartAt case a p place
    part_read p among place so = ⊎_elim
        (λ (shows : ShowsPartAt case a p place). shows)
        (λ (never : (other : CellPlace) → ¬ ShowsPartAt case a p other).
        let shown = part_there p among in
        let found = shown_place a p shown.0 shown.1 in
        absurd (never found.0 found.1))
        so

    part_is : (p : PropId) → Contains keys p → Shown a p (value_beside p keys (map (cell_at rows) link.parts))
    part_is p among =
        let found = beside_item (IsPartPlace case a) (cell_at rows) keys link.parts read.parts p among in
        subst (Shown a p) (sym found.is) (part_here a p found.item (part_read p among found.item found.so))

    link_is : (link.assoc ≡ a) × IsLinkOf basis tables key case (read_link rows link)
    link_is =
        let back : a ≡ link.assoc = sym read.of_assoc in
        let P : AssocId → Type 0 = λ b. All (λ p. Shown b p (value_beside p keys (map (cell_at rows) link.parts))) keys in (
          read.of_assoc,
          record {
            linked = subst (Contains region.linked) back linked;
            host = read.host;
            assoc = read.assoc;
            is_host = read.is_host;
            of_assoc = read.same_assoc ∙ back;
            is_assoc = read.is_assoc;
            size = length-map link.parts (cell_at rows) ∙ sym (zip_long (IsPartPlace case a) keys link.parts read.parts);
            parts = subst P back (all_from_members (λ (p : PropId). Shown a p (value_beside p keys (map (cell_at rows) link.parts))) keys part_is);
          },
        )

    places_are : AreTables basis.schema.store tables → All (HasPlace rows) link.parts
    places_are shape = zip_each (IsPartPlace case a) (HasPlace rows) keys link.parts read.parts
        (λ p place among so. place_there shape a p place (part_read p among place so))

  module _ (reading : Reading) (is_reading : IsReadingOf basis case reading) where
    abbrev IsRead : AssocId → Hosted → Type 0
    IsRead a hosted = (hosted.assoc ≡ a) × IsLinkOf basis tables key case hosted

    pub are_links : AreLinksOf basis tables key case (read_links reading rows)
    are_links = zip_made IsRead (read_link rows) region.linked reading.links
        (zip_members (IsLinkReading basis case) (λ a link. IsRead a (read_link rows link)) region.linked reading.links is_reading.links
        (λ a link linked among read. link_is a link linked read))

    pub are_places : AreTables basis.schema.store tables → All (λ (link : LinkReading). All (HasPlace rows) link.parts) reading.links
    are_places shape = zip_each (IsLinkReading basis case) (λ (link : LinkReading). All (HasPlace rows) link.parts) region.linked reading.links is_reading.links
        (λ a link linked read. places_are a link linked read shape)
