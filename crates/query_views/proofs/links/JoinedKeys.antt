-- The keys that are gathered from the rows of an association's own table are those of the links that these rows tell.
use Rattle.std.proofs.Common.{◌≡◌, List, ◌++◌, map, length, Bool, true, false, Contains, refl, sym, ap, subst, ◌∙◌}
use Rattle.std.specs.List.{AllZip}
use Rattle.std.proofs.lemmas.List.{length-map, map-append}
use Rattle.std.proofs.lemmas.List.Elements.{All-contains}
use Rattle.std.proofs.lemmas.Option.{same_Some}
use Rattle.emc_base.specs.Lists.{AreApart}
use Rattle.emc_base.proofs.Lists.{all_from_members, at_once}
use Rattle.emc_base.proofs.Mapped.{contains_map}
use Rattle.emc_base.proofs.facts.Zipped.{zip_long}
use Rattle.round_trip.specs.Words.{Assoc, AssocId, At, ColId, Link, LinkFragment, Pair, PropId, Row, TableId, Tables, Value, cell_of, cells_of, key_props, rows_in, value_beside}
use Rattle.schema_laws.specs.state_demand.Owners.{IsJoinedTo}
use Rattle.regions.specs.Basis.{Basis}
use Rattle.regions.specs.region_laws.IsBasis.{IsBasis}
use Rattle.regions.specs.region_laws.pattern.Allowed.{end_at}
use Rattle.regions.proofs.region_laws.pattern.symbols.Hosting.{side_once}
use Rattle.regions.proofs.region_laws.pattern.symbols.Origins.{side}
use Rattle.case_laws.specs.declared.region_cases.link_case.LinkCase.{LinkCase}
use Rattle.case_laws.specs.candidates.ViewedLinks.{IsJoinedView, ShowsEnd, ShowsKey}
use Rattle.case_laws.specs.Reading.{DecidesFree}
use Rattle.case_laws.proofs.candidate_laws.JoinedCells.{is_case, of_table, pair_there, shown_at, the_case}
use Rattle.case_laws.proofs.lists.Beside.{same_beside}
use Rattle.query_cases.proofs.case_reading.Zips.{beside_item}
use Rattle.query_views.specs.LinkKeys.{AreKeyColumns, IsPairedWith}

module _ (basis : Basis) (is : IsBasis basis) (is_free : TableId → ColId → Bool) (decides : DecidesFree basis.schema is_free) (tables : Tables) (fragment : LinkFragment)
    (assoc : Assoc) (joined : IsJoinedTo basis.schema fragment.table fragment assoc) where
  abbrev t : TableId
  t = fragment.table

  abbrev case : LinkCase
  case = the_case is_free basis is decides t fragment assoc joined

  -- the key properties of an end
  abbrev keys : Bool → List PropId
  keys first = key_props basis.schema.model (end_at first assoc).ty

  module _ (first : Bool) (cols : List ColId) (are : AllZip (IsPairedWith (side first fragment)) (keys first) cols) (row : Row) where
    abbrev held : List Value
    held = cells_of row cols

    long : length held ≡ length (keys first)
    long = length-map cols (cell_of row) ∙ sym (zip_long (IsPairedWith (side first fragment)) (keys first) cols are)

    -- what a row holds in the columns of a key shows the key
    pub shows : ShowsKey basis is_free tables case row first (end_at first assoc) held
    shows = record {
      size = long;
      parts = all_from_members (λ (p : PropId). ShowsEnd basis is_free tables case row first p (value_beside p (keys first) held)) (keys first) (λ p among.
          let found = beside_item (IsPairedWith (side first fragment)) (cell_of row) (keys first) cols are p among in
          (found.item, shown_at is_free basis is decides t fragment assoc joined first (record { prop = p; col = found.item }) found.so, found.is));
    }

    apart : AreApart (keys first)
    apart = by first
      where
        by : (b : Bool) → AreApart (keys b)
        by true = joined.keys.0
        by false = joined.keys.1

    -- a part that is shown stands in the column of its property
    part_is : (p : PropId) → Contains (keys first) p → (value : Value) → ShowsEnd basis is_free tables case row first p value → value ≡ value_beside p (keys first) held
    part_is p among value (col, here, is_value) =
        let pair = pair_there is_free basis is decides t fragment assoc joined col first p here in
        let found = beside_item (IsPairedWith (side first fragment)) (cell_of row) (keys first) cols are p among in
        let one : Pair = record { prop = p; col = found.item } in
        let same : pair.0 ≡ one = side_once basis is fragment joined.is_fragment first pair.0 one pair.1 found.so pair.3 in
        is_value ∙ ap (cell_of row) (sym pair.2 ∙ ap (λ (it : Pair). it.col) same) ∙ sym found.is

    -- and a key that it shows is held there
    pub shown : (key : List Value) → ShowsKey basis is_free tables case row first (end_at first assoc) key → key ≡ held
    shown key shows_key = same_beside (keys first) key held apart shows_key.size long
        (λ p among. part_is p among (value_beside p (keys first) key)
        (All-contains (λ (q : PropId). ShowsEnd basis is_free tables case row first q (value_beside q (keys first) key)) (keys first) p shows_key.parts among))

  module _ (cols : List ColId) (are : AreKeyColumns basis.schema.model assoc fragment cols) where
    -- both keys in the columns of both
    both_held : (row : Row) → cells_of row cols ≡ cells_of row are.first ++ cells_of row are.second
    both_held row = ap (cells_of row) are.are ∙ map-append (cell_of row) are.first are.second

    -- a row tells the link whose keys it holds
    pub row_given : (row : Row) → Contains (rows_in tables t) row
        → (link : Link) × IsJoinedView basis is_free tables fragment.assoc link × (cells_of row cols ≡ link.first ++ link.second)
    row_given row stands =
        let Own : TableId → Type 0 = λ u. IsJoinedTo basis.schema u fragment assoc × Contains (rows_in tables u) row in
        let own : Own case.table = subst Own (sym (of_table is_free basis is decides t fragment assoc joined)) (joined, stands) in (
          record { first = cells_of row are.first; second = cells_of row are.second },
          record {
            case = case;
            is_case = is_case is_free basis is decides t fragment assoc joined;
            own = record { fragment = fragment; assoc = assoc; joined = own.0; of_assoc = refl };
            row = row;
            stands = own.1;
            first = shows true are.first are.of_first row;
            second = shows false are.second are.of_second row;
          },
          both_held row,
        )

    -- and a link that is told has its keys in a row
    pub held_of : (link : Link) → IsJoinedView basis is_free tables fragment.assoc link → Contains (map (λ row. cells_of row cols) (rows_in tables t)) (link.first ++ link.second)
    held_of link view =
        let same_case : view.case ≡ case = same_Some view.case case (sym view.is_case ∙ is_case is_free basis is decides t fragment assoc joined) in
        let same_assoc : view.own.assoc ≡ assoc = at_once basis.schema.model.assocs fragment.assoc.index view.own.assoc assoc
        (let Here : AssocId → Type 0 = λ b. At basis.schema.model.assocs b.index view.own.assoc in subst Here view.own.of_assoc view.own.joined.is_assoc) joined.is_assoc in
        let Shows : Bool → LinkCase → Assoc → List Value → Type 0 = λ first told a key. ShowsKey basis is_free tables told view.row first (end_at first a) key in
        let first : Shows true case assoc link.first = subst (λ a. Shows true case a link.first) same_assoc (subst (λ told. Shows true told view.own.assoc link.first) same_case view.first) in
        let second : Shows false case assoc link.second = subst (λ a. Shows false case a link.second) same_assoc
        (subst (λ told. Shows false told view.own.assoc link.second) same_case view.second) in
        let first_is : link.first ≡ cells_of view.row are.first = shown true are.first are.of_first view.row link.first first in
        let second_is : link.second ≡ cells_of view.row are.second = shown false are.second are.of_second view.row link.second second in
        let Stands : TableId → Type 0 = λ u. Contains (rows_in tables u) view.row in
        let to_table : view.case.table ≡ t = ap (λ (one : LinkCase). one.table) same_case ∙ of_table is_free basis is decides t fragment assoc joined in
        subst (Contains (map (λ row. cells_of row cols) (rows_in tables t))) (both_held view.row ∙ (λ i. sym first_is i ++ sym second_is i))
        (contains_map (λ row. cells_of row cols) (rows_in tables t) view.row (subst Stands to_table view.stands))
