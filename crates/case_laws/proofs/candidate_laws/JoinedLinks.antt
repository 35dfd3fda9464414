-- The rows of a joined association's table tell just the links of the legal state whose tables these are.
use Rattle.std.proofs.Common.{◌≡◌, inl, refl, List, Bool, true, false, length, Contains, Some, sym, ap, subst, ◌∙◌}
use Rattle.std.proofs.lemmas.List.Elements.{All-contains}
use Rattle.emc_base.proofs.Lists.{all_from_members, at_once, item_at}
use Rattle.emc_base.proofs.Numbered.{map_contains}
use Rattle.emc_base.specs.Lists.{AreApart}
use Rattle.round_trip.specs.Words.{TableId, ColId, AssocId, PropId, Value, Assoc, At, Fills, IsErasedRow, IsFree, IsLegal, IsLink, Link, LinkFragment, Pair, Row, State, Table, Tables, cell_of, key_props, links_in, rows_in, value_beside}
use Rattle.schema_laws.specs.sound_demand.ReadBack.{AreRowsOfLinks, IsRowOfLink}
use Rattle.schema_laws.specs.state_demand.Owners.{IsJoinedTo, props_in}
use Rattle.schema_laws.specs.state_demand.Writings.{link_writing}
use Rattle.schema_laws.proofs.sound_demand.Fitting.{link_ids}
use Rattle.schema_laws.proofs.sound_demand.ReadBack.{rows_of_links}
use Rattle.regions.specs.Basis.{Basis}
use Rattle.regions.specs.region_laws.IsBasis.{IsBasis}
use Rattle.regions.specs.region_laws.pattern.Allowed.{end_at}
use Rattle.regions.proofs.region_laws.pattern.symbols.Origins.{side}
use Rattle.host_states.proofs.FewPartners.{gives_part}
use Rattle.population.specs.Supported.{end_key}
use Rattle.case_laws.specs.declared.region_cases.link_case.LinkCase.{LinkCase}
use Rattle.case_laws.specs.declared.region_cases.link_case.LinkCaseCell.TheVariants as cell
use Rattle.case_laws.specs.region_cases.Links.{link_case_of}
use Rattle.case_laws.specs.candidates.ViewedLinks.{IsJoinedView, ShowsEnd, ShowsKey}
use Rattle.case_laws.specs.Reading.{DecidesFree, HasStateTables}
use Rattle.case_laws.proofs.StateRows.{erased_row, held_row}
use Rattle.case_laws.proofs.candidate_laws.JoinedCells.{is_case, of_table, pair_there, shown_at, the_case}
use Rattle.case_laws.proofs.lists.Beside.{same_beside}
use Rattle.case_laws.proofs.shown.Settling.{side_named}

module _ (is_free : TableId → ColId → Bool) (basis : Basis) (is : IsBasis basis) (decides : DecidesFree basis.schema is_free) (state : State)
    (legal : IsLegal basis.schema.model state) (tables : Tables) (has : HasStateTables basis.schema state tables) (t : TableId) (fragment : LinkFragment) (assoc : Assoc)
    (joined : IsJoinedTo basis.schema t fragment assoc) where
  -- the table
  table_there : (table : Table) × At basis.schema.store.tables t.index table
  table_there =
      let P : TableId → Type 0 = λ u. (table : Table) × At basis.schema.store.tables u.index table in
      subst P joined.to_table (item_at basis.schema.store.tables fragment.table.index (link_ids basis.schema is.sound fragment joined.is_fragment).table)

  abbrev table : Table
  table = table_there.0

  rows_are : AreRowsOfLinks basis.schema state has.erased t table fragment assoc
  rows_are = rows_of_links basis.schema is.sound state legal has.erased has.are t table table_there.1 fragment assoc joined

  -- the key properties of an end
  abbrev keys : Bool → List PropId
  keys first = key_props basis.schema.model (end_at first assoc).ty

  -- the row of a link holds the parts of both keys, each in the column of its pair, which isn't free
  module _ (link : Link) (stands : Contains (links_in state fragment.assoc) link) (row : Row) (among : Contains (rows_in has.erased t) row)
      (of_link : IsRowOfLink basis.schema fragment assoc table link row) (held : Row) (erases : IsErasedRow (IsFree basis.schema t) held row) where
    part_held : (first : Bool) (pair : Pair) → Contains (side first fragment) pair → value_beside pair.prop (keys first) (end_key first link) ≡ cell_of held pair.col
    part_held first pair paired =
        sym (rows_are.cells link row stands among of_link pair.col (value_beside pair.prop (keys first) (end_key first link)) (given first paired))
        ∙ erases.rest pair.col (side_named basis is fragment joined.is_fragment t pair.col joined.to_table first pair paired refl)
      where
        given : (b : Bool) → Contains (side b fragment) pair → Fills (link_writing basis.schema.model fragment assoc link) pair.col (value_beside pair.prop (keys b) (end_key b link))
        given true has_pair = inl (gives_part basis.schema.model fragment assoc true link pair has_pair)
        given false has_pair = inl (gives_part basis.schema.model fragment assoc false link pair has_pair)

  -- a part of a key has a pair
  pair_of : (first : Bool) (p : PropId) → Contains (keys first) p → (pair : Pair) × Contains (side first fragment) pair × (pair.prop ≡ p)
  pair_of true p key = map_contains (λ (one : Pair). one.prop) fragment.first p (All-contains (Contains (props_in fragment.first)) (keys true) p joined.first.all key)
  pair_of false p key = map_contains (λ (one : Pair). one.prop) fragment.second p (All-contains (Contains (props_in fragment.second)) (keys false) p joined.second.all key)

  here : (a : AssocId) → fragment.assoc ≡ a → At basis.schema.model.assocs a.index assoc
  here a same = let P : AssocId → Type 0 = λ b. At basis.schema.model.assocs b.index assoc in subst P same joined.is_assoc

  is_link : (link : Link) → Contains (links_in state fragment.assoc) link → IsLink basis.schema.model assoc link
  is_link link stands = All-contains (IsLink basis.schema.model assoc) (links_in state fragment.assoc) link (legal.shape.links fragment.assoc assoc joined.is_assoc) stands

  -- so it shows the keys of its link
  module _ (link : Link) (stands : Contains (links_in state fragment.assoc) link) where
    own : (row : Row) × Contains (rows_in has.erased t) row × IsRowOfLink basis.schema fragment assoc table link row
    own = rows_are.rows link stands

    held_there : (held : Row) × Contains (rows_in tables t) held × IsErasedRow (IsFree basis.schema t) held own.0
    held_there = held_row basis is state tables has t own.0 own.1

    shows_part : (first : Bool) (p : PropId) → Contains (keys first) p
        → ShowsEnd basis is_free tables (the_case is_free basis is decides t fragment assoc joined) held_there.0 first p (value_beside p (keys first) (end_key first link))
    shows_part first p key =
        let pair = pair_of first p key in
        let P : PropId → Type 0 = λ q. ShowsEnd basis is_free tables (the_case is_free basis is decides t fragment assoc joined) held_there.0 first q
        (value_beside q (keys first) (end_key first link)) in
        subst P pair.2 (
          pair.0.col,
          shown_at is_free basis is decides t fragment assoc joined first pair.0 pair.1,
          part_held link stands own.0 own.1 own.2 held_there.0 held_there.2 first pair.0 pair.1,
        )

    shows_key : (first : Bool) → length (end_key first link) ≡ length (keys first)
        → ShowsKey basis is_free tables (the_case is_free basis is decides t fragment assoc joined) held_there.0 first (end_at first assoc) (end_key first link)
    shows_key first size = record {
      size = size;
      parts = all_from_members (λ (p : PropId). ShowsEnd basis is_free tables (the_case is_free basis is decides t fragment assoc joined) held_there.0 first p
          (value_beside p (keys first) (end_key first link))) (keys first) (shows_part first);
    }

    pub row_tells : IsJoinedView basis is_free tables fragment.assoc link
    row_tells =
        let P : TableId → Type 0 = λ u. IsJoinedTo basis.schema u fragment assoc × Contains (rows_in tables u) held_there.0 in
        let in_case : P (the_case is_free basis is decides t fragment assoc joined).table =
        subst P (sym (of_table is_free basis is decides t fragment assoc joined)) (joined, held_there.1) in
        record {
          case = the_case is_free basis is decides t fragment assoc joined;
          is_case = is_case is_free basis is decides t fragment assoc joined;
          own = record { fragment = fragment; assoc = assoc; joined = in_case.0; of_assoc = refl };
          row = held_there.0;
          stands = in_case.1;
          first = shows_key true (is_link link stands).first;
          second = shows_key false (is_link link stands).second;
        }

  -- and a row that shows the keys of a link is this link's
  module _ (link : Link) (case : LinkCase) (is_its : link_case_of is_free basis fragment.assoc ≡ Some case) (held : Row) (stands : Contains (rows_in tables t) held)
      (first : ShowsKey basis is_free tables case held true assoc.first link.first) (second : ShowsKey basis is_free tables case held false assoc.second link.second) where
    same_case : case ≡ the_case is_free basis is decides t fragment assoc joined
    same_case = let same : Some case ≡ Some (the_case is_free basis is decides t fragment assoc joined) = sym is_its ∙ is_case is_free basis is decides t fragment assoc joined in cc

    erased_there : (row : Row) × Contains (rows_in has.erased t) row × IsErasedRow (IsFree basis.schema t) held row
    erased_there = erased_row basis is state tables has t held stands

    its : (other : Link) × Contains (links_in state fragment.assoc) other × IsRowOfLink basis.schema fragment assoc table other erased_there.0
    its = rows_are.links erased_there.0 erased_there.1

    part_is : (b : Bool) (p : PropId) (value : Value) → ShowsEnd basis is_free tables case held b p value → value ≡ value_beside p (keys b) (end_key b its.0)
    part_is b p value (col, at, is_value) =
        let Shows : LinkCase → Type 0 = λ one. At one.cells col.index (cell.End b p) in
        let pair = pair_there is_free basis is decides t fragment assoc joined col b p (subst Shows same_case at) in
        let P : PropId → Type 0 = λ q. cell_of held pair.0.col ≡ value_beside q (keys b) (end_key b its.0) in
        is_value ∙ ap (cell_of held) (sym pair.2)
        ∙ subst P pair.3 (sym (part_held its.0 its.1 erased_there.0 erased_there.1 its.2 held erased_there.2 b pair.0 pair.1))

    first_is : link.first ≡ its.0.first
    first_is = same_beside (keys true) link.first its.0.first joined.keys.0 first.size (is_link its.0 its.1).first
        (λ p key. part_is true p (value_beside p (keys true) link.first)
        (All-contains (λ q. ShowsEnd basis is_free tables case held true q (value_beside q (keys true) link.first)) (keys true) p first.parts key))

    second_is : link.second ≡ its.0.second
    second_is = same_beside (keys false) link.second its.0.second joined.keys.1 second.size (is_link its.0 its.1).second
        (λ p key. part_is false p (value_beside p (keys false) link.second)
        (All-contains (λ q. ShowsEnd basis is_free tables case held false q (value_beside q (keys false) link.second)) (keys false) p second.parts key))

    pub link_stands : Contains (links_in state fragment.assoc) link
    link_stands = let same : its.0 ≡ link = λ k. record { first = sym first_is k; second = sym second_is k } in subst (Contains (links_in state fragment.assoc)) same its.1

-- by the record
pub joined_stands : (is_free : TableId → ColId → Bool) (basis : Basis) (is : IsBasis basis) (decides : DecidesFree basis.schema is_free) (state : State)
    → IsLegal basis.schema.model state → (tables : Tables) → HasStateTables basis.schema state tables → (a : AssocId) (link : Link) → IsJoinedView basis is_free tables a link
    → Contains (links_in state a) link
joined_stands is_free basis is decides state legal tables has a link view =
    let IsCase : AssocId → Type 0 = λ b. link_case_of is_free basis b ≡ Some view.case in
    let Stands : AssocId → Type 0 = λ b. Contains (links_in state b) link in
    subst Stands view.own.of_assoc (link_stands is_free basis is decides state legal tables has view.case.table view.own.fragment view.own.assoc view.own.joined link view.case
    (subst IsCase (sym view.own.of_assoc) view.is_case) view.row view.stands view.first view.second)
