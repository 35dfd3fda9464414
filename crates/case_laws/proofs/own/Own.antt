-- The rows of an entity meet the case of its region.
use Rattle.std.proofs.Common.{◌≡◌, ◌⊎◌, inl, inr, ⊎_elim, List, [], ◌∷◌, Any, Bool, false, not, Contains, IsTrue, Some, None, refl, sym, ap, subst, ◌∙◌}
use Rattle.emc_base.proofs.Lists.{all_from_members}
use Rattle.emc_base.proofs.Mapped.{contains_map}
use Rattle.emc_base.proofs.Numbered.{map_contains}
use Rattle.round_trip.specs.Words.{SetId, TableId, ColId, AssocId, PropId, Assoc, DemandsRow, Entity, EntityWrites, Fragment, Hosted, InDomain, IsErasedRow, IsFree, IsLegal, IsWritten, Link, LinkFragment, LinkWrites, Null, Prop, Row, State, Table, Tables, Value, Writing, At, cell_of, key_of, row_key, rows_in, value_of}
use Rattle.condition_logic.specs.declared.atoms.Atom.TheVariants as atom
use Rattle.schema_laws.specs.state_demand.Writings.{entity_writing, link_writing}
use Rattle.schema_laws.proofs.state_demand.lists.Lists.{any_of, head_stands}
use Rattle.schema_laws.proofs.state_demand.tables.ReadBack.{cells_demanded, row_demanded}
use Rattle.regions.specs.declared.region.Region.{Region}
use Rattle.regions.specs.declared.pattern.Focus.TheVariants as focus
use Rattle.regions.specs.declared.pattern.PatternRow.{PatternRow}
use Rattle.regions.specs.declared.pattern.Symbol.{Symbol}
use Rattle.regions.specs.declared.pattern.Symbol.TheVariants as symbol
use Rattle.regions.specs.Atoms.{Allows, atom_at}
use Rattle.regions.specs.Basis.{Basis}
use Rattle.regions.specs.Patterns.{Valuation, by_entity, pattern_of}
use Rattle.regions.specs.Regions.{regions_of}
use Rattle.regions.specs.region_laws.IsBasis.{IsBasis}
use Rattle.regions.specs.region_laws.Partners.{HasFewPartners}
use Rattle.regions.proofs.region_laws.listing.Listed.{set_is}
use Rattle.regions.specs.region_laws.pattern.Allowed.{IsAllowed}
use Rattle.regions.specs.region_laws.pattern.Described.{value_in}
use Rattle.regions.specs.region_laws.Held.{IsAtRow, IsHeldAt, LinkedEntity}
use Rattle.regions.proofs.region_laws.pattern.Laws.{listed_from}
use Rattle.regions.proofs.region_laws.pattern.types.Regions.{lies_in}
use Rattle.regions.proofs.region_laws.pattern.symbols.Standing.{listed_prop}
use Rattle.region_states.specs.focus.Held.{HasRow}
use Rattle.region_states.proofs.focus.Partners.{linked_allowed}
use Rattle.case_laws.specs.filled_rows.Demanded.{IsHeldWith}
use Rattle.case_laws.proofs.filled_rows.Partners.{held_with_partners, parts}
use Rattle.conflict_laws.specs.rival.Alike.{IsClear}
use Rattle.conflict_laws.proofs.rival.Atoms.{open_atom}
use Rattle.conflict_laws.proofs.rival.Clear.{known_value}
use Rattle.conflict_laws.proofs.same.rows.Cells.{cell_holds}
use Rattle.conflict_laws.proofs.same.rows.Rows.{HasRowAt, pattern_of_row, row_of_pattern}
use Rattle.case_laws.specs.declared.region_cases.case.Case.{Case}
use Rattle.case_laws.specs.declared.region_cases.case.CaseCell.TheVariants as cell
use Rattle.case_laws.specs.declared.region_cases.case.CaseRow.{CaseRow}
use Rattle.case_laws.specs.region_cases.Cases.{case_of, case_row}
use Rattle.case_laws.specs.region_cases.Meets.{HasCell, MayBe, MeetsCase, ShowsPart, ShowsValue, StandsAtKey}
use Rattle.case_laws.specs.Reading.{DecidesFree, HasStateTables}
use Rattle.case_laws.proofs.shown.Cases.{IsCell, Stands, cell_of_told}
use Rattle.case_laws.proofs.Keys.{key_by_pairing, one_key}
use Rattle.case_laws.proofs.shown.Settling.{not_free, listed_bound, tells_const}
use Rattle.case_laws.proofs.shown.Shown.{AreAlone, ShowsSymbol, end_shown, part_shown, prop_shown}
use Rattle.case_laws.proofs.StateRows.{erased_row, held_row, key_kept, one_row}

-- the table of a row that is demanded is written
pub written_of : (basis : Basis) (state : State) (t : TableId) (key : List Value) → DemandsRow basis.schema state t key → IsWritten basis.schema.mapping t
written_of basis state t key (writing, to_row) = ⊎_elim
    (λ (by : (fragment : Fragment) × (entity : Entity) × EntityWrites basis.schema state fragment entity × (writing ≡ entity_writing basis.schema.model fragment entity)).
    inl (any_of (λ (one : Fragment). one.table ≡ t) basis.schema.mapping.fragments by.0 by.2.mapped (sym (ap (λ (one : Writing). one.table) by.3) ∙ to_row.to_table)))
    (λ (by : (fragment : LinkFragment) × (assoc : Assoc) × (link : Link) × LinkWrites basis.schema state fragment assoc link
    × (writing ≡ link_writing basis.schema.model fragment assoc link)).
    inr (any_of (λ (one : LinkFragment). one.table ≡ t) basis.schema.mapping.links by.0 by.3.mapped (sym (ap (λ (one : Writing). one.table) by.4) ∙ to_row.to_table)))
    to_row.writes

-- no two rows of one table of a state stand at a key
pub alone_in_tables : (is_free : TableId → ColId → Bool) (basis : Basis) (is : IsBasis basis) (decides : DecidesFree basis.schema is_free) (state : State) (tables : Tables)
    → HasStateTables basis.schema state tables → (s : SetId) (region : Region) (listed : Contains (regions_of basis s) region) (clear : IsClear basis region) (key : List Value)
    → AreAlone is_free basis is decides s region listed clear tables key
alone_in_tables is_free basis is decides state tables has s region listed clear key t one other stands too =
    one_row basis is state tables has t stands.table stands.is_table stands.written one other stands.stands too.stands
    (one_key basis.schema is.sound region.set tables key t one stands other too)

module _ (is_free : TableId → ColId → Bool) (basis : Basis) (is : IsBasis basis) (decides : DecidesFree basis.schema is_free) (state : State)
    (legal : IsLegal basis.schema.model state) (tables : Tables) (has : HasStateTables basis.schema state tables) (s : SetId) (few : HasFewPartners basis s) (entity : Entity)
    (links : List Hosted) (region : Region) (held : IsHeldWith basis state s entity links region) (clear : IsClear basis region) where
  abbrev pub key : List Value
  key = key_of basis.schema.model entity

  abbrev case : Case
  case = case_of is_free basis region

  abbrev pub part : AssocId → Bool → PropId → Value
  part = parts basis is state s entity links region held

  pub held_at : IsHeldAt basis state s entity region part
  held_at = held_with_partners basis is state s entity links region held legal few

  abbrev linked : LinkedEntity basis
  linked = record { state = state; legal = legal; s = s; entity = entity; region = region; part = part; held = held_at }

  abbrev pub values : Valuation
  values = by_entity basis.schema.model entity part

  pub allowed : IsAllowed basis region values
  allowed = linked_allowed basis is linked

  abbrev StandsHere : TableId → Row → Type 0
  StandsHere = Stands is_free basis region tables key

  abbrev StandsOf : SetId → TableId → Row → Type 0
  StandsOf u = StandsAtKey basis.schema tables u key

  of_set : (t : TableId) (row : Row) → StandsHere t row → StandsOf s t row
  of_set t row stands = subst (λ u. StandsOf u t row) (set_is basis s region held.listed) stands

  -- a row at the key is one of the entity, but for its free cells
  record IsRowHere (t : TableId) (row : Row) : Type 0 where
    pub table : Table
    pub is_table : At basis.schema.store.tables t.index table
    pub erased : Row
    pub among : Contains (rows_in has.erased t) erased
    pub erases : IsErasedRow (IsFree basis.schema t) row erased
    pub at_row : IsAtRow basis state s entity t (row_key table erased)

  row_here : (t : TableId) (row : Row) → StandsHere t row → IsRowHere t row
  row_here t row stands =
      let at = of_set t row stands in
      let found = erased_row basis is state tables has t row at.stands in
      record {
        table = at.table;
        is_table = at.is_table;
        erased = found.0;
        among = found.1;
        erases = found.2;
        at_row = record {
          pairing = at.pairing;
          owned = at.owned;
          at = record {
            stands = held.stands;
            at_key = sym (key_by_pairing basis.schema is.sound s state legal entity held.stands t at.pairing at.owned) ∙ sym at.at_key
                ∙ key_kept basis is state tables has t at.table at.is_table at.written row found.0 found.2;
          };
        };
      }

  -- and the other way
  stands_here : (t : TableId) → HasRowAt basis state has.erased s entity t → (row : Row) × StandsHere t row
  stands_here t at =
      let found = held_row basis is state tables has t at.row at.among in
      let written = written_of basis state t (row_key at.table at.row) (row_demanded basis.schema state has.erased has.are t at.table at.is_table at.row at.among) in
      let stands : StandsOf s t found.0 = record {
        pairing = at.at_row.pairing;
        table = at.table;
        written = written;
        owned = at.at_row.owned;
        is_table = at.is_table;
        stands = found.1;
        at_key = key_kept basis is state tables has t at.table at.is_table written found.0 at.row found.2 ∙ sym at.at_row.at.at_key
            ∙ sym (key_by_pairing basis.schema is.sound s state legal entity held.stands t at.at_row.pairing at.at_row.owned);
      } in
      (found.0, subst (λ u. StandsOf u t found.0) (sym (set_is basis s region held.listed)) stands)

  -- no two stand there
  pub are_alone : AreAlone is_free basis is decides s region held.listed clear tables key
  are_alone = alone_in_tables is_free basis is decides state tables has s region held.listed clear key

  -- a cell that isn't free holds what the pattern says
  pub cell_value : (t : TableId) (row : Row) → StandsHere t row → (col : ColId) (symbols : List Symbol) → IsCell basis region t col symbols → is_free t col ≡ false
      → cell_of row col ≡ value_in values symbols
  cell_value t row stands col symbols has_cell bound =
      let at = row_here t row stands in
      sym (at.erases.rest col (not_free basis is is_free decides t col bound))
      ∙ cell_holds basis is linked clear t at.table at.is_table at.erased at.at_row
      (cells_demanded basis.schema state has.erased has.are t at.table at.is_table at.erased at.among) col symbols has_cell

  -- and so what is shown is the symbol's value
  pub symbol_value : (one : Symbol) (value : Value) → ShowsSymbol is_free basis is decides s region held.listed clear tables key one value → value ≡ value_in values (one ∷ [])
  symbol_value one value by = by.is_value ∙ cell_value by.t by.held by.stands by.col (one ∷ []) by.has
      (listed_bound basis is is_free decides region by.t by.col (one ∷ []) by.has one (head_stands one []))

  pub prop_value : (p : PropId) (value : Value) → ShowsValue basis tables key case p value → value ≡ value_of basis.schema.model entity p
  prop_value p value shown = symbol_value (symbol.Prop p) value (prop_shown is_free basis is decides s region held.listed clear tables key p value shown)

  abbrev row_of : PatternRow → CaseRow
  row_of = case_row is_free basis.schema.model region.atoms

  abbrev rows : List PatternRow
  rows = (pattern_of basis (focus.Entity region)).rows

  present_row : (row : CaseRow) → Contains case.rows row → (one : Row) × StandsHere row.table one
  present_row row among =
      let made = map_contains row_of rows row among in
      let P : CaseRow → Type 0 = λ one. (found : Row) × StandsHere one.table found in
      subst P made.2 (stands_here made.0.table
      (row_of_pattern basis is linked has.erased has.are made.0.table (made.0, made.1, refl)))

  absent_row : (t : TableId) (row : Row) → StandsHere t row → Any (λ one. one.table ≡ t) case.rows
  absent_row t row stands =
      let at = row_here t row stands in
      let there : HasRow (pattern_of basis (focus.Entity region)) t = pattern_of_row basis is linked has.erased has.are t (record {
        table = at.table;
        is_table = at.is_table;
        row = at.erased;
        among = at.among;
        at_row = at.at_row;
      }) in
      any_of (λ (one : CaseRow). one.table ≡ t) case.rows (row_of there.0) (contains_map row_of rows there.0 there.1) there.2

  constant_held : (t : TableId) (row : Row) (col : ColId) (value : Value) → HasCell basis tables key case t row col (cell.Const value) → cell_of row col ≡ value
  constant_held t row col value tells =
      let found = cell_of_told is_free basis region tables key t row col (cell.Const value) tells in
      let told = tells_const is_free basis region t col found.0 value (sym found.2) in
      cell_value t row tells.stands col found.0 found.1 told.0
      ∙ known_value basis region clear t col found.0 found.1 is s held.listed values allowed value told.1

  -- a property that is shown may have its value
  value_allowed : (p : PropId) (declared : Prop) (value : Value) → At basis.schema.model.props p.index declared → ShowsValue basis tables key case p value
      → MayBe basis tables key case p declared value
  value_allowed p declared value here shown =
      let by = prop_shown is_free basis is decides s region held.listed clear tables key p value shown in
      let from = listed_from basis is (focus.Entity region) by.t by.col (symbol.Prop p) (symbol.Prop p ∷ [], by.has, head_stands (symbol.Prop p) []) in
      let same : value_of basis.schema.model entity p ≡ value = sym (prop_value p value shown) in
      let P : Value → Type 0 = λ v. MayBe basis tables key case p declared v in
      subst P same (
        either (allowed.props p declared (listed_prop basis is s region held.listed by.t by.col p from) here)
            (open_atom basis.schema.model region.atoms p by.nullable by.several),
        λ other. lies_in basis region values allowed p atom.Other other,
      )
    where
      either : Allows declared (value_of basis.schema.model entity p) → (atom_at region.atoms p ≡ None) ⊎ (atom_at region.atoms p ≡ Some atom.Other)
          → InDomain (value_of basis.schema.model entity p) declared.kind
          ⊎ ((value_of basis.schema.model entity p ≡ Null) × (atom_at region.atoms p ≡ None) × IsTrue declared.nullable)
      either (inr domain) told = inl domain
      either (inl (null, nullable)) (inl none) = inr (null, none, nullable)
      either (inl (null, nullable)) (inr other) = absurd ((lies_in basis region values allowed p atom.Other other).0 null)

  part_allowed : (a : AssocId) (p : PropId) (declared : Prop) (value : Value) → At basis.schema.model.props p.index declared → ShowsPart basis tables key case a p value
      → InDomain value declared.kind
  part_allowed a p declared value here shown =
      let by = part_shown is_free basis is decides s region held.listed clear tables key a p value shown in
      let end = end_shown is_free basis is decides s region held.listed clear tables key a by.0 p value by.1 in
      let same : part end.host.assoc (not end.host.first_hosts) p ≡ value =
      (λ k. part (end.of_assoc k) (sym end.partner k) p) ∙ sym (symbol_value (symbol.End a by.0 p) value by.1) in
      let P : Value → Type 0 = λ v. InDomain v declared.kind in
      subst P same (allowed.parts end.host end.assoc end.is_host end.linked end.here p declared end.among here)

  pub meets : MeetsCase basis tables key case
  meets = record {
    present = all_from_members (λ (row : CaseRow). (one : Row) × StandsHere row.table one) case.rows present_row;
    absent = absent_row;
    constants = constant_held;
    one = λ p value other shown too. prop_value p value shown ∙ sym (prop_value p other too);
    values = value_allowed;
    parts = part_allowed;
  }
