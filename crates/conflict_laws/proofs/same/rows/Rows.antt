-- In states with the same tables, entities of one key stand at the same rows, and so they are written alike.
use Rattle.std.proofs.Common.{◌≡◌, List, Bool, Contains, refl, sym, subst, ◌∙◌}
use Rattle.std.proofs.lemmas.List.Sorted.{Contains-permutation, IsPermutation-sym}
use Rattle.round_trip.specs.Words.{SetId, TableId, AssocId, PropId, AreSameTables, DemandsRow, Entity, IsLegal, Pair, Row, State, Table, Tables, TablesAre, Value, At, entities_in, key_of, row_key, rows_in}
use Rattle.schema_laws.specs.state_demand.Owners.{IsOwned, paired_key}
use Rattle.schema_laws.proofs.state_demand.lists.Lists.{of_any}
use Rattle.schema_laws.proofs.state_demand.tables.ReadBack.{cells_demanded, row_demanded, rows_demanded}
use Rattle.schema_laws.proofs.sound_demand.ReadBack.{rows_of}
use Rattle.regions.specs.declared.region.Region.{Region}
use Rattle.regions.specs.declared.pattern.Focus.TheVariants as focus
use Rattle.regions.specs.Basis.{Basis}
use Rattle.regions.specs.Patterns.{by_entity, pattern_of}
use Rattle.regions.specs.region_laws.IsBasis.{IsBasis}
use Rattle.regions.specs.region_laws.Held.{IsAtRow, IsHeldAt, LinkedEntity}
use Rattle.region_states.specs.focus.Held.{HasRow}
use Rattle.region_states.proofs.focus.Demanded.{rows}
use Rattle.region_states.proofs.focus.Listed.{row_owned}
use Rattle.conflict_laws.specs.rival.Alike.{AreWrittenAlike, IsClear}
use Rattle.conflict_laws.proofs.same.rows.Cells.{cell_holds}
use Rattle.conflict_laws.proofs.same.states.Legal.{at_same_row, key_by_row}

-- a row of the table at which the entity stands
pub record HasRowAt (basis : Basis) (state : State) (tables : Tables) (s : SetId) (x : Entity) (t : TableId) : Type 0 where
  pub table : Table
  pub is_table : At basis.schema.store.tables t.index table
  pub row : Row
  pub among : Contains (rows_in tables t) row
  pub at_row : IsAtRow basis state s x t (row_key table row)

module _ (basis : Basis) (is : IsBasis basis) (linked : LinkedEntity basis) (tables : Tables) (are : TablesAre basis.schema linked.state tables) (t : TableId) where
  -- where the pattern has a row the entity has one
  pub row_of_pattern : HasRow (pattern_of basis (focus.Entity linked.region)) t → HasRowAt basis linked.state tables linked.s linked.entity t
  row_of_pattern (row, has, to) =
      let Owned : TableId → Type 0 = λ u. (table : Table) × (pairing : List Pair) × At basis.schema.store.tables u.index table × IsOwned basis.schema u linked.s pairing in
      let owned : Owned t = subst Owned to (row_owned basis is linked.s linked.region linked.held.listed row has) in
      let key : List Value = paired_key basis.schema.model owned.1 linked.entity in
      let at : IsAtRow basis linked.state linked.s linked.entity t key = record { pairing = owned.1; owned = owned.3; at = record { stands = linked.held.stands; at_key = refl } } in
      let demand : DemandsRow basis.schema linked.state t key = (rows basis is linked t key at).1 (row, has, to) in
      let found = of_any (λ (one : Row). row_key owned.0 one ≡ key) (rows_in tables t) ((rows_demanded basis.schema linked.state tables are t owned.0 owned.2).all key demand) in
      record { table = owned.0; is_table = owned.2; row = found.0; among = found.1; at_row = subst (IsAtRow basis linked.state linked.s linked.entity t) (sym found.2) at }

  -- and the other way
  pub pattern_of_row : HasRowAt basis linked.state tables linked.s linked.entity t → HasRow (pattern_of basis (focus.Entity linked.region)) t
  pattern_of_row by = (rows basis is linked t (row_key by.table by.row) by.at_row).0
      (row_demanded basis.schema linked.state tables are t by.table by.is_table by.row by.among)

-- two legal states with their tables, which are the same
pub record HaveSameTables (basis : Basis) (c d : State) (tables others : Tables) : Type 0 where
  pub legal_c : IsLegal basis.schema.model c
  pub legal_d : IsLegal basis.schema.model d
  pub are_c : TablesAre basis.schema c tables
  pub are_d : TablesAre basis.schema d others
  pub same : AreSameTables tables others

-- seen from the other state they are the same
pub turned : (basis : Basis) (c d : State) (tables others : Tables) → HaveSameTables basis c d tables others → HaveSameTables basis d c others tables
turned basis c d tables others have = record {
  legal_c = have.legal_d;
  legal_d = have.legal_c;
  are_c = have.are_d;
  are_d = have.are_c;
  same = λ t. IsPermutation-sym (rows_in tables t) (rows_in others t) (have.same t);
}

module _ (basis : Basis) (is : IsBasis basis) (c d : State) (tables others : Tables) (have : HaveSameTables basis c d tables others) (s : SetId) (x : Entity) (t : TableId)
    (by : HasRowAt basis c tables s x t) where
  -- its row is one of the other tables
  among_too : Contains (rows_in others t) by.row
  among_too = Contains-permutation (rows_in tables t) (rows_in others t) by.row (have.same t) by.among

  -- a row of the one state is that of an entity of the same key in the other
  pub row_too : (y : Entity) → Contains (entities_in d s) y → key_of basis.schema.model x ≡ key_of basis.schema.model y → HasRowAt basis d others s y t
  row_too y has_y keyed = record {
    table = by.table;
    is_table = by.is_table;
    row = by.row;
    among = among_too;
    at_row = at_same_row basis is s c d have.legal_c have.legal_d x y has_y keyed t (row_key by.table by.row) by.at_row;
  }

  -- and some entity of this key stands there
  pub entity_too : (y : Entity) × Contains (entities_in d s) y × (key_of basis.schema.model x ≡ key_of basis.schema.model y)
  entity_too =
      let found = (rows_of basis.schema is.sound d have.legal_d others have.are_d t by.table by.is_table s by.at_row.pairing by.at_row.owned).entities by.row among_too in (
        found.0,
        found.1.stands,
        key_by_row basis.schema is.sound t s by.at_row.pairing by.at_row.owned c d have.legal_c have.legal_d x found.0 by.at_row.at.stands found.1.stands
            (by.at_row.at.at_key ∙ sym found.1.at_key),
      )

-- entities of one key that stand in both states
module _ (basis : Basis) (is : IsBasis basis) (c d : State) (tables others : Tables) (have : HaveSameTables basis c d tables others) (s : SetId) (x y : Entity)
    (keyed : key_of basis.schema.model x ≡ key_of basis.schema.model y) (one two : Region) (part parts : AssocId → Bool → PropId → Value)
    (held_x : IsHeldAt basis c s x one part) (held_y : IsHeldAt basis d s y two parts) where
  abbrev pub at_x : LinkedEntity basis
  at_x = record { state = c; legal = have.legal_c; s = s; entity = x; region = one; part = part; held = held_x }

  abbrev pub at_y : LinkedEntity basis
  at_y = record { state = d; legal = have.legal_d; s = s; entity = y; region = two; part = parts; held = held_y }

  -- have rows in the same tables
  row_there : (t : TableId) → HasRow (pattern_of basis (focus.Entity one)) t → HasRow (pattern_of basis (focus.Entity two)) t
  row_there t has = pattern_of_row basis is at_y others have.are_d t
      (row_too basis is c d tables others have s x t (row_of_pattern basis is at_x tables have.are_c t has) y held_y.stands keyed)

  row_back : (t : TableId) → HasRow (pattern_of basis (focus.Entity two)) t → HasRow (pattern_of basis (focus.Entity one)) t
  row_back t has = pattern_of_row basis is at_x tables have.are_c t
      (row_too basis is d c others tables (turned basis c d tables others have) s y t (row_of_pattern basis is at_y others have.are_d t has) x held_x.stands (sym keyed))

  -- and are written alike
  pub written_alike : IsClear basis one → IsClear basis two → AreWrittenAlike basis one two (by_entity basis.schema.model x part) (by_entity basis.schema.model y parts)
  unfolding row_too
  written_alike clear_one clear_two = record {
    rows = λ t. (row_there t, row_back t);
    cells = λ t col cell other has too.
        let mine = row_of_pattern basis is at_x tables have.are_c t (has.row, has.is_row, has.of_table) in
        let theirs = row_too basis is c d tables others have s x t mine y held_y.stands keyed in
        sym (cell_holds basis is at_x clear_one t mine.table mine.is_table mine.row mine.at_row
        (cells_demanded basis.schema c tables have.are_c t mine.table mine.is_table mine.row mine.among) col cell has)
        ∙ cell_holds basis is at_y clear_two t theirs.table theirs.is_table theirs.row theirs.at_row
        (cells_demanded basis.schema d others have.are_d t theirs.table theirs.is_table theirs.row theirs.among) col other too;
  }
