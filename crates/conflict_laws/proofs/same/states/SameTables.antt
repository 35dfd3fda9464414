-- States that agree at each row have the same tables.
use Rattle.std.proofs.Common.{◌≡◌, ◌⊎◌, ◌↔◌, inl, inr, ⊎_elim, List, refl}
use Rattle.emc_base.proofs.Lists.{all_from_members}
use Rattle.round_trip.specs.Words.{SetId, TableId, ColId, Column, DemandsCell, DemandsRow, HasDemandedCells, HasNoClash, AreDemandedRows, IsLegal, Null, Row, Schema, State, Table, Tables, TablesAre, Value, At, cell_of, row_key, rows_in}
use Rattle.schema_laws.proofs.state_demand.tables.ReadBack.{cells_demanded, row_demanded, rows_demanded}
use Rattle.regions.specs.Basis.{Basis}
use Rattle.regions.specs.region_laws.IsBasis.{IsBasis}
use Rattle.host_states.specs.Hosting.{DifferAtMostAt}
use Rattle.conflict_laws.proofs.same.states.Moved.{IsAtFocus, mirrored, moved}

-- both states demand the row of this key, or neither does, and a row that holds what the one demands holds what the other does
pub record AgreeAt (schema : Schema) (c d : State) (t : TableId) (table : Table) (key : List Value) : Type 0 where
  pub rows : DemandsRow schema c t key ↔ DemandsRow schema d t key
  pub cells : (row : Row) → row_key table row ≡ key → HasDemandedCells schema c t table row → HasDemandedCells schema d t table row

-- so they do at each row
abbrev pub AgreeEverywhere : Schema → State → State → Type 0
AgreeEverywhere schema c d = (t : TableId) (table : Table) → At schema.store.tables t.index table → (key : List Value) → AgreeAt schema c d t table key

module _ (schema : Schema) (c d : State) (agree : AgreeEverywhere schema c d) (no_clash : HasNoClash schema d) (tables : Tables) (are : TablesAre schema c tables) where
  -- the rows that the one state demands are those that the other demands
  rows_too : (t : TableId) (table : Table) → At schema.store.tables t.index table → AreDemandedRows schema d t table (rows_in tables t)
  rows_too t table here =
      let told = rows_demanded schema c tables are t table here in
      record {
        demanded = all_from_members (λ row. DemandsRow schema d t (row_key table row)) (rows_in tables t)
            (λ row has. (agree t table here (row_key table row)).rows.0 (row_demanded schema c tables are t table here row has));
        all = λ key demand. told.all key ((agree t table here key).rows.1 demand);
        once = told.once;
        cells = all_from_members (HasDemandedCells schema d t table) (rows_in tables t)
            (λ row has. (agree t table here (row_key table row)).cells row refl (cells_demanded schema c tables are t table here row has));
      }

  -- the tables of the one are the other's too
  pub tables_too : TablesAre schema d tables
  tables_too = record { shape = are.shape; no_clash = no_clash; rows = rows_too }

-- an entity of the key stands at the row in the one state or in the other
abbrev pub IsAtEither : Basis → SetId → List Value → State → State → TableId → List Value → Type 0
IsAtEither basis s focus_key c d t key = IsAtFocus basis s focus_key c t key ⊎ IsAtFocus basis s focus_key d t key

module _ (basis : Basis) (is : IsBasis basis) (s : SetId) (focus_key : List Value) (c d : State) (legal_c : IsLegal basis.schema.model c) (legal_d : IsLegal basis.schema.model d)
    (alike : DifferAtMostAt basis s focus_key c d) where
  -- states that differ at most at a key agree everywhere, where they do at the rows of this key
  module _ (focus_agrees : (t : TableId) (table : Table) → At basis.schema.store.tables t.index table → (key : List Value) → IsAtEither basis s focus_key c d t key
      → AgreeAt basis.schema c d t table key) where
    -- what the one demands the other does
    row_there : (t : TableId) (table : Table) → At basis.schema.store.tables t.index table → (key : List Value) → DemandsRow basis.schema c t key → DemandsRow basis.schema d t key
    row_there t table here key (writing, writes) = ⊎_elim
        (λ (at : IsAtFocus basis s focus_key c t key). (focus_agrees t table here key (inl at)).rows.0 (writing, writes))
        (λ other. (writing, other))
        (moved basis is s focus_key c d legal_c legal_d alike t key writing writes)

    -- and the other way
    row_back : (t : TableId) (table : Table) → At basis.schema.store.tables t.index table → (key : List Value) → DemandsRow basis.schema d t key → DemandsRow basis.schema c t key
    row_back t table here key (writing, writes) = ⊎_elim
        (λ (at : IsAtFocus basis s focus_key d t key). (focus_agrees t table here key (inr at)).rows.1 (writing, writes))
        (λ other. (writing, other))
        (moved basis is s focus_key d c legal_d legal_c (mirrored basis s focus_key c d alike) t key writing writes)

    -- and a row that holds what the one demands holds what the other does
    cells_there : (t : TableId) (table : Table) → At basis.schema.store.tables t.index table → (row : Row) → HasDemandedCells basis.schema c t table row
        → HasDemandedCells basis.schema d t table row
    cells_there t table here row holds = record {
      demanded = λ col value demand. demanded_there col value demand;
      only = λ col column at_col. ⊎_elim
          (λ null. inl null)
          (λ (demand : DemandsCell basis.schema c t (row_key table row) col (cell_of row col)). only_there col column at_col demand)
          (holds.only col column at_col);
    }
      where
        demanded_there : (col : ColId) (value : Value) → DemandsCell basis.schema d t (row_key table row) col value → cell_of row col ≡ value
        demanded_there col value (writing, writes, fills) = ⊎_elim
            (λ (at : IsAtFocus basis s focus_key d t (row_key table row)).
            ((focus_agrees t table here (row_key table row) (inr at)).cells row refl holds).demanded col value (writing, writes, fills))
            (λ other. holds.demanded col value (writing, other, fills))
            (moved basis is s focus_key d c legal_d legal_c (mirrored basis s focus_key c d alike) t (row_key table row) writing writes)

        only_there : (col : ColId) (column : Column) → At table.cols col.index column → DemandsCell basis.schema c t (row_key table row) col (cell_of row col)
            → (cell_of row col ≡ Null) ⊎ DemandsCell basis.schema d t (row_key table row) col (cell_of row col)
        only_there col column at_col (writing, writes, fills) = ⊎_elim
            (λ (at : IsAtFocus basis s focus_key c t (row_key table row)).
            ((focus_agrees t table here (row_key table row) (inl at)).cells row refl holds).only col column at_col)
            (λ other. inr (writing, other, fills))
            (moved basis is s focus_key c d legal_c legal_d alike t (row_key table row) writing writes)

    -- so they agree everywhere
    pub agree_everywhere : AgreeEverywhere basis.schema c d
    agree_everywhere t table here key = record {
      rows = (row_there t table here key, row_back t table here key);
      cells = λ row same. cells_there t table here row;
    }
