-- The tables of a legal state by an accepted mapping are legal, and the state's own.
use Rattle.std.proofs.Common.{◌≡◌, ◌≢◌, ⊎_elim, List, Contains, Result, Ok, Err, refl, sym, subst}
use Rattle.std.specs.List.{AllZip}
use Rattle.std.proofs.lemmas.List.Elements.{All-contains}
use Rattle.std.proofs.lemmas.List.Sorted.{All-permutation}
use Rattle.std.proofs.lemmas.List.{map-id}
use Rattle.emc_base.proofs.Lists.{all_from_members}
use Rattle.emc_base.proofs.Mapped.{all_zip-map}
use Rattle.round_trip.specs.Words.{TableId, ColId, ForeignKey, Null, Row, Schema, State, StoreModel, Tables, AreLegalTables, AreSameTables, AreTables, HasAllowedNullCells, HasCellsInDomain, HasDemandedCells, IsErasedRow, IsFree, IsLegal, KeepsForeignKey, TablesAre, cell_of, cells_of, row_key, rows_in}
use Rattle.round_trip.specs.legality.LegalTables.{FindsRow, Refers}
use Rattle.schema_laws.proofs.state_demand.tables.SameTables.{same_tables}
use Rattle.schema_laws.proofs.same_states.Reordered.{all_in_any_order, any_in_any_order, pairs_in_any_order}
use Rattle.keyed_rows.proofs.row_differences.OfState.{free_not_demanded}
use Rattle.case_laws.specs.Reading.{HasStateTables}
use Rattle.table_files.proofs.table_legality.Kept.{no_breach}
use Rattle.mapping_core.specs.Accepted.{IsAccepted}
use Rattle.mapping_core.specs.states.Loads.{Loads}
use Rattle.mapping_core.specs.states.GivesBack.{GivesBack}
use Rattle.mapping_core.specs.declared.loading.LoadFault.{LoadFault}
use Rattle.mapping_core.specs.declared.loading.LoadFault.TheVariants.{Breach as NotLegal, NoCase, Illegal, Differs, Memory}

-- the same tables keep the same foreign keys
keeps_too : (one two : Tables) → AreSameTables one two → (key : ForeignKey) → KeepsForeignKey one key → KeepsForeignKey two key
keeps_too one two same key kept =
    let Kept : Tables → Row → Type 0 = λ tables row. Refers key row → FindsRow tables key row in
    all_in_any_order (Kept one) (Kept two)
    (λ row finds refers. any_in_any_order (λ (target : Row). cells_of target key.to_cols ≡ cells_of row key.from_cols) (rows_in one key.to) (rows_in two key.to) (same key.to) (finds refers))
    (rows_in one key.from) (rows_in two key.from) (same key.from) kept

-- legal tables are legal in any order of their rows
pub legal_moved : (store : StoreModel) (one two : Tables) → AreSameTables one two → AreTables store two → AreLegalTables store one → AreLegalTables store two
legal_moved store one two same shape legal = record {
  shape = shape;
  rows = λ t table here.
      let rows = legal.rows t table here in
      record {
        nulls = All-permutation (HasAllowedNullCells table) (rows_in one t) (rows_in two t) (same t) rows.nulls;
        domains = All-permutation (HasCellsInDomain table) (rows_in one t) (rows_in two t) (same t) rows.domains;
        keys = pairs_in_any_order (λ (row other : Row). row_key table row ≢ row_key table other) (λ row other apart alike. apart (sym alike)) (rows_in one t) (rows_in two t) (same t) rows.keys;
      };
  keys = all_from_members (KeepsForeignKey two) store.keys
      (λ key among. keeps_too one two same key (All-contains (KeepsForeignKey one) store.keys key legal.keys among));
}

module _ (schema : Schema) (state : State) (tables : Tables) (are : TablesAre schema state tables) where
  abbrev HasNullWhereFree : TableId → Row → Type 0
  HasNullWhereFree t row = (col : ColId) → IsFree schema t col → cell_of row col ≡ Null

  -- free cells hold null
  nulls : (t : TableId) (row : Row) → Contains (rows_in tables t) row → HasNullWhereFree t row
  nulls t row has col is = ⊎_elim
      (λ (null : cell_of row col ≡ Null). null)
      (λ demanded. absurd (free_not_demanded schema state t col is _ (cell_of row col) demanded))
      ((All-contains (HasDemandedCells schema state t is.stands.0) (rows_in tables t) row (are.rows t is.stands.0 is.stands.2).cells has).only col is.stands.1 is.stands.3)

  -- so nothing is erased
  kept : (t : TableId) → AllZip (IsErasedRow (IsFree schema t)) (rows_in tables t) (rows_in tables t)
  kept t =
      let Erases : Row → Row → Type 0 = IsErasedRow (IsFree schema t) in
      let rows : List Row = rows_in tables t in
      let itself : Row → Row = λ row. row in
      subst (AllZip Erases rows) (map-id rows)
      (all_zip-map (HasNullWhereFree t) Erases itself (λ row free. record { free = free; rest = λ col not. refl }) rows
      (all_from_members (HasNullWhereFree t) rows (nulls t)))

  -- they are the state's own
  pub own_tables : HasStateTables schema state tables
  own_tables = record { erased = tables; are_erased = record { shape = are.shape; rows = kept }; are = are }

  -- and legal
  pub legal_tables : IsAccepted schema → IsLegal schema.model state → AreLegalTables schema.store tables
  legal_tables accepted legal =
      let good = accepted.keeps.every_state.stored state legal in
      let same : AreSameTables good.tables tables = same_tables schema state good.tables tables good.defined are in
      legal_moved schema.store good.tables tables same are.shape good.legal

-- loading legal tables of a state's own gives the state back, unless memory ran out
pub given_back : (schema : Schema) (state : State) (tables : Tables) → IsLegal schema.model state → AreLegalTables schema.store tables → HasStateTables schema state tables
    → (result : Result State LoadFault) → Loads schema tables result → GivesBack state result
given_back schema state tables legal legal_tables own (Ok loaded) loads = loads.1.only state legal own
given_back schema state tables legal legal_tables own (Err (NotLegal breach)) loads = absurd (no_breach schema.store tables legal_tables breach loads)
given_back schema state tables legal legal_tables own (Err (NoCase place)) loads = absurd (loads.1.none state legal own)
given_back schema state tables legal legal_tables own (Err (Illegal breach)) loads = absurd (loads.1.none state legal own)
given_back schema state tables legal legal_tables own (Err (Differs place one two)) loads = absurd (loads.1.none state legal own)
given_back schema state tables legal legal_tables own (Err Memory) loads = refl
