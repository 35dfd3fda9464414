-- Rows whose keys rise are told apart by them.
use Rattle.std.proofs.Common.{◌≡◌, ◌<◌, ◌≤◌, List, get_or, length, ⊎_elim, arith, subst, sym}
use Rattle.std.proofs.lemmas.Bool.{cases_lt}
use Rattle.edm_types.proofs.Lookups.{rows_beyond}
use Rattle.emc_base.proofs.Lists.{item_at}
use Rattle.round_trip.proofs.Lookups.{key_columns_at}
use Rattle.round_trip.specs.Words.{At, ColId, Row, StoreModel, Table, TableId, Tables, cells_of, key_columns, rows_in}
use Rattle.table_files.specs.InOrder.{AreToldApartBy}
use Rattle.keyed_rows.specs.row_differences.SameButFree.{HaveRowsApart}
use Rattle.row_plans.specs.Plans.{AreKeyed}
use Rattle.row_plans.proofs.altering.InTable.{not_below}
use Rattle.cells.specs.declared.cells.Cells.{Cells}
use Rattle.delta_plan.specs.Keeping.{HaveRisingKeys, HoldsHeld, HoldsKept}

pub rising_apart : (key : List ColId) (rows : List Row) → HaveRisingKeys key rows → AreToldApartBy key rows
rising_apart key rows rising = λ i j d below within. not_below (cells_of (get_or rows i d) key) (cells_of (get_or rows j d) key) (rising i j d below within)

rows_apart : (store : StoreModel) (tables : Tables) → length tables ≡ length store.tables
    → ((t : TableId) (table : Table) → At store.tables t.index table → HaveRisingKeys table.key (rows_in tables t)) → HaveRowsApart store tables
rows_apart store tables each rising t = ⊎_elim
    (λ (within : t.index < length store.tables). (
    let found = item_at store.tables t.index within in
    let Apart : List ColId → Type 0 = λ cols. AreToldApartBy cols (rows_in tables t) in
    subst Apart (sym (key_columns_at store t found.0 found.1)) (rising_apart found.0.key (rows_in tables t) (rising t found.0 found.1))))
    (λ (past : length store.tables ≤ t.index). (
    let Apart : List Row → Type 0 = AreToldApartBy (key_columns store t) in
    subst Apart (sym (rows_beyond tables t (omega (arith, past, each)))) (λ i j d below within. absurd (omega arith))))
    (cases_lt t.index (length store.tables))

-- held rows, and kept ones, with others
pub held_keyed : (store : StoreModel) (tables asked held wanted : Tables) → HoldsHeld store tables asked held → AreKeyed store tables wanted → AreKeyed store held wanted
held_keyed store tables asked held wanted is keyed = record {
  sound = keyed.sound;
  old_tables = is.shape;
  new_tables = keyed.new_tables;
  old_apart = rows_apart store held is.shape.each (λ t table at. (is.rows t table at).rising);
  new_apart = keyed.new_apart;
}

pub kept_keyed : (store : StoreModel) (cells : Cells) (held wanted kept : Tables) → HoldsKept store cells held wanted kept → AreKeyed store held wanted → AreKeyed store held kept
kept_keyed store cells held wanted kept is keyed = record {
  sound = keyed.sound;
  old_tables = keyed.old_tables;
  new_tables = is.shape;
  old_apart = keyed.old_apart;
  new_apart = rows_apart store kept is.shape.each (λ t table at. (is.rows t table at).rising);
}
