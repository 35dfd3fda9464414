-- The rows that views give for a state are its tables.
use Rattle.std.proofs.Common.{◌<◌, ⊎_elim, length, List, Contains, Option, subst, sym}
use Rattle.std.proofs.lemmas.Option.{slice_get_within}
use Rattle.round_trip.specs.Words.{AssocId, Entity, Hosted, IsLegal, Link, SetId, State, Tables, TablesAre, Value}
use Rattle.round_trip.specs.TablesAre.{HasNoClash}
use Rattle.table_files.specs.declared.tables.TableRow.{TableRow}
use Rattle.cells.specs.declared.cells.Cells.{Cells}
use Rattle.cells.specs.Cells.{TellsCells}
use Rattle.cells.specs.HostedLinks.{hosted_links}
use Rattle.regions.specs.Basis.{Basis}
use Rattle.regions.specs.region_laws.IsBasis.{IsBasis}
use Rattle.regions.specs.region_laws.Partners.{HasFewPartners}
use Rattle.case_laws.specs.filled_rows.Filled.{FillsRows}
use Rattle.case_laws.specs.filled_rows.Gathered.{gathered}
use Rattle.case_laws.specs.filled_rows.Gathered as by_set
use Rattle.case_laws.proofs.filled_rows.Sources.{AreTold, IsOfAssoc, IsOfSet, of_either}
use Rattle.case_laws.proofs.filled_rows.Tables.{tables_are}
use Rattle.delta_plan.specs.RowsOf.{AreTablesOf, giving, rows_of}
use Rattle.delta_plan.proofs.laws.Hosting.{are_hosted}
use Rattle.delta_plan.proofs.laws.Named.{rows_named}
use Rattle.delta_plan.proofs.laws.OneList.{one_list}

module _ (basis : Basis) (is : IsBasis basis) (local : SetId → Entity → List Hosted → List TableRow) (joined : AssocId → Option (Link → TableRow))
    (fills : FillsRows basis local joined) (few : (s : SetId) → HasFewPartners basis s) (cells : Cells) (tells : TellsCells basis.schema cells) (state : State)
    (legal : IsLegal basis.schema.model state) (clear : HasNoClash basis.schema state) where
  abbrev hosted : SetId → List Value → List Hosted
  hosted = hosted_links basis.schema.model cells state

  abbrev rows : List TableRow
  rows = by_set.rows_of basis.schema.model local joined hosted state

  abbrev tables : Tables
  tables = gathered basis.schema.store rows

  told : AreTold basis local joined hosted state
  told = record { is = is; fills = fills; few = few; are_hosted = are_hosted basis is cells tells state; legal = legal; no_clash = clear }

  -- each row names a table of the store
  within : (placed : TableRow) → Contains rows placed → placed.table.index < length basis.schema.store.tables
  within placed has =
      let there = slice_get_within basis.schema.store.tables placed.table.index in
      ⊎_elim
      (λ (of : IsOfSet basis local joined hosted state told placed). there of.is_row.table of.is_row.is_table)
      (λ (of : IsOfAssoc basis local joined hosted state told placed). there of.is_row.table of.is_row.is_table)
      (of_either basis local joined hosted state told placed has)

  are_tables : TablesAre basis.schema state tables
  are_tables = tables_are basis local joined hosted state told

  pub views_tables : (rows : Tables) × AreTablesOf basis.schema.store (rows_of (giving local joined) basis.schema.model cells state) rows
      × TablesAre basis.schema state rows
  views_tables =
      let same = one_list basis is local joined fills cells tells state in (
        tables,
        subst (λ (list : List TableRow). AreTablesOf basis.schema.store list tables) (sym same)
            (record { shape = are_tables.shape; each = rows_named basis.schema.store rows within }),
        are_tables,
      )
