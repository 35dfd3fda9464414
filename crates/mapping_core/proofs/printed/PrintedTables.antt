-- What is printed of the tables of a legal state is read as the state's tables.
use Rattle.std.proofs.Common.{◌≡◌, ◌≢◌, List, ℕ, length, Result, Ok, Err, inl, inr, sym, ap, subst, ◌∙◌, refl}
use Rattle.std.proofs.lemmas.List.Sorted.{All-permutation}
use Rattle.std.proofs.lemmas.Option.{none-some, same_Some}
use Rattle.serde_json.specs.Data.{Data}
use Rattle.round_trip.specs.Words.{Row, Schema, State, Tables, DemandsRow, HasDemandedCells, IsLegal, TablesAre, row_key, rows_in}
use Rattle.schema_laws.proofs.same_states.Reordered.{any_in_any_order, pairs_in_any_order}
use Rattle.table_files.specs.InOrder.{AreInKeyOrder}
use Rattle.data_documents.specs.declared.shape_faults.fault.ShapeFault.{ShapeFault}
use Rattle.data_documents.specs.declared.shape_faults.fault.ShapeFault.TheVariants.{Shape, Memory}
use Rattle.data_documents.specs.printed.Again.{TellsTablesAgain}
use Rattle.data_documents.specs.printed.Names.{HasTextNames}
use Rattle.data_documents.specs.table_documents.Shapes.{IsDocFault}
use Rattle.data_documents.specs.table_documents.Tables.{tables_in}
use Rattle.data_documents.proofs.printed.Tables.{tables_again}
use Rattle.mapping_core.proofs.OwnTables.{given_back, legal_tables, own_tables}
use Rattle.mapping_core.proofs.printed.StoreNames.{names_of_store}
use Rattle.mapping_core.specs.Accepted.{IsAccepted}
use Rattle.mapping_core.specs.Rules.{IsRead}
use Rattle.mapping_core.specs.states.Documents.{HoldsTables, ReadsTables}
use Rattle.mapping_core.specs.states.GivesBack.{GivesBack, GivesTablesBack}
use Rattle.mapping_core.specs.states.Loads.{Loads}
use Rattle.mapping_core.specs.states.Stores.{IsTablesText}
use Rattle.mapping_core.specs.declared.loading.LoadFault.{LoadFault}

-- the tables of a state are its tables in any order of rows
are_sorted : (schema : Schema) (state : State) (tables sorted : Tables) → TablesAre schema state tables → AreInKeyOrder schema.store tables sorted → TablesAre schema state sorted
are_sorted schema state tables sorted are order = record {
  shape = record {
    each = order.each;
    rows = λ t table here. All-permutation (λ (row : Row). length row.cells ≡ length table.cols) (rows_in tables t) (rows_in sorted t) (order.rows t table here).same (are.shape.rows t table here);
  };
  no_clash = are.no_clash;
  rows = λ t table here.
      let rows = are.rows t table here in
      let same = (order.rows t table here).same in
      record {
        demanded = All-permutation (λ (row : Row). DemandsRow schema state t (row_key table row)) (rows_in tables t) (rows_in sorted t) same rows.demanded;
        all = λ key demanded. any_in_any_order (λ (row : Row). row_key table row ≡ key) (rows_in tables t) (rows_in sorted t) same (rows.all key demanded);
        once = pairs_in_any_order (λ (row : Row) (other : Row). row_key table row ≢ row_key table other) (λ row other differ is. differ (sym is)) (rows_in tables t) (rows_in sorted t) same rows.once;
        cells = All-permutation (HasDemandedCells schema state t table) (rows_in tables t) (rows_in sorted t) same rows.cells;
      };
}

module _ (schema : Schema) (read : IsRead schema) (accepted : IsAccepted schema) (state : State) (legal : IsLegal schema.model state) (text : List ℕ) (told : IsTablesText schema state text) where
  texts : HasTextNames schema.store
  texts = subst HasTextNames (sym (ap (λ (s : Schema). s.store) read.read.means.meaning)) (names_of_store read.ssdl)

  again : TellsTablesAgain schema.store told.tables text
  again =
      let good = legal_tables schema state told.tables told.are accepted legal in
      subst (TellsTablesAgain schema.store told.tables) (sym told.is) (tables_again schema.store read.read.sound.store texts told.tables good told.tree told.order)

  are : TablesAre schema state again.again
  are = are_sorted schema state told.tables again.again told.are again.order

  are_given : (tables : Tables) → HoldsTables schema.store text tables → again.again ≡ tables
  are_given tables (d, held, is) =
      let same : again.tree ≡ d = same_Some again.tree d (sym again.held ∙ held) in
      again.read.tables_are ∙ ap (tables_in schema.store) same ∙ sym is.tables_are

  own : (tables : Tables) → HoldsTables schema.store text tables → TablesAre schema state tables
  own tables holds = subst (TablesAre schema state) (are_given tables holds) are

  -- the tables that are read are the state's, and legal
  pub tables_back : (result : Result Tables ShapeFault) → ReadsTables schema.store text result → GivesTablesBack schema state result
  tables_back (Ok tables) holds = (legal_tables schema state tables (own tables holds) accepted legal, own tables holds)
  tables_back (Err (Shape pointer)) (inl none) = absurd (none-some again.tree (sym none.0 ∙ again.held))
  tables_back (Err (Shape pointer)) (inr (d, held, fails)) =
      let same : d ≡ again.tree = same_Some d again.tree (sym held ∙ again.held) in
      absurd (again.read.shape fails.place (subst (λ (e : Data). IsDocFault schema.store e fails.place) same fails.first.0))
  tables_back (Err Memory) holds = refl

  -- so loading them gives the state back
  pub state_back : (tables : Tables) → HoldsTables schema.store text tables → (result : Result State LoadFault) → Loads schema tables result → GivesBack state result
  state_back tables holds result loads =
      let is = own tables holds in
      given_back schema state tables legal (legal_tables schema state tables is accepted legal) (own_tables schema state tables is) result loads
