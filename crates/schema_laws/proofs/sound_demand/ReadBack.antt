-- Rows are read back, for every sound schema.
use Rattle.std.proofs.Common.{◌≡◌, ◌↔◌, ⊎_elim, List, Any, refl, sym, ap, ◌∙◌}
use Rattle.round_trip.specs.Words.{SetId, TableId, Value, Null, Assoc, Entity, LinkFragment, Pair, Row, Schema, State, Table, Tables, At, Writing, WritesRow, DemandsCell, TablesAre, IsLegal, cell_of, row_key, rows_in, written_key}
use Rattle.round_trip.specs.soundness.mappings.Mappings.{IsSoundSchema}
use Rattle.schema_laws.specs.state_demand.Owners.{IsJoinedTo, IsOwned, StandsAt, paired_key}
use Rattle.schema_laws.specs.state_demand.Writings.{link_writing}
use Rattle.schema_laws.proofs.state_demand.owners.Joined.{local_link, one_link, writes_row}
use Rattle.schema_laws.proofs.state_demand.lists.Lists.{of_any, same_by_key}
use Rattle.schema_laws.proofs.state_demand.tables.ReadBack.{cells_demanded, row_demanded, rows_demanded, rows_told}
use Rattle.schema_laws.specs.sound_demand.Local.{IsLocal}
use Rattle.schema_laws.specs.sound_demand.ReadBack.{AreRowsOf, AreRowsOfLinks, WritesTo}
use Rattle.schema_laws.proofs.sound_demand.Local.{is_local}

module _ (schema : Schema) (sound : IsSoundSchema schema) (state : State) (legal : IsLegal schema.model state) (tables : Tables) (are : TablesAre schema state tables)
    (t : TableId) (table : Table) (here : At schema.store.tables t.index table) where
  abbrev rows : List Row
  rows = rows_in tables t

  told : (key : List Value) → Any (λ row. row_key table row ≡ key) rows ↔ ((writing : Writing) × WritesRow schema state t key writing)
  told = rows_told schema state tables are t table here

  module _ (owner : SetId) (pairing : List Pair) (owned : IsOwned schema t owner pairing) where
    locally : IsLocal schema state t owner pairing
    locally = is_local schema sound state legal t owner pairing owned

    -- a writing of the entity at a row's key is to the row
    to_row : (key : List Value) (entity : Entity) → StandsAt schema state owner pairing key entity → (writing : Writing) → WritesTo schema state t owner pairing entity writing
        → WritesRow schema state t key writing
    to_row key entity stands writing to = (locally.whole key entity stands writing).1 to

    pub rows_of : AreRowsOf schema state tables t table owner pairing
    rows_of = record {
      rows = λ entity has.
          let key = paired_key schema.model pairing entity in
          let stands : StandsAt schema state owner pairing key entity = record { stands = has; at_key = refl } in (
            (λ any. let demand = (told key).0 any in (demand.0, (locally.whole key entity stands demand.0).0 demand.1)),
            (λ by. (told key).1 (by.0, to_row key entity stands by.0 by.1)),
          );
      entities = λ row has.
          let demand = row_demanded schema state tables are t table here row has in
          let found = locally.local (row_key table row) demand.0 demand.1 in
          (found.0, found.1);
      cells = λ row has entity stands writing to col value fills.
          (cells_demanded schema state tables are t table here row has).demanded col value (writing, to_row (row_key table row) entity stands writing to, fills);
      nulls = λ row has entity stands col column at none. ⊎_elim
          (λ (null : cell_of row col ≡ Null). null)
          (λ (demand : DemandsCell schema state t (row_key table row) col (cell_of row col)).
          absurd (none demand.0 (cell_of row col) ((locally.whole (row_key table row) entity stands demand.0).0 demand.1) demand.2))
          ((cells_demanded schema state tables are t table here row has).only col column at);
    }

  module _ (fragment : LinkFragment) (assoc : Assoc) (joined : IsJoinedTo schema t fragment assoc) where
    pub rows_of_links : AreRowsOfLinks schema state tables t table fragment assoc
    rows_of_links = record {
      rows = λ link has.
          let key = written_key schema.store (link_writing schema.model fragment assoc link) in
          of_any (λ (row : Row). row_key table row ≡ key) rows
          ((told key).1 (link_writing schema.model fragment assoc link, writes_row schema t fragment assoc joined state link has));
      links = λ row has.
          let demand = row_demanded schema state tables are t table here row has in
          let found = local_link schema t fragment assoc joined state (row_key table row) demand.0 demand.1 in
          (found.0, found.1, sym demand.1.to_key ∙ ap (written_key schema.store) found.2);
      one_row = λ link one two has_one has_two of_one of_two.
          same_by_key (row_key table) rows one two (rows_demanded schema state tables are t table here).once has_one has_two (of_one ∙ sym of_two);
      one_link = λ row one two has_one has_two of_one of_two. one_link schema t fragment assoc joined state legal one two has_one has_two (sym of_one ∙ of_two);
      cells = λ link row has_link has_row of_link col value fills.
          let writes = writes_row schema t fragment assoc joined state link has_link in
          (cells_demanded schema state tables are t table here row has_row).demanded col value
          (link_writing schema.model fragment assoc link, record { writes = writes.writes; to_table = writes.to_table; to_key = sym of_link }, fills);
    }
