-- The tree of tables has no float.
use Rattle.std.proofs.Common.{◌≡◌, false, refl}
use Rattle.std.specs.List.{enumerate_from}
use Rattle.serde_json.specs.Data.{no_members}
use Rattle.serde_json.specs.Written.{has_float}
use Rattle.json_form.proofs.Objects.{put_all-plain, array_of-plain}
use Rattle.round_trip.specs.Words.{StoreModel, Tables, rows_in}
use Rattle.table_files.specs.TablesTree.{row_tree, table_member, tables_tree}
use Rattle.table_files.proofs.RowTree.{row_tree-plain}

pub tables_tree-plain : (store : StoreModel) (tables : Tables) → has_float (tables_tree store tables) ≡ false
tables_tree-plain store tables =
    put_all-plain no_members (table_member tables) (enumerate_from 0 store.tables)
    (λ entry. array_of-plain (row_tree entry.1) (rows_in tables (record { index = entry.0 })) (row_tree-plain entry.1)) refl
