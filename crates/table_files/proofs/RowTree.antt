-- The tree of a row has no float.
use Rattle.std.proofs.Common.{◌≡◌, false, refl}
use Rattle.std.specs.List.{enumerate_from}
use Rattle.serde_json.specs.Data.{no_members}
use Rattle.serde_json.specs.Written.{has_float}
use Rattle.round_trip.specs.Words.{Row, Table, cell_of}
use Rattle.json_form.proofs.Objects.{put_all-plain, value_tree-plain}
use Rattle.table_files.specs.TablesTree.{cell_member, row_tree}

pub row_tree-plain : (table : Table) (row : Row) → has_float (row_tree table row) ≡ false
row_tree-plain table row = put_all-plain no_members (cell_member row) (enumerate_from 0 table.cols) (λ entry. value_tree-plain (cell_of row (record { index = entry.0 }))) refl
