-- The trees of row changes have no float.
use Rattle.std.proofs.Common.{◌≡◌, ℕ, List, Option, Some, None, slice_get, false, refl}
use Rattle.std.specs.Prelude.{codes, map}
use Rattle.std.specs.Option.{option_map_or}
use Rattle.serde_json.specs.Data.{null, string}
use Rattle.serde_json.specs.Written.{has_float}
use Rattle.json_form.specs.Trees.{array_of, key_tree}
use Rattle.json_form.proofs.Objects.{array_of-plain, key_tree-plain}
use Rattle.round_trip.specs.Words.{Row, StoreModel, Table, TableId}
use Rattle.table_files.specs.TablesTree.{row_tree}
use Rattle.table_files.proofs.RowTree.{row_tree-plain}
use Rattle.row_changes.specs.Changes.{key_in}
use Rattle.row_changes.specs.declared.change.RowChange.{RowChange}
use Rattle.row_changes.specs.declared.change.RowChange.TheVariants.{Insert, Update, Delete}
use Rattle.texts.specs.case_texts.Names.{table_name}
use Rattle.texts.specs.change_texts.Texts.{cells_tree, row_change_tree, with_row}
use Rattle.texts.proofs.case_texts.Plain.{of_four, of_three}

module _ (store : StoreModel) where
  cells_tree-plain : (t : TableId) (row : Row) → has_float (cells_tree store t row) ≡ false
  cells_tree-plain t row = by (slice_get store.tables t.index)
    where
      by : (found : Option Table) → has_float (option_map_or (λ table. row_tree table row) found null) ≡ false
      by None = refl
      by (Some table) = row_tree-plain table row

  with_row-plain : (word : List ℕ) (t : TableId) (row : Row) → has_float (with_row store word t row) ≡ false
  with_row-plain word t row =
      of_four (codes "key") (key_tree (key_in store t row)) (key_tree-plain (key_in store t row)) (codes "op") (string word) refl
      (codes "row") (cells_tree store t row) (cells_tree-plain t row) (codes "table") (string (table_name store t)) refl

  pub row_change_tree-plain : (change : RowChange) → has_float (row_change_tree store change) ≡ false
  row_change_tree-plain (Insert t row) = with_row-plain (codes "insert") t row
  row_change_tree-plain (Update t row) = with_row-plain (codes "update") t row
  row_change_tree-plain (Delete t key) =
      of_three (codes "key") (key_tree key) (key_tree-plain key) (codes "op") (string (codes "delete")) refl (codes "table") (string (table_name store t)) refl

  pub row_changes_tree-plain : (changes : List RowChange) → has_float (array_of (map (row_change_tree store) changes)) ≡ false
  row_changes_tree-plain changes = array_of-plain (row_change_tree store) changes row_change_tree-plain
