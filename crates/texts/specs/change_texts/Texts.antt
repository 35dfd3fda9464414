-- What the program prints of changes. Each text ends with a line feed.
use Rattle.std.specs.Prelude.{ℕ, List, [], ◌∷◌, ◌++◌, map, codes, decimal, slice_get}
use Rattle.std.specs.Option.{option_map_or}
use Rattle.serde_json.specs.Data.{Data, null, string}
use Rattle.serde_json.specs.Written.{compact_text}
use Rattle.json_form.specs.Trees.{array_of, key_tree, object_of, place_tree, quoted}
use Rattle.round_trip.specs.Words.{Breach, Place, Row, StoreModel, TableId, Value}
use Rattle.table_files.specs.TablesTree.{row_tree}
use Rattle.entity_changes.specs.declared.change.Reason.{Reason}
use Rattle.entity_changes.specs.declared.change.Reason.TheVariants as reason
use Rattle.row_changes.specs.Changes.{key_in}
use Rattle.row_changes.specs.declared.change.RowChange.{RowChange}
use Rattle.row_changes.specs.declared.change.RowChange.TheVariants.{Insert, Update, Delete}
use Rattle.texts.specs.case_texts.Names.{table_name}
use Rattle.texts.specs.command_texts.Texts.{line}

-- a change document of another shape, by the first place where it is
unfoldable pub change_shape_text : List ℕ → List ℕ
change_shape_text pointer = codes "data C1 " ++ line (quoted pointer)

-- the word for why a change is refused
abbrev pub reason_word : Reason → List ℕ
reason_word reason.Exists = codes "exists"
reason_word reason.Absent = codes "absent"
reason_word reason.TypeChanged = codes "typechanged"
reason_word reason.LinkExists = codes "linkexists"
reason_word reason.LinkAbsent = codes "linkabsent"

-- the change at this place, counted from 0, is refused
unfoldable pub refused_text : ℕ → Reason → List ℕ
refused_text index why = codes "data C2 " ++ (decimal index ++ (codes " " ++ line (reason_word why)))

-- the state after the changes isn't legal, by the rule that it breaks, at its first place
unfoldable pub new_breach_text : Breach → List ℕ
new_breach_text breach = codes "data C3 S" ++ (decimal breach.rule ++ (codes " " ++ line (compact_text (place_tree breach.place))))

-- a row that would be left without the one to which it refers by columns that no mapping writes
unfoldable pub free_reference_text : Place → List ℕ
free_reference_text place = codes "data C5 " ++ line (compact_text (place_tree place))

module _ (store : StoreModel) where
  -- a row by the names of its table's columns; null where there is no such table
  abbrev pub cells_tree : TableId → Row → Data
  cells_tree t row = option_map_or (λ table. row_tree table row) (slice_get store.tables t.index) null

  -- a change with the row that comes: the row's key, the word for the change, the row, and the table's name
  abbrev pub with_row : List ℕ → TableId → Row → Data
  with_row word t row = object_of (
      (codes "key", key_tree (key_in store t row)) ∷ (codes "op", string word)
      ∷ (codes "row", cells_tree t row) ∷ (codes "table", string (table_name store t)) ∷ [])

  -- a delete: the row's key, the word for it, and the table's name
  abbrev pub without_row : TableId → List Value → Data
  without_row t key = object_of ((codes "key", key_tree key) ∷ (codes "op", string (codes "delete")) ∷ (codes "table", string (table_name store t)) ∷ [])

  -- a change of a row
  abbrev pub row_change_tree : RowChange → Data
  row_change_tree (Insert t row) = with_row (codes "insert") t row
  row_change_tree (Update t row) = with_row (codes "update") t row
  row_change_tree (Delete t key) = without_row t key

  -- its line
  unfoldable pub row_change_text : RowChange → List ℕ
  row_change_text change = line (compact_text (row_change_tree change))

  -- row changes that wait for one another in a ring: no order of them keeps all keys at each step
  unfoldable pub circular_text : List RowChange → List ℕ
  circular_text changes = codes "data C4 " ++ line (compact_text (array_of (map row_change_tree changes)))
