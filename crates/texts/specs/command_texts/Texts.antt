-- What the program prints. Each text ends with a line feed.
use Rattle.std.specs.Prelude.{◌≡◌, ℕ, List, [], ◌∷◌, ◌++◌, Contains, Option, Some, None, codes, decimal}
use Rattle.serde_json.specs.Data.{Data}
use Rattle.serde_json.specs.Written.{compact_text}
use Rattle.json_form.specs.Documents.{printed}
use Rattle.json_form.specs.Trees.{place_tree, quoted}
use Rattle.edm_types.specs.declared.faults.VocabFile.TheVariants.{Csdl, Ssdl, Msl}
use Rattle.edm_types.specs.declared.faults.LimitKind.TheVariants.{Sets, Associations, Types, Properties, Tables, Columns, Foreign, Fragments, Constants, Regions}
use Rattle.round_trip.specs.declared.FailKind.{FailKind}
use Rattle.round_trip.specs.declared.FailKind.TheVariants.{Clash, Null, Disagrees, Dangling, Same}
use Rattle.round_trip.specs.Words.{Breach, EntityModel, LimitFault, LimitKind, Place, Row, RuleFault, State, StoreModel, Table, VocabFile}
use Rattle.entity_state.specs.Tells.{IsTreeInKeyOrder}
use Rattle.table_files.specs.TablesTree.{row_tree}
use Rattle.witness_state.specs.declared.failure.Failure.{Failure}

-- the words, and a line feed
abbrev pub line : List ℕ → List ℕ
line text = text ++ 10 ∷ []

-- all commands, also those that aren't built
unfoldable pub usage_text : List ℕ
usage_text = line (codes "usage: check M S P | views M S P | store M S P ENTITIES | load M S P TABLES | save M S P TABLES CHANGES OUT | drill SEED COUNT")

-- what is printed of a mapping that round-trips
unfoldable pub accepted_text : List ℕ
accepted_text = line (codes "accepted")

-- what is wrong with a named file
unfoldable pub file_text : List ℕ → List ℕ → List ℕ
file_text word name = codes "file " ++ (word ++ (codes " " ++ line (quoted name)))

-- the word for a document
abbrev pub file_word : VocabFile → List ℕ
file_word Csdl = codes "csdl"
file_word Ssdl = codes "ssdl"
file_word Msl = codes "msl"

-- a broken rule, with its number, its file and its place
unfoldable pub rule_text : RuleFault → List ℕ
rule_text fault = codes "rule V" ++ (decimal fault.rule ++ (codes " " ++ (file_word fault.file ++ (codes " " ++ line (quoted fault.place)))))

-- the word for what is limited
abbrev pub limit_word : LimitKind → List ℕ
limit_word Sets = codes "sets"
limit_word Associations = codes "associations"
limit_word Types = codes "types"
limit_word Properties = codes "properties"
limit_word Tables = codes "tables"
limit_word Columns = codes "columns"
limit_word Foreign = codes "foreign"
limit_word Fragments = codes "fragments"
limit_word Constants = codes "constants"
limit_word Regions = codes "regions"

-- a passed limit: what is limited, where, how many there are, and how many may be
unfoldable pub limit_text : LimitFault → List ℕ
limit_text fault = codes "limit " ++ (limit_word fault.what ++ (codes " " ++ (quoted fault.name ++ (codes " " ++ (decimal fault.counted ++ (codes " " ++ line (decimal fault.allowed)))))))

-- the word for a kind of failure
abbrev pub kind_word : FailKind → List ℕ
kind_word Clash = codes "clash"
kind_word Null = codes "null"
kind_word Disagrees = codes "disagrees"
kind_word Dangling = codes "dangling"
kind_word Same = codes "same"

-- a state's line: a word, and the printed document of the state, with the entities of each set and the links of each association set in key order
abbrev pub IsStateLine : List ℕ → EntityModel → State → List ℕ → Type 0
IsStateLine word model state text = (tree : Data) × IsTreeInKeyOrder model state tree × (text ≡ (word ++ codes " ") ++ printed tree)

-- the line of the other state, where there is one
abbrev pub IsOtherLine : EntityModel → Option State → List ℕ → Type 0
IsOtherLine model None text = text ≡ []
IsOtherLine model (Some state) text = IsStateLine (codes "other") model state text

-- the kind by which a state fails, and the place
unfoldable pub failing_text : Failure → List ℕ
failing_text failure = line (codes "fails " ++ kind_word failure.kind) ++ line (codes "at " ++ compact_text (place_tree failure.place))

-- a failing state: its kind and its place, the state, and for the kind same the other one
pub record IsFailText (model : EntityModel) (failure : Failure) (text : List ℕ) : Type 0 where
  pub state : List ℕ
  pub other : List ℕ
  pub state_is : IsStateLine (codes "state") model failure.state state
  pub other_is : IsOtherLine model failure.other other
  pub is : text ≡ (failing_text failure ++ state) ++ other

-- an entity document of another shape, by the first place where it is
unfoldable pub entity_shape_text : List ℕ → List ℕ
entity_shape_text pointer = codes "data E1 " ++ line (quoted pointer)

-- an entity state that isn't legal, by the rule that it breaks, at its first place
unfoldable pub entity_breach_text : Breach → List ℕ
entity_breach_text breach = codes "data E2 S" ++ (decimal breach.rule ++ (codes " " ++ line (compact_text (place_tree breach.place))))

-- a table document of another shape, by the first place where it is
unfoldable pub table_shape_text : List ℕ → List ℕ
table_shape_text pointer = codes "data T1 " ++ line (quoted pointer)

-- tables that aren't legal, by the rule that they break, at its first place
unfoldable pub table_breach_text : Breach → List ℕ
table_breach_text breach = codes "data T2 B" ++ (decimal breach.rule ++ (codes " " ++ line (compact_text (place_tree breach.place))))

-- a key whose rows meet no case
unfoldable pub no_case_text : Place → List ℕ
no_case_text place = codes "data T3 nocase " ++ line (compact_text (place_tree place))

-- the state that tables tell isn't legal, by the rule that it breaks, at its first place
unfoldable pub illegal_text : Breach → List ℕ
illegal_text breach = codes "data T3 illegal S" ++ (decimal breach.rule ++ (codes " " ++ line (compact_text (place_tree breach.place))))

-- a row of a table by the names of its columns; null where there is none
abbrev pub row_or_null : Table → Option Row → List ℕ
row_or_null table None = codes "null"
row_or_null table (Some row) = compact_text (row_tree table row)

-- a row in which tables differ from those of the state that they tell: what is held, and what is demanded
unfoldable pub differs_text : Table → Place → Option Row → Option Row → List ℕ
differs_text table place held demanded =
    codes "data T3 differs " ++ (compact_text (place_tree place) ++ (codes " " ++ (row_or_null table held ++ (codes " " ++ line (row_or_null table demanded)))))

-- the same, of a row of the table that the place names
pub record IsDiffersText (store : StoreModel) (place : Place) (held demanded : Option Row) (text : List ℕ) : Type 0 where
  pub table : Table
  pub among : Contains store.tables table
  pub named : table.name ≡ place.name
  pub is : text ≡ differs_text table place held demanded
