-- Notes: people in a table with a column for notes, which no fragment names, beside a table that no fragment writes. What stands in the
-- column is no part of the mapping, and an update keeps it.
use Rattle.std.specs.Prelude.{ℤ, pos, List, [], ◌∷◌, Some, None, codes}
use Rattle.round_trip.specs.Words.{Value, Null, Whole, Text, Table, StoreModel, Fragment, Schema, Row, State, Tables, IsFree, AreErased, AreKept}
use Rattle.emc_base.specs.declared.value.Kind.TheVariants as kind
use Rattle.worked_examples.specs.Ids.{table_id, col_id, pair_of, needed_column, optional_column, row_of}
use Rattle.worked_examples.specs.people.People.{people_model, people_fragment, people_table, person, only_people}
use Rattle.worked_examples.specs.bosses.NoBoss.{boss_is_null}

abbrev pub noted_table : Table
noted_table = record {
  name = codes "People";
  cols = needed_column (codes "Id") kind.Int32 ∷ optional_column (codes "Name") (kind.Text (Some 20)) ∷ optional_column (codes "Note") (kind.Text None) ∷ [];
  key = col_id 0 ∷ [];
}

-- the table of notes, and one that nothing writes
abbrev pub noted_store : StoreModel
noted_store = record { namespace = codes "S"; container = codes "D"; tables = noted_table ∷ people_table ∷ []; keys = [] }

abbrev pub noted_by : Fragment → Schema
noted_by fragment = record { model = people_model; store = noted_store; mapping = record { fragments = fragment ∷ []; links = [] } }

-- id and name are written
abbrev pub noted : Schema
noted = noted_by (people_fragment (pair_of 0 0 ∷ pair_of 1 1 ∷ []) [])

-- the same by a fragment with a condition on the column of notes, which is the third
abbrev pub asked : Schema
asked = noted_by (people_fragment (pair_of 0 0 ∷ pair_of 1 1 ∷ []) (boss_is_null ∷ []))

abbrev pub noted_row : ℤ → Value → Value → Row
noted_row id name note = row_of (Whole id ∷ name ∷ note ∷ [])

abbrev pub noted_rows : List Row → Tables
noted_rows rows = rows ∷ [] ∷ []

-- the column of notes is free, and no other column of its table
abbrev pub NoteIsFree : Type 0
NoteIsFree = IsFree noted (table_id 0) (col_id 2)

abbrev pub WrittenColumnsAreNot : Type 0
WrittenColumnsAreNot = (¬ IsFree noted (table_id 0) (col_id 0)) × ¬ IsFree noted (table_id 0) (col_id 1)

-- nor is it where a condition is on it
abbrev pub AskedColumnIsNot : Type 0
AskedColumnIsNot = ¬ IsFree asked (table_id 0) (col_id 2)

-- nor is any column of a table that nothing writes
abbrev pub UnwrittenTableHasNone : Type 0
UnwrittenTableHasNone = ¬ IsFree noted (table_id 1) (col_id 1)

-- one person with a note, and the same row without it
abbrev pub one_noted : Tables
one_noted = noted_rows (noted_row (pos 1) (Text (codes "a")) (Text (codes "x")) ∷ [])

abbrev pub NoteIsErased : Type 0
NoteIsErased = AreErased noted_store (IsFree noted) one_noted (noted_rows (noted_row (pos 1) (Text (codes "a")) Null ∷ []))

-- the person gets another name, and a second one comes: the note stays in the row of the first, and the second has none
abbrev pub two_people : State
two_people = only_people (person (pos 1) (Text (codes "b")) ∷ person (pos 2) (Text (codes "c")) ∷ [])

abbrev pub NoteIsKept : Type 0
NoteIsKept = AreKept noted one_noted two_people (noted_rows (noted_row (pos 1) (Text (codes "b")) (Text (codes "x")) ∷ noted_row (pos 2) (Text (codes "c")) Null ∷ []))
