-- People: one type with an id and a name that may be null, one table, and one fragment that writes both.
use Rattle.std.specs.Prelude.{ℕ, zero, suc, ℤ, pos, List, [], ◌∷◌, Some, None, codes}
use Rattle.round_trip.specs.Words.{Value, Null, Whole, Text, EntityModel, EntityType, Prop, EntitySet, Assoc, StoreModel, Table, Fragment, Pair, Cond, Schema, Entity, Row, State, Tables, IsLegal, AreLegalTables, TablesAre, Satisfies}
use Rattle.emc_base.specs.declared.value.Kind.TheVariants as kind
use Rattle.worked_examples.specs.Ids.{type_id, set_id, prop_id, table_id, col_id, needed, optional, needed_column, optional_column, set_of, pair_of, just, entity_of, row_of, leaf, concrete_type, model_of}

-- an id, which is the key, and a name of at most 20 characters that may be null
abbrev pub id_prop : Prop
id_prop = needed (type_id 0) (codes "Id") kind.Int32

abbrev pub name_prop : Prop
name_prop = optional (type_id 0) (codes "Name") (kind.Text (Some 20))

abbrev pub person_type : EntityType
person_type = concrete_type (codes "Person") None (prop_id 0 ∷ []) (prop_id 0 ∷ prop_id 1 ∷ [])

abbrev pub people_set : EntitySet
people_set = set_of (codes "People") (type_id 0)

-- people with these associations, and with none
abbrev pub people_with : List Assoc → EntityModel
people_with assocs = model_of (person_type ∷ []) (id_prop ∷ name_prop ∷ []) (leaf (type_id 0) ∷ []) (people_set ∷ []) assocs

abbrev pub people_model : EntityModel
people_model = people_with []

abbrev pub people_table : Table
people_table = record {
  name = codes "People";
  cols = needed_column (codes "Id") kind.Int32 ∷ optional_column (codes "Name") (kind.Text (Some 20)) ∷ [];
  key = col_id 0 ∷ [];
}

abbrev pub people_store : StoreModel
people_store = record { namespace = codes "S"; container = codes "D"; tables = people_table ∷ []; keys = [] }

-- the fragment that stands first in a mapping's document; it picks people
abbrev pub people_fragment : List Pair → List Cond → Fragment
people_fragment pairs conds = record {
  place = codes "/EntityContainerMapping/EntitySetMapping/0/EntityTypeMapping/0/MappingFragment/0";
  set = set_id 0;
  picks = just (type_id 0) ∷ [];
  table = table_id 0;
  pairs = pairs;
  conds = conds;
}

-- people by one fragment
abbrev pub people_by : Fragment → Schema
people_by fragment = record {
  model = people_model;
  store = people_store;
  mapping = record { fragments = fragment ∷ []; links = [] };
}

-- id and name are written
abbrev pub people : Schema
people = people_by (people_fragment (pair_of 0 0 ∷ pair_of 1 1 ∷ []) [])

abbrev pub person : ℤ → Value → Entity
person id name = entity_of (type_id 0) (Whole id ∷ name ∷ [])

abbrev pub person_row : ℤ → Value → Row
person_row id name = row_of (Whole id ∷ name ∷ [])

-- a state of these people, and tables of these rows
abbrev pub only_people : List Entity → State
only_people entities = record { entities = entities ∷ []; links = [] }

abbrev pub only_rows : List Row → Tables
only_rows rows = rows ∷ []

-- one person of id 1 and name a, and the row of this
abbrev pub one_person : State
one_person = only_people (person (pos 1) (Text (codes "a")) ∷ [])

abbrev pub one_row : Tables
one_row = only_rows (person_row (pos 1) (Text (codes "a")) ∷ [])

abbrev pub OnePersonIsLegal : Type 0
OnePersonIsLegal = IsLegal people_model one_person

abbrev pub OneRowIsDemanded : Type 0
OneRowIsDemanded = TablesAre people one_person one_row

abbrev pub OneRowIsLegal : Type 0
OneRowIsLegal = AreLegalTables people_store one_row

abbrev pub OneRowSatisfies : Type 0
OneRowSatisfies = Satisfies people one_person one_row

-- two people may stand together, and one of them without a name
abbrev pub NoNameIsLegal : Type 0
NoNameIsLegal = IsLegal people_model (only_people (person (pos 1) (Text (codes "a")) ∷ person (pos 2) Null ∷ []))

-- so many times the character U+00E9, which takes two bytes
abbrev pub accented : ℕ → List ℕ
accented zero = []
accented (suc count) = 195 ∷ 169 ∷ accented count

-- a name's bound counts characters, not bytes
abbrev pub TwentyCharactersAreLegal : Type 0
TwentyCharactersAreLegal = IsLegal people_model (only_people (person (pos 1) (Text (accented 20)) ∷ []))

abbrev pub TwentyOneCharactersAreNot : Type 0
TwentyOneCharactersAreNot = ¬ IsLegal people_model (only_people (person (pos 1) (Text (accented 21)) ∷ []))
