-- JoinedBosses: people who may have several bosses, in a table of its own whose key is the ids of both.
use Rattle.std.specs.Prelude.{ℤ, pos, [], ◌∷◌, codes}
use Rattle.round_trip.specs.Words.{Null, Whole, StoreModel, Table, ForeignKey, LinkFragment, Schema, Row, State, Tables, IsLegal, AreLegalTables, TablesAre, Satisfies}
use Rattle.emc_base.specs.declared.value.Kind.TheVariants as kind
use Rattle.edm_types.specs.declared.model.Mult.TheVariants.{Many}
use Rattle.worked_examples.specs.Ids.{table_id, col_id, assoc_id, needed_column, pair_of, row_of}
use Rattle.worked_examples.specs.people.People.{people_table, person, person_row}
use Rattle.worked_examples.specs.bosses.Bosses.{bossed_model, boss_of, with_bosses, all_people}

abbrev pub joined_table : Table
joined_table = record {
  name = codes "Bosses";
  cols = needed_column (codes "StaffId") kind.Int32 ∷ needed_column (codes "ManagerId") kind.Int32 ∷ [];
  key = col_id 0 ∷ col_id 1 ∷ [];
}

-- both are people
abbrev pub staff_key : ForeignKey
staff_key = record { name = codes "FK_Staff"; from = table_id 1; from_cols = col_id 0 ∷ []; to = table_id 0; to_cols = col_id 0 ∷ [] }

abbrev pub manager_key : ForeignKey
manager_key = record { name = codes "FK_Manager"; from = table_id 1; from_cols = col_id 1 ∷ []; to = table_id 0; to_cols = col_id 0 ∷ [] }

abbrev pub joined_store : StoreModel
joined_store = record { namespace = codes "S"; container = codes "D"; tables = people_table ∷ joined_table ∷ []; keys = staff_key ∷ manager_key ∷ [] }

-- the link is a row of its own
abbrev pub joined_links : LinkFragment
joined_links = record {
  place = codes "/EntityContainerMapping/AssociationSetMapping/0";
  assoc = assoc_id 0;
  table = table_id 1;
  first = pair_of 0 0 ∷ [];
  second = pair_of 0 1 ∷ [];
  conds = [];
}

abbrev pub joined : Schema
joined = record {
  model = bossed_model Many;
  store = joined_store;
  mapping = record { fragments = all_people ∷ []; links = joined_links ∷ [] };
}

-- three people, of whom the first has two bosses and the third is the boss of two
abbrev pub joined_state : State
joined_state = with_bosses (person (pos 1) Null ∷ person (pos 2) Null ∷ person (pos 3) Null ∷ [])
    (boss_of (pos 1) (pos 2) ∷ boss_of (pos 1) (pos 3) ∷ boss_of (pos 2) (pos 3) ∷ [])

abbrev pub link_row : ℤ → ℤ → Row
link_row staff manager = row_of (Whole staff ∷ Whole manager ∷ [])

-- a row for each person, and one for each link
abbrev pub joined_tables : Tables
joined_tables = (person_row (pos 1) Null ∷ person_row (pos 2) Null ∷ person_row (pos 3) Null ∷ [])
    ∷ (link_row (pos 1) (pos 2) ∷ link_row (pos 1) (pos 3) ∷ link_row (pos 2) (pos 3) ∷ [])
    ∷ []

abbrev pub JoinedIsLegal : Type 0
JoinedIsLegal = IsLegal (bossed_model Many) joined_state

abbrev pub JoinedIsStored : Type 0
JoinedIsStored = TablesAre joined joined_state joined_tables

abbrev pub JoinedTablesAreLegal : Type 0
JoinedTablesAreLegal = AreLegalTables joined_store joined_tables

abbrev pub JoinedTablesSatisfy : Type 0
JoinedTablesSatisfy = Satisfies joined joined_state joined_tables
