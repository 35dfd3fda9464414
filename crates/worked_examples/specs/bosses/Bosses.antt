-- Bosses: people who have bosses among them, so many as a multiplicity says, and a table with a column for one boss.
use Rattle.std.specs.Prelude.{ℕ, ℤ, List, [], ◌∷◌, Some, None, codes}
use Rattle.round_trip.specs.Words.{Whole, EntityModel, Assoc, End, Mult, StoreModel, Table, Column, ForeignKey, Fragment, LinkFragment, Cond, Schema, Entity, Link, State}
use Rattle.emc_base.specs.declared.value.Kind.TheVariants as kind
use Rattle.edm_types.specs.declared.model.Mult.TheVariants.{Many}
use Rattle.worked_examples.specs.Ids.{type_id, set_id, table_id, col_id, assoc_id, needed_column, optional_column, pair_of}
use Rattle.worked_examples.specs.people.People.{people_with, people_fragment}

-- so many people in this role
abbrev pub people_as : List ℕ → Mult → End
people_as role mult = record { role = role; set = set_id 0; ty = type_id 0; mult = mult }

-- a person has so many bosses, and is the boss of any number of people
abbrev pub bosses : Mult → Assoc
bosses mult = record {
  set_name = codes "Boss";
  assoc_name = codes "Boss";
  first = people_as (codes "Staff") Many;
  second = people_as (codes "Manager") mult;
  constraint = None;
}

abbrev pub bossed_model : Mult → EntityModel
bossed_model mult = people_with (bosses mult ∷ [])

-- the one has the other as a boss
abbrev pub boss_of : ℤ → ℤ → Link
boss_of staff manager = record { first = Whole staff ∷ []; second = Whole manager ∷ [] }

-- a state of these people and their bosses
abbrev pub with_bosses : List Entity → List Link → State
with_bosses entities links = record { entities = entities ∷ []; links = links ∷ [] }

abbrev pub boss_column : Column
boss_column = optional_column (codes "BossId") kind.Int32

abbrev pub bossed_table : Table
bossed_table = record {
  name = codes "People";
  cols = needed_column (codes "Id") kind.Int32 ∷ optional_column (codes "Name") (kind.Text (Some 20)) ∷ boss_column ∷ [];
  key = col_id 0 ∷ [];
}

-- a boss is one of the people
abbrev pub boss_key : ForeignKey
boss_key = record { name = codes "FK_Boss"; from = table_id 0; from_cols = col_id 2 ∷ []; to = table_id 0; to_cols = col_id 0 ∷ [] }

abbrev pub bossed_store : StoreModel
bossed_store = record { namespace = codes "S"; container = codes "D"; tables = bossed_table ∷ []; keys = boss_key ∷ [] }

-- id and name of each person
abbrev pub all_people : Fragment
all_people = people_fragment (pair_of 0 0 ∷ pair_of 1 1 ∷ []) []

-- the link stands in the row of the one who is staff
abbrev pub boss_links_if : List Cond → LinkFragment
boss_links_if conds = record {
  place = codes "/EntityContainerMapping/AssociationSetMapping/0";
  assoc = assoc_id 0;
  table = table_id 0;
  first = pair_of 0 0 ∷ [];
  second = pair_of 0 2 ∷ [];
  conds = conds;
}

abbrev pub boss_links : LinkFragment
boss_links = boss_links_if []

-- people and links stand in one table
abbrev pub bossed_by : LinkFragment → Mult → Schema
bossed_by fragment mult = record {
  model = bossed_model mult;
  store = bossed_store;
  mapping = record { fragments = all_people ∷ []; links = fragment ∷ [] };
}

abbrev pub bossed : Mult → Schema
bossed mult = bossed_by boss_links mult
