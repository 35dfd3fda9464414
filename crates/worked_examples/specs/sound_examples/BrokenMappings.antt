-- Mappings of which one part is broken.
use Rattle.std.specs.Prelude.{pos, List, [], ◌∷◌, Some, None, codes}
use Rattle.round_trip.specs.Words.{Value, Whole, Kind, EntityModel, EntityType, Table, Fragment, LinkFragment, Cond, CondOn, Schema}
use Rattle.emc_base.specs.declared.value.Kind.TheVariants as kind
use Rattle.emc_base.specs.declared.value.Under.TheVariants as under
use Rattle.edm_types.specs.declared.mapping.CondOn.TheVariants as on
use Rattle.edm_types.specs.declared.mapping.Test.TheVariants.{Equals}
use Rattle.edm_types.specs.declared.model.Mult.TheVariants.{ZeroOrOne}
use Rattle.worked_examples.specs.Ids.{type_id, set_id, prop_id, table_id, col_id, assoc_id, needed_column, optional, optional_column, set_of, pair_of, just, leaf, concrete_type, model_of}
use Rattle.worked_examples.specs.people.People.{id_prop, name_prop, person_type, people_set, people_fragment, people_by, people_model, people_store}
use Rattle.worked_examples.specs.bosses.Bosses.{bosses, bossed_by, bossed_store, boss_links, boss_links_if}
use Rattle.worked_examples.specs.staff.Salary.{staff_model, staff_store, of_kind}
use Rattle.worked_examples.specs.staff.ByKind.{optional_salaries}
use Rattle.worked_examples.specs.staff.Owners.{shop_model, shop_store}
use Rattle.worked_examples.specs.sound_examples.BrokenStores.{store_of}

-- a Value condition
abbrev pub is_value : CondOn → Value → Cond
is_value what constant = record { on = what; test = Equals constant }

-- the name is written and the id is not
abbrev pub keyless_fragment : Fragment
keyless_fragment = people_fragment (pair_of 1 1 ∷ []) []

abbrev pub keyless : Schema
keyless = people_by keyless_fragment

-- only people of id 1
abbrev pub one_id_fragment : Fragment
one_id_fragment = people_fragment (pair_of 0 0 ∷ pair_of 1 1 ∷ []) (is_value (on.Col (col_id 0)) (Whole (pos 1)) ∷ [])

abbrev pub one_id : Schema
one_id = people_by one_id_fragment

-- the names are compared with a number
abbrev pub wrong_sort_fragment : Fragment
wrong_sort_fragment = people_fragment (pair_of 0 0 ∷ pair_of 1 1 ∷ []) (is_value (on.Prop (prop_id 1)) (Whole (pos 1)) ∷ [])

abbrev pub wrong_sort : Schema
wrong_sort = people_by wrong_sort_fragment

-- the column holds ten characters of a name, which may have twenty
abbrev pub short_table : Table
short_table = record {
  name = codes "People";
  cols = needed_column (codes "Id") kind.Int32 ∷ optional_column (codes "Name") (kind.Text (Some 10)) ∷ [];
  key = col_id 0 ∷ [];
}

abbrev pub all_people : Fragment
all_people = people_fragment (pair_of 0 0 ∷ pair_of 1 1 ∷ []) []

abbrev pub short : Schema
short = record { model = people_model; store = store_of (short_table ∷ []) []; mapping = record { fragments = all_people ∷ []; links = [] } }

-- a fragment of persons writes the salary, which only employees have
abbrev pub salaried_persons : Fragment
salaried_persons = of_kind (codes "/EntityContainerMapping/EntitySetMapping/0/EntityTypeMapping/0/MappingFragment/0") (type_id 0)
    (pair_of 0 0 ∷ pair_of 1 1 ∷ pair_of 2 3 ∷ []) (codes "P")

abbrev pub salaried : Schema
salaried = record { model = staff_model; store = staff_store optional_salaries; mapping = record { fragments = salaried_persons ∷ []; links = [] } }

-- one fragment stands twice
abbrev pub doubled : Schema
doubled = record { model = people_model; store = people_store; mapping = record { fragments = all_people ∷ all_people ∷ []; links = [] } }

-- two sets of people write one table
abbrev pub crowded_model : EntityModel
crowded_model = model_of (person_type ∷ []) (id_prop ∷ name_prop ∷ []) (leaf (type_id 0) ∷ []) (people_set ∷ set_of (codes "Others") (type_id 0) ∷ []) []

abbrev pub all_others : Fragment
all_others = record {
  place = codes "/EntityContainerMapping/EntitySetMapping/1/EntityTypeMapping/0/MappingFragment/0";
  set = set_id 1;
  picks = just (type_id 0) ∷ [];
  table = table_id 0;
  pairs = pair_of 0 0 ∷ pair_of 1 1 ∷ [];
  conds = [];
}

abbrev pub crowded : Schema
crowded = record { model = crowded_model; store = people_store; mapping = record { fragments = all_people ∷ all_others ∷ []; links = [] } }

-- a Value condition on the column that hosts the boss
abbrev pub one_boss_links : LinkFragment
one_boss_links = boss_links_if (is_value (on.Col (col_id 2)) (Whole (pos 1)) ∷ [])

abbrev pub one_boss : Schema
one_boss = bossed_by one_boss_links ZeroOrOne

-- people with a property of this kind, which is written to the column that hosts the boss
abbrev pub told_boss_type : EntityType
told_boss_type = concrete_type (codes "Person") None (prop_id 0 ∷ []) (prop_id 0 ∷ prop_id 1 ∷ prop_id 2 ∷ [])

abbrev pub told_boss_model : Kind → EntityModel
told_boss_model k = model_of (told_boss_type ∷ []) (id_prop ∷ name_prop ∷ optional (type_id 0) (codes "BossId") k ∷ []) (leaf (type_id 0) ∷ []) (people_set ∷ [])
    (bosses ZeroOrOne ∷ [])

abbrev pub told_boss_fragment : List Cond → Fragment
told_boss_fragment conds = people_fragment (pair_of 0 0 ∷ pair_of 1 1 ∷ pair_of 2 2 ∷ []) conds

abbrev pub told_boss_by : Kind → List Cond → Schema
told_boss_by k conds = record {
  model = told_boss_model k;
  store = bossed_store;
  mapping = record { fragments = told_boss_fragment conds ∷ []; links = boss_links ∷ [] };
}

-- a Value condition on this property
abbrev pub boss_is_one : List Cond
boss_is_one = is_value (on.Prop (prop_id 2)) (Whole (pos 1)) ∷ []

abbrev pub told_boss : Schema
told_boss = told_boss_by kind.Int32 boss_is_one

-- the property is an enumeration
abbrev pub enum_kind : Kind
enum_kind = kind.Enum (record { under = under.Int32; members = pos 1 ∷ pos 2 ∷ [] })

abbrev pub enum_boss : Schema
enum_boss = told_boss_by enum_kind []

-- a link fragment of an association with a constraint
abbrev pub owner_links : LinkFragment
owner_links = record {
  place = codes "/EntityContainerMapping/AssociationSetMapping/0";
  assoc = assoc_id 0;
  table = table_id 2;
  first = pair_of 0 1 ∷ [];
  second = pair_of 2 0 ∷ [];
  conds = [];
}

abbrev pub mapped_owner : Schema
mapped_owner = record { model = shop_model; store = shop_store; mapping = record { fragments = []; links = owner_links ∷ [] } }
