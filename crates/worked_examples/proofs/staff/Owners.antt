-- An order of a person who is no employee: the state is legal, and its tables have no row of an employee.
use Rattle.std.proofs.Common.{◌≡◌, ◌≢◌, inl, inr, ℕ, ◌≤◌, [], ◌∷◌, length, refl, sym, ap, subst, arith}
use Rattle.std.specs.Prelude.{All, pos, Some, false}
use Rattle.std.proofs.lemmas.List.Elements.{All-nil, All-from_recursion}
use Rattle.round_trip.specs.Words.{TypeId, TableId, ColId, Value, Null, Whole, EntityType, Entity, Row, HasBase, IsA, values_of, IsLink, Tables, MetByEntity, IsPicked, Selects, HasPrincipal, HavePrincipals, IsLegal, Writing, Writes, written_to, Fills, TablesAre}
use Rattle.edm_types.specs.IsA.{same}
use Rattle.worked_examples.specs.Ids.{type_id, prop_id, table_id, just, with_below, row_of}
use Rattle.worked_examples.specs.people.People.{people_set, people_table, person, person_row}
use Rattle.worked_examples.specs.staff.Owners.{employee_type, employees_table, order_id_prop, owner_id_prop, order_type, orders_set, owner, owner_constraint, owner_key, shop_model, orders_table, all_people, all_employees, orders, shop, order, owned_by_a_person, OwnerDangles}
use Rattle.worked_examples.proofs.facts.Small.{each_at, any_one}
use Rattle.worked_examples.proofs.facts.Entities.{IsA-after, MayStand, two_values_stand, shaped_set, legal_set}
use Rattle.worked_examples.proofs.facts.Values.{whole_fits}
use Rattle.worked_examples.proofs.facts.Writings.{entity_writing, each_writing, each_given, IsOnlyWriting, IsRowOf, AreApart, no_clash, one_row, no_row, row_made}
use Rattle.worked_examples.proofs.facts.States.{legal_by_parts, stored_by_tables}
use Rattle.worked_examples.proofs.people.People.{no_name}

abbrev someone : Entity
someone = person (pos 9) Null

abbrev ordered : Entity
ordered = order (pos 5) (pos 9)

may_stand : MayStand shop_model people_set someone
may_stand = two_values_stand (Whole (pos 9)) Null (whole_fits false 9 (omega arith)) no_name

may_be_ordered : MayStand shop_model orders_set ordered
may_be_ordered = record {
  shape = (order_type, refl, refl);
  type = record { concrete = (order_type, refl, refl); under = same (type_id 2) };
  fits = (
    record { declared = order_id_prop; is_declared = refl; fits = whole_fits false 5 (omega arith) },
    (record { declared = owner_id_prop; is_declared = refl; fits = whole_fits false 9 (omega arith) }, tt),
  );
}

-- the entity, if it is an order of an owner, finds this owner
abbrev FindsOwner : Entity → Type 0
FindsOwner entity = IsA shop_model entity.ty (type_id 2) → All (λ value. value ≢ Null) (values_of shop_model entity (prop_id 3 ∷ []))
    → HasPrincipal shop_model owned_by_a_person owner owner_constraint (values_of shop_model entity (prop_id 3 ∷ []))

owners_stand : HavePrincipals shop_model owned_by_a_person owner owner_constraint
owners_stand = All-from_recursion FindsOwner (ordered ∷ []) ((λ typed told. (0, someone, omega arith, refl, refl)), tt)

legal : IsLegal shop_model owned_by_a_person
legal = legal_by_parts shop_model owned_by_a_person (record {
  count = refl;
  link_count = refl;
  shapes = (shaped_set shop_model people_set (someone ∷ []) (may_stand, tt), (shaped_set shop_model orders_set (ordered ∷ []) (may_be_ordered, tt), tt));
  sets = (
    legal_set shop_model people_set (someone ∷ []) (may_stand, tt) (tt, tt),
    (legal_set shop_model orders_set (ordered ∷ []) (may_be_ordered, tt) (tt, tt), tt),
  );
  assocs = (
    record {
      shape = All-nil (IsLink shop_model owner);
      links = λ independent. absurd (cc);
      principals = λ constraint told.
          let equal : owner_constraint ≡ constraint = cc in
          subst (λ c. HavePrincipals shop_model owned_by_a_person owner c) equal owners_stand;
    },
    tt,
  );
})

-- a base type stands before the types that are derived from it
abbrev BaseBefore : TypeId → ℕ → EntityType → Type 0
BaseBefore u i type = type.base ≡ Some u → u.index ≤ i

employee_after : (u : TypeId) → employee_type.base ≡ Some u → u.index ≤ 1
employee_after u told =
    let equal : type_id 0 ≡ u = cc in
    let index : ◌≡◌ {A = ℕ} 0 u.index = ap (λ (t : TypeId). t.index) equal in
    omega arith

base_before : (t u : TypeId) → HasBase shop_model t u → u.index ≤ t.index
base_before t u has = each_at (BaseBefore u) shop_model.types ((λ none. absurd (cc)), (employee_after u, ((λ none. absurd (cc)), tt))) t.index has.0 has.1 has.2

not_employed : ¬ Selects shop_model all_employees someone
not_employed selects =
    let typed : IsA shop_model (type_id 0) (type_id 1) = any_one (IsPicked shop_model (type_id 0)) (with_below (type_id 1)) selects.picked in
    let after : 1 ≤ 0 = IsA-after shop_model base_before typed in
    absurd (omega arith)

person_selected : Selects shop_model all_people someone
person_selected = record {
  picked = (0, with_below (type_id 0), omega arith, refl, same (type_id 0));
  meets = All-nil (λ cond. MetByEntity shop_model someone cond.on cond.test);
}

order_selected : Selects shop_model orders ordered
order_selected = record {
  picked = (0, just (type_id 2), omega arith, refl, refl);
  meets = All-nil (λ cond. MetByEntity shop_model ordered cond.on cond.test);
}

abbrev person_writing : Writing
person_writing = entity_writing shop all_people someone

abbrev order_writing : Writing
order_writing = entity_writing shop orders ordered

-- what holds of the two writings holds of each
each : (Q : Writing → Type 0) → Q person_writing → Q order_writing → (writing : Writing) → Writes shop owned_by_a_person writing → Q writing
each Q of_person of_order writing by = each_writing shop owned_by_a_person Q
    (((λ selects. of_person), tt), (((λ selects. absurd (not_employed selects)), tt), (((λ selects. of_order), tt), tt))) tt writing by

-- the two writings are to tables of their own
tables_differ : table_id 0 ≢ table_id 2
tables_differ equal = let index : ◌≡◌ {A = ℕ} 0 2 = ap (λ (t : TableId). t.index) equal in absurd (omega arith)

abbrev person_stored : Row
person_stored = person_row (pos 9) Null

abbrev order_stored : Row
order_stored = row_of (Whole (pos 5) ∷ Whole (pos 9) ∷ [])

abbrev tables : Tables
tables = (person_stored ∷ []) ∷ [] ∷ (order_stored ∷ []) ∷ []

only_person : IsOnlyWriting shop owned_by_a_person (table_id 0) person_writing
only_person = record {
  writes = inl (all_people, someone, record { mapped = (0, omega arith, refl); stands = (0, omega arith, refl); selected = person_selected }, refl);
  to_table = refl;
  only = λ other by. each (λ w. w.table ≡ table_id 0 → w ≡ person_writing) (λ equal. refl) (λ equal. absurd (tables_differ (sym equal))) other by;
}

only_order : IsOnlyWriting shop owned_by_a_person (table_id 2) order_writing
only_order = record {
  writes = inl (orders, ordered, record { mapped = (2, omega arith, refl); stands = (0, omega arith, refl); selected = order_selected }, refl);
  to_table = refl;
  only = λ other by. each (λ w. w.table ≡ table_id 2 → w ≡ order_writing) (λ equal. absurd (tables_differ equal)) (λ equal. refl) other by;
}

no_employee : (writing : Writing) → Writes shop owned_by_a_person writing → writing.table ≢ table_id 1
no_employee writing by = each (λ w. w.table ≢ table_id 1)
    (λ equal. let index : ◌≡◌ {A = ℕ} 0 1 = ap (λ (t : TableId). t.index) equal in absurd (omega arith))
    (λ equal. let index : ◌≡◌ {A = ℕ} 2 1 = ap (λ (t : TableId). t.index) equal in absurd (omega arith)) writing by

person_made : IsRowOf shop people_table person_writing person_stored
person_made = row_made shop people_table person_writing person_stored refl (refl, (refl, tt)) tt (inr (inl (0, omega arith, refl)), (inr (inl (1, omega arith, refl)), tt))

order_made : IsRowOf shop orders_table order_writing order_stored
order_made = row_made shop orders_table order_writing order_stored refl (refl, (refl, tt)) tt (inr (inl (0, omega arith, refl)), (inr (inl (1, omega arith, refl)), tt))

-- a writing gives a column what it writes to it
abbrev GivesWritten : Writing → Type 0
GivesWritten writing = (col : ColId) (value : Value) → Fills writing col value → value ≡ written_to writing.cells col

abbrev IsApart : Writing → Type 0
IsApart writing = (other : Writing) → Writes shop owned_by_a_person other → writing.table ≡ other.table → writing ≡ other

apart : AreApart shop owned_by_a_person
apart = record {
  only = λ one two by_one by_two equal. each IsApart
      (λ other by e. sym (only_person.only other by (sym e)))
      (λ other by e. sym (only_order.only other by (sym e))) one by_one two by_two equal;
  value_at = λ w col. written_to w.cells col;
  given = λ writing by. each GivesWritten
      (λ col value gives. each_given person_writing (λ c v. v ≡ written_to person_writing.cells c) (refl, (refl, tt)) tt col value gives)
      (λ col value gives. each_given order_writing (λ c v. v ≡ written_to order_writing.cells c) (refl, (refl, tt)) tt col value gives) writing by;
}

abbrev HasTwoCells : Row → Type 0
HasTwoCells row = length row.cells ≡ 2

abbrev HasOneCell : Row → Type 0
HasOneCell row = length row.cells ≡ 1

stored : TablesAre shop owned_by_a_person tables
stored = stored_by_tables shop owned_by_a_person tables refl (no_clash shop owned_by_a_person apart) (
  record {
    shape = All-from_recursion HasTwoCells (person_stored ∷ []) (refl, tt);
    rows = one_row shop owned_by_a_person (table_id 0) people_table person_writing person_stored only_person person_made;
  },
  (
    record { shape = All-nil HasOneCell; rows = no_row shop owned_by_a_person (table_id 1) employees_table no_employee },
    (
      record {
        shape = All-from_recursion HasTwoCells (order_stored ∷ []) (refl, tt);
        rows = one_row shop owned_by_a_person (table_id 2) orders_table order_writing order_stored only_order order_made;
      },
      tt,
    ),
  ),
)

pub owner_dangles : OwnerDangles
owner_dangles other = record {
  legal = legal;
  fails = record {
    tables = tables;
    defined = stored;
    key = owner_key;
    table = orders_table;
    row = order_stored;
    is_key = (1, omega arith, refl);
    is_table = refl;
    is_row = (0, omega arith, refl);
    refers = All-from_recursion (λ value. value ≢ Null) (Whole (pos 9) ∷ []) ((λ none. absurd (cc)), tt);
    no_row = λ found. absurd (omega (arith, found.2));
    place_is = refl;
  };
}
