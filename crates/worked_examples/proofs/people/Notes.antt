-- A column of notes that no fragment names: it is free, is erased, and is kept by an update.
use Rattle.std.proofs.Common.{◌≡◌, ◌≢◌, inl, inr, ℕ, zero, suc, ℤ, List, [], ◌∷◌, length, refl, sym, ap, arith}
use Rattle.std.specs.Prelude.{All, Contains, pos, codes, None}
use Rattle.std.proofs.lemmas.List.Elements.{All-nil, All-from_recursion}
use Rattle.std.specs.List.{AllByRecursion, AllZip}
use Rattle.round_trip.specs.Words.{TableId, ColId, Value, Null, Whole, Text, Table, Fragment, Pair, Cond, Row, cell_of, rows_in, row_key, MetByEntity, Selects, entities_in, AreTables, Writing, Writes, WritesRow, TablesAre, IsNamedBy, IsFree, IsErasedRow, IsKeptRow}
use Rattle.edm_types.specs.declared.mapping.CondOn.TheVariants as on
use Rattle.emc_base.specs.declared.value.Kind.TheVariants as kind
use Rattle.worked_examples.specs.Ids.{type_id, table_id, col_id, set_id, just, pair_of, row_of, optional_column}
use Rattle.worked_examples.specs.people.People.{people_model, people_fragment, people_table, person}
use Rattle.worked_examples.specs.bosses.NoBoss.{boss_is_null}
use Rattle.worked_examples.specs.people.Notes.{noted, noted_by, noted_table, noted_store, noted_row, noted_rows, one_noted, two_people, NoteIsFree, WrittenColumnsAreNot, AskedColumnIsNot, UnwrittenTableHasNone, NoteIsErased, NoteIsKept}
use Rattle.worked_examples.proofs.facts.Small.{each_at, each_of, any_here, any_later}
use Rattle.worked_examples.proofs.facts.Writings.{entity_writing, each_writing, each_given, no_row}
use Rattle.worked_examples.proofs.facts.KeyedRows.{IsInItsRow, IsDemandedRow, HasItsRow, keyed_rows, no_clash_by_keys}
use Rattle.worked_examples.proofs.facts.States.{IsStoredAt, stored_by_tables}

abbrev both : List Pair
both = pair_of 0 0 ∷ pair_of 1 1 ∷ []

abbrev writes_both : Fragment
writes_both = people_fragment both []

-- columns and tables of other numbers
other_column : (n : ℕ) → n ≢ 2 → col_id n ≢ col_id 2
other_column n other same = other (ap (λ (col : ColId). col.index) same)

first_is_not : table_id 0 ≢ table_id 1
first_is_not same = absurd (let none : 0 ≡ 1 = ap (λ (t : TableId). t.index) same in omega (arith, none))

-- no pair is of the third column
unnamed : ¬ IsNamedBy both [] (col_id 2)
unnamed (inl some) = each_of (λ pair. ¬ (pair.col ≡ col_id 2)) both some.1 (other_column 0 (omega arith), (other_column 1 (omega arith), tt)) (some.0, some.2, some.3) some.4
unnamed (inr some) = absurd (omega (arith, some.2))

pub free : NoteIsFree
free = record {
  stands = (noted_table, optional_column (codes "Note") (kind.Text None), refl, refl);
  written = inl (any_here (λ (fragment : Fragment). fragment.table ≡ table_id 0) writes_both [] refl);
  unnamed = All-from_recursion (λ (fragment : Fragment). fragment.table ≡ table_id 0 → ¬ IsNamedBy fragment.pairs fragment.conds (col_id 2)) (writes_both ∷ []) ((λ here. unnamed), tt);
  unlinked = All-nil _;
}

-- what a fragment names isn't free
named_is_not : (pairs : List Pair) (conds : List Cond) (col : ColId) → IsNamedBy pairs conds col → ¬ IsFree (noted_by (people_fragment pairs conds)) (table_id 0) col
named_is_not pairs conds col named is = is.unnamed 0 (people_fragment pairs conds) (omega arith) refl named

pub written : WrittenColumnsAreNot
written = (
  named_is_not both [] (col_id 0) (inl (any_here (λ (pair : Pair). pair.col ≡ col_id 0) (pair_of 0 0) (pair_of 1 1 ∷ []) refl)),
  named_is_not both [] (col_id 1) (inl (any_later (λ (pair : Pair). pair.col ≡ col_id 1) (pair_of 0 0) (pair_of 1 1 ∷ []) (any_here (λ (pair : Pair). pair.col ≡ col_id 1) (pair_of 1 1) [] refl))),
)

pub asked_is_not : AskedColumnIsNot
asked_is_not = named_is_not both (boss_is_null ∷ []) (col_id 2) (inr (any_here (λ (cond : Cond). cond.on ≡ on.Col (col_id 2)) boss_is_null [] refl))

pub unwritten : UnwrittenTableHasNone
unwritten is = elim is.written [
  | inl some ↦ absurd (each_of (λ (fragment : Fragment). ¬ (fragment.table ≡ table_id 1)) (writes_both ∷ []) some.1 (first_is_not, tt) (some.0, some.2, some.3) some.4)
  | inr some ↦ absurd (omega (arith, some.2))
]

-- what a row without the note holds in each column: null where it is free, and else what the noted row holds
module _ (id : ℤ) (name note : Value) where
  free_is_null : (n : ℕ) → IsFree noted (table_id 0) (col_id n) → cell_of (noted_row id name Null) (col_id n) ≡ Null
  free_is_null zero is = absurd (written.0 is)
  free_is_null (suc zero) is = absurd (written.1 is)
  free_is_null (suc (suc n)) is = beyond n
    where
      beyond : (m : ℕ) → cell_of (noted_row id name Null) (col_id (suc (suc m))) ≡ Null
      beyond zero = refl
      beyond (suc m) = refl

  rest_is_same : (n : ℕ) → ¬ IsFree noted (table_id 0) (col_id n) → cell_of (noted_row id name Null) (col_id n) ≡ cell_of (noted_row id name note) (col_id n)
  rest_is_same zero other = refl
  rest_is_same (suc zero) other = refl
  rest_is_same (suc (suc zero)) other = absurd (other free)
  rest_is_same (suc (suc (suc n))) other = refl

  pub erased_row : IsErasedRow (IsFree noted (table_id 0)) (noted_row id name note) (noted_row id name Null)
  erased_row = record { free = λ col is. free_is_null col.index is; rest = λ col other. rest_is_same col.index other }

-- rows of three cells in the first table, and none in the second
have_cells : (rows : List Row) → AllByRecursion (λ (row : Row). length row.cells ≡ 3) rows → AreTables noted_store (noted_rows rows)
have_cells rows each = record {
  each = refl;
  rows = λ t table at. each_at (λ i (declared : Table). All (λ (row : Row). length row.cells ≡ length declared.cols) (rows_in (noted_rows rows) (table_id i)))
      (noted_table ∷ people_table ∷ [])
      (All-from_recursion (λ (row : Row). length row.cells ≡ 3) rows each, (All-nil (λ (row : Row). length row.cells ≡ 2), tt)) t.index table at;
}

pub erased : NoteIsErased
erased = record { shape = have_cells (noted_row (pos 1) (Text (codes "a")) Null ∷ []) (refl, tt); rows = λ t. by t.index }
  where
    by : (i : ℕ) → AllZip (IsErasedRow (IsFree noted (table_id i))) (rows_in one_noted (table_id i)) (rows_in (noted_rows (noted_row (pos 1) (Text (codes "a")) Null ∷ [])) (table_id i))
    by zero = (erased_row (pos 1) (Text (codes "a")) (Text (codes "x")), tt)
    by (suc zero) = tt
    by (suc (suc i)) = tt

-- the tables of the two people
abbrev first_row : Row
first_row = noted_row (pos 1) (Text (codes "b")) Null

abbrev second_row : Row
second_row = noted_row (pos 2) (Text (codes "c")) Null

abbrev rows : List Row
rows = first_row ∷ second_row ∷ []

abbrev of_person : ℕ → List ℕ → Writing
of_person id name = entity_writing noted writes_both (person (pos id) (Text name))

selected : (id : ℕ) (name : List ℕ) → Selects people_model writes_both (person (pos id) (Text name))
selected id name = record {
  picked = (0, just (type_id 0), omega arith, refl, refl);
  meets = All-nil (λ cond. MetByEntity people_model (person (pos id) (Text name)) cond.on cond.test);
}

each : (Q : Writing → Type 0) → Q (of_person 1 (codes "b")) → Q (of_person 2 (codes "c")) → (writing : Writing) → Writes noted two_people writing → Q writing
each Q first second writing by = each_writing noted two_people Q (((λ s. first), ((λ s. second), tt)), tt) tt writing by

abbrev row_at : ℕ → Row
row_at zero = row_of []
row_at (suc zero) = first_row
row_at (suc (suc n)) = second_row

abbrev row_for : TableId → List Value → Row
row_for t (Whole (pos n) ∷ rest) = row_at n
row_for t _ = row_of []

in_row : (id : ℕ) (name : List ℕ) → Whole (pos id) ≡ cell_of (row_at id) (col_id 0) → Text name ≡ cell_of (row_at id) (col_id 1)
    → IsInItsRow noted two_people row_for (of_person id name)
in_row id name is_id is_name col value gives = each_given (of_person id name) (λ c v. v ≡ cell_of (row_at id) c) (is_id, (is_name, tt)) tt col value gives

in_rows : (writing : Writing) → Writes noted two_people writing → IsInItsRow noted two_people row_for writing
in_rows writing by = each (IsInItsRow noted two_people row_for) (in_row 1 (codes "b") refl refl) (in_row 2 (codes "c") refl refl) writing by

writes : (id : ℕ) (name : List ℕ) → Contains (entities_in two_people (set_id 0)) (person (pos id) (Text name))
    → WritesRow noted two_people (table_id 0) (Whole (pos id) ∷ []) (of_person id name)
writes id name among = record {
  writes = inl (writes_both, person (pos id) (Text name), record { mapped = (0, omega arith, refl); stands = among; selected = selected id name }, refl);
  to_table = refl;
  to_key = refl;
}

abbrev IsOneOf : Row → Type 0
IsOneOf row = IsDemandedRow noted two_people row_for in_rows (table_id 0) noted_table row

demanded : (id : ℕ) (name : List ℕ) → row_at id ≡ noted_row (pos id) (Text name) Null → WritesRow noted two_people (table_id 0) (Whole (pos id) ∷ []) (of_person id name)
    → IsOneOf (noted_row (pos id) (Text name) Null)
demanded id name is_row person_writes = record {
  demanded = (of_person id name, person_writes);
  for_key = is_row;
  cells = (inr (of_person id name, person_writes, inl (0, omega arith, refl)), (inr (of_person id name, person_writes, inl (1, omega arith, refl)), (inl refl, tt)));
}

abbrev IsFound : Writing → Type 0
IsFound writing = HasItsRow noted two_people row_for in_rows (table_id 0) noted_table rows writing

stored_in_first : IsStoredAt noted two_people (noted_rows rows) 0 noted_table
stored_in_first = record {
  shape = All-from_recursion (λ (row : Row). length row.cells ≡ 3) rows (refl, (refl, tt));
  rows = keyed_rows noted two_people row_for in_rows (table_id 0) noted_table rows
      (demanded 1 (codes "b") refl (writes 1 (codes "b") (0, omega arith, refl)), (demanded 2 (codes "c") refl (writes 2 (codes "c") (1, omega arith, refl)), tt))
      (λ writing by. each IsFound
      (λ here. any_here (λ (row : Row). row_key noted_table row ≡ Whole (pos 1) ∷ []) first_row (second_row ∷ []) refl)
      (λ here. any_later (λ (row : Row). row_key noted_table row ≡ Whole (pos 2) ∷ []) first_row (second_row ∷ [])
      (any_here (λ (row : Row). row_key noted_table row ≡ Whole (pos 2) ∷ []) second_row [] refl)) writing by)
      (((λ same. absurd (cc)), tt), (tt, tt));
}

stored_in_second : IsStoredAt noted two_people (noted_rows rows) 1 people_table
stored_in_second = record {
  shape = All-nil (λ (row : Row). length row.cells ≡ 2);
  rows = no_row noted two_people (table_id 1) people_table (λ writing by. each (λ w. w.table ≢ table_id 1) (λ same. first_is_not same) (λ same. first_is_not same) writing by);
}

stored : TablesAre noted two_people (noted_rows rows)
stored = stored_by_tables noted two_people (noted_rows rows) refl (no_clash_by_keys noted two_people row_for in_rows) (stored_in_first, (stored_in_second, tt))

-- the rows after the update: the note of the first is kept, and the second has none
abbrev kept_row : Row
kept_row = noted_row (pos 1) (Text (codes "b")) (Text (codes "x"))

abbrev old_row : Row
old_row = noted_row (pos 1) (Text (codes "a")) (Text (codes "x"))

first_kept : IsKeptRow (IsFree noted (table_id 0)) noted_table (old_row ∷ []) first_row kept_row
first_kept = record {
  stays = All-from_recursion (λ (before : Row). row_key noted_table before ≡ row_key noted_table first_row → (col : ColId) → IsFree noted (table_id 0) col → cell_of kept_row col ≡ cell_of before col)
      (old_row ∷ []) ((λ same col is. old_note col.index is), tt);
  new = λ none. absurd (none 0 old_row (omega arith) refl);
  rest = λ col other. sym (rest_is_same (pos 1) (Text (codes "b")) (Text (codes "x")) col.index other);
}
  where
    old_note : (n : ℕ) → IsFree noted (table_id 0) (col_id n) → cell_of kept_row (col_id n) ≡ cell_of old_row (col_id n)
    old_note zero is = refl
    old_note (suc zero) is = absurd (written.1 is)
    old_note (suc (suc zero)) is = refl
    old_note (suc (suc (suc n))) is = refl

second_kept : IsKeptRow (IsFree noted (table_id 0)) noted_table (old_row ∷ []) second_row second_row
second_kept = record {
  stays = All-from_recursion (λ (before : Row). row_key noted_table before ≡ row_key noted_table second_row → (col : ColId) → IsFree noted (table_id 0) col → cell_of second_row col ≡ cell_of before col)
      (old_row ∷ []) ((λ same. absurd (cc)), tt);
  new = λ none col is. refl;
  rest = λ col other. refl;
}

pub kept : NoteIsKept
kept = record {
  tables = noted_rows rows;
  are = stored;
  keeps = record {
    shape = have_cells (kept_row ∷ second_row ∷ []) (refl, (refl, tt));
    rows = λ t table at. each_at (λ i (declared : Table). AllZip (IsKeptRow (IsFree noted (table_id i)) declared (rows_in one_noted (table_id i)))
        (rows_in (noted_rows rows) (table_id i)) (rows_in (noted_rows (kept_row ∷ second_row ∷ [])) (table_id i)))
        (noted_table ∷ people_table ∷ []) ((first_kept, (second_kept, tt)), (tt, tt)) t.index table at;
  };
}
