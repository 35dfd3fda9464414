-- Three people, of whom the first is the boss of the others: two rows come of a person and of a link.
use Rattle.std.proofs.Common.{◌≡◌, ◌≢◌, inl, inr, ℕ, zero, suc, List, [], ◌∷◌, ◌++◌, refl, sym, ◌∙◌, arith}
use Rattle.std.specs.Prelude.{Contains, pos, codes, false, true}
use Rattle.std.specs.List.{AllByRecursion}
use Rattle.std.proofs.lemmas.List.Elements.{All-nil, All-from_recursion}
use Rattle.round_trip.specs.Words.{TableId, Value, Null, Whole, Text, EntityModel, Assoc, Schema, Entity, Link, Row, AtMostOne, cell_of, MetByEntity, Selects, ShowsLink, Refers, FindsRow, KeepsForeignKey, Writing, Writes, WritesRow}
use Rattle.emc_base.specs.declared.value.Kind.TheVariants as kind
use Rattle.edm_types.specs.declared.model.Mult.TheVariants.{ZeroOrOne}
use Rattle.worked_examples.specs.Ids.{type_id, table_id, col_id, just, pair_of, row_of}
use Rattle.worked_examples.specs.people.People.{people_set, person}
use Rattle.worked_examples.specs.bosses.Bosses.{bosses, bossed, bossed_model, bossed_table, bossed_store, boss_key, boss_links, boss_of, all_people}
use Rattle.worked_examples.specs.bosses.OneBoss.{crew, crew_row, crew_tables, CrewIsLegal, CrewIsStored, CrewTablesAreLegal, CrewTablesSatisfy}
use Rattle.worked_examples.proofs.facts.Small.{PairsByRecursion, at_most_one}
use Rattle.worked_examples.proofs.facts.Values.{null_fits, whole_fits, text_a, text_b, text_c}
use Rattle.worked_examples.proofs.facts.Entities.{MayStand, HaveOwnKeys}
use Rattle.worked_examples.proofs.facts.Writings.{entity_writing, link_writing, each_writing, each_given, of_links}
use Rattle.worked_examples.proofs.facts.LegalRows.{FitsTable, HaveOwnRowKeys, legal_rows, legal_tables}
use Rattle.worked_examples.proofs.facts.KeyedRows.{IsInItsRow, IsDemandedRow, HasItsRow, all_rows_stored}
use Rattle.worked_examples.proofs.facts.Agreement.{meets_none, Agrees, LinksAgree, agrees, links_agree, satisfied_by_parts}
use Rattle.worked_examples.proofs.people.People.{may_stand_with, a_name, ids_differ}
use Rattle.worked_examples.proofs.bosses.Bosses.{links_differ, is_link, has_ends, legal_bossed}

abbrev schema : Schema
schema = bossed ZeroOrOne

abbrev model : EntityModel
model = bossed_model ZeroOrOne

abbrev boss : Assoc
boss = bosses ZeroOrOne

abbrev named : ℕ → List ℕ → Entity
named id name = person (pos id) (Text name)

abbrev three : List Entity
three = named 1 (codes "a") ∷ named 2 (codes "b") ∷ named 3 (codes "c") ∷ []

abbrev links : List Link
links = boss_of (pos 2) (pos 1) ∷ boss_of (pos 3) (pos 1) ∷ []

-- the row of the boss, and those of the ones led
abbrev boss_row : Row
boss_row = crew_row (pos 1) (codes "a") Null

abbrev led_row : ℕ → List ℕ → Row
led_row id name = crew_row (pos id) name (Whole (pos 1))

abbrev second_row : Row
second_row = led_row 2 (codes "b")

abbrev third_row : Row
third_row = led_row 3 (codes "c")

abbrev rows : List Row
rows = boss_row ∷ second_row ∷ third_row ∷ []

stand : AllByRecursion (MayStand model people_set) three
stand = (
  may_stand_with (boss ∷ []) 1 (Text (codes "a")) (omega arith) (a_name (codes "a") text_a),
  (
    may_stand_with (boss ∷ []) 2 (Text (codes "b")) (omega arith) (a_name (codes "b") text_b),
    (may_stand_with (boss ∷ []) 3 (Text (codes "c")) (omega arith) (a_name (codes "c") text_c), tt),
  ),
)

own : (one two : ℕ) (name other : List ℕ) → one ≢ two → HaveOwnKeys model (named one name) (named two other)
own one two name other differ = ids_differ (boss ∷ []) one two (Text name) (Text other) differ

own_keys : PairsByRecursion (HaveOwnKeys model) three
own_keys = (
  (own 1 2 (codes "a") (codes "b") (omega arith), (own 1 3 (codes "a") (codes "c") (omega arith), tt)),
  ((own 2 3 (codes "b") (codes "c") (omega arith), tt), (tt, tt)),
)

-- the two links are of two people, so that no person has both
one_at_most : (key : List Value) → AtMostOne (λ (link : Link). link.first ≡ key) links
one_at_most key = at_most_one (λ (link : Link). link.first ≡ key) links (((λ second third. absurd (differ (second ∙ sym third))), tt), (tt, tt))
  where
    differ : ¬ (◌≡◌ {A = List Value} (Whole (pos 2) ∷ []) (Whole (pos 3) ∷ []))
    differ equal = absurd (cc)

pub legal : CrewIsLegal
legal = legal_bossed ZeroOrOne three links (record {
  stand = stand;
  own_keys = own_keys;
  shapes = (is_link ZeroOrOne 2 1, (is_link ZeroOrOne 3 1, tt));
  ends = (
    has_ends ZeroOrOne three links (1, omega arith, refl) (0, omega arith, refl),
    (has_ends ZeroOrOne three links (2, omega arith, refl) (0, omega arith, refl), tt),
  );
  once = ((links_differ 2 1 3 1 (λ equal. absurd (omega (arith, equal))), tt), (tt, tt));
  partners = (one_at_most (Whole (pos 1) ∷ []), (one_at_most (Whole (pos 2) ∷ []), (one_at_most (Whole (pos 3) ∷ []), tt)));
})

abbrev of_person : ℕ → List ℕ → Writing
of_person id name = entity_writing schema all_people (named id name)

-- what the link to the first person writes
abbrev of_link : ℕ → Writing
of_link id = link_writing schema boss_links boss (boss_of (pos id) (pos 1))

selected : (id : ℕ) (name : List ℕ) → Selects model all_people (named id name)
selected id name = record { picked = (0, just (type_id 0), omega arith, refl, refl); meets = All-nil (λ cond. MetByEntity model (named id name) cond.on cond.test) }

-- what holds of what the people and the links write holds of each writing
each : (Q : Writing → Type 0) → Q (of_person 1 (codes "a")) → Q (of_person 2 (codes "b")) → Q (of_person 3 (codes "c")) → Q (of_link 2) → Q (of_link 3)
    → (writing : Writing) → Writes schema crew writing → Q writing
each Q first second third second_link third_link writing by = each_writing schema crew Q
    (((λ s. first), ((λ s. second), ((λ s. third), tt))), tt)
    (of_links schema crew Q boss_links boss refl (second_link, (third_link, tt)), tt) writing by

-- the row of an id
abbrev row_at : ℕ → Row
row_at zero = row_of []
row_at (suc zero) = boss_row
row_at (suc (suc zero)) = second_row
row_at (suc (suc (suc n))) = third_row

abbrev row_for : TableId → List Value → Row
row_for t (Whole (pos n) ∷ rest) = row_at n
row_for t _ = row_of []

person_in_row : (id : ℕ) (name : List ℕ) → Whole (pos id) ≡ cell_of (row_at id) (col_id 0) → Text name ≡ cell_of (row_at id) (col_id 1)
    → IsInItsRow schema crew row_for (of_person id name)
person_in_row id name is_id is_name col value gives = each_given (of_person id name) (λ c v. v ≡ cell_of (row_at id) c) (is_id, (is_name, tt)) tt col value gives

link_in_row : (id : ℕ) → Whole (pos id) ≡ cell_of (row_at id) (col_id 0) → Whole (pos 1) ≡ cell_of (row_at id) (col_id 2) → IsInItsRow schema crew row_for (of_link id)
link_in_row id is_id is_boss col value gives = each_given (of_link id) (λ c v. v ≡ cell_of (row_at id) c) (is_id, (is_boss, tt)) tt col value gives

in_rows : (writing : Writing) → Writes schema crew writing → IsInItsRow schema crew row_for writing
in_rows writing by = each (IsInItsRow schema crew row_for)
    (person_in_row 1 (codes "a") refl refl) (person_in_row 2 (codes "b") refl refl) (person_in_row 3 (codes "c") refl refl)
    (link_in_row 2 refl refl) (link_in_row 3 refl refl) writing by

abbrev WritesKey : ℕ → Writing → Type 0
WritesKey id writing = WritesRow schema crew (table_id 0) (Whole (pos id) ∷ []) writing

person_writes : (id : ℕ) (name : List ℕ) → Contains three (named id name) → WritesKey id (of_person id name)
person_writes id name among = record {
  writes = inl (all_people, named id name, record { mapped = (0, omega arith, refl); stands = among; selected = selected id name }, refl);
  to_table = refl;
  to_key = refl;
}

link_writes : (id : ℕ) → Contains links (boss_of (pos id) (pos 1)) → WritesKey id (of_link id)
link_writes id among = record {
  writes = inr (boss_links, boss, boss_of (pos id) (pos 1), record { mapped = (0, omega arith, refl); is_assoc = refl; stands = among }, refl);
  to_table = refl;
  to_key = refl;
}

first : WritesKey 1 (of_person 1 (codes "a"))
first = person_writes 1 (codes "a") (0, omega arith, refl)

second : WritesKey 2 (of_person 2 (codes "b"))
second = person_writes 2 (codes "b") (1, omega arith, refl)

third : WritesKey 3 (of_person 3 (codes "c"))
third = person_writes 3 (codes "c") (2, omega arith, refl)

second_link : WritesKey 2 (of_link 2)
second_link = link_writes 2 (0, omega arith, refl)

third_link : WritesKey 3 (of_link 3)
third_link = link_writes 3 (1, omega arith, refl)

abbrev IsOneOf : Row → Type 0
IsOneOf row = IsDemandedRow schema crew row_for in_rows (table_id 0) bossed_table row

boss_demanded : IsOneOf boss_row
boss_demanded = record {
  demanded = (of_person 1 (codes "a"), first);
  for_key = refl;
  cells = (inr (of_person 1 (codes "a"), first, inl (0, omega arith, refl)), (inr (of_person 1 (codes "a"), first, inl (1, omega arith, refl)), (inl refl, tt)));
}

-- id and name come of the person, and the boss of the link
led_demanded : (id : ℕ) (name : List ℕ) → row_at id ≡ led_row id name → WritesKey id (of_person id name) → WritesKey id (of_link id) → IsOneOf (led_row id name)
led_demanded id name is_row person link = record {
  demanded = (of_person id name, person);
  for_key = is_row;
  cells = (
    inr (of_person id name, person, inl (0, omega arith, refl)),
    (inr (of_person id name, person, inl (1, omega arith, refl)), (inr (of_link id, link, inl (1, omega arith, refl)), tt)),
  );
}

abbrev IsFound : Writing → Type 0
IsFound writing = HasItsRow schema crew row_for in_rows (table_id 0) bossed_table rows writing

found : (writing : Writing) → Writes schema crew writing → IsFound writing
found writing by = each IsFound
    (λ to. (0, boss_row, omega arith, refl, refl))
    (λ to. (1, second_row, omega arith, refl, refl))
    (λ to. (2, third_row, omega arith, refl, refl))
    (λ to. (1, second_row, omega arith, refl, refl))
    (λ to. (2, third_row, omega arith, refl, refl)) writing by

rows_differ : (one two : ℕ) (name other : List ℕ) (x y : Value) → one ≢ two → HaveOwnRowKeys bossed_table (crew_row (pos one) name x) (crew_row (pos two) other y)
rows_differ one two name other x y differ equal = differ (cc)

own_row_keys : PairsByRecursion (HaveOwnRowKeys bossed_table) rows
own_row_keys = (
  (
    rows_differ 1 2 (codes "a") (codes "b") Null (Whole (pos 1)) (omega arith),
    (rows_differ 1 3 (codes "a") (codes "c") Null (Whole (pos 1)) (omega arith), tt),
  ),
  ((rows_differ 2 3 (codes "b") (codes "c") (Whole (pos 1)) (Whole (pos 1)) (omega arith), tt), (tt, tt)),
)

pub stored : CrewIsStored
stored = all_rows_stored schema crew row_for in_rows bossed_table rows (record {
  is_table = refl;
  made = (boss_demanded, (led_demanded 2 (codes "b") refl second second_link, (led_demanded 3 (codes "c") refl third third_link, tt)));
  found = found;
  own = own_row_keys;
  count = (refl, (refl, (refl, tt)));
})

-- the boss of a row is found in the first
abbrev FindsBoss : Row → Type 0
FindsBoss row = Refers boss_key row → FindsRow crew_tables boss_key row

keeps_key : KeepsForeignKey crew_tables boss_key
keeps_key = All-from_recursion FindsBoss rows (
  (λ refers. let none : Null ≢ Null = refers 0 Null (omega arith) in absurd (none refl)),
  ((λ refers. (0, boss_row, omega arith, refl, refl)), ((λ refers. (0, boss_row, omega arith, refl, refl)), tt)),
)

fit : AllByRecursion (FitsTable bossed_table) rows
fit = (
  (whole_fits false 1 (omega arith), (a_name (codes "a") text_a, (null_fits kind.Int32, tt))),
  (
    (whole_fits false 2 (omega arith), (a_name (codes "b") text_b, (whole_fits true 1 (omega arith), tt))),
    ((whole_fits false 3 (omega arith), (a_name (codes "c") text_c, (whole_fits true 1 (omega arith), tt))), tt),
  ),
)

pub tables_legal : CrewTablesAreLegal
tables_legal = legal_tables bossed_store crew_tables stored.shape (legal_rows bossed_table rows fit own_row_keys, tt) (keeps_key, tt)

people_agree : Agrees schema crew crew_tables all_people
people_agree = agrees schema crew crew_tables all_people (
  (λ s. (boss_row, (0, omega arith, refl), meets_none boss_row, refl)),
  ((λ s. (second_row, (1, omega arith, refl), meets_none second_row, refl)), ((λ s. (third_row, (2, omega arith, refl), meets_none third_row, refl)), tt)),
) (
  (λ s. (named 1 (codes "a"), (0, omega arith, refl), selected 1 (codes "a"), refl)),
  (
    (λ s. (named 2 (codes "b"), (1, omega arith, refl), selected 2 (codes "b"), refl)),
    ((λ s. (named 3 (codes "c"), (2, omega arith, refl), selected 3 (codes "c"), refl)), tt),
  ),
)

-- a row with a boss shows a link
shows_link : (id : ℕ) (name : List ℕ) → ShowsLink boss_links (crew_row (pos id) name (Whole (pos 1)))
shows_link id name = record {
  meets = meets_none (crew_row (pos id) name (Whole (pos 1)));
  keys = All-from_recursion (λ pair. cell_of (crew_row (pos id) name (Whole (pos 1))) pair.col ≢ Null) (boss_links.first ++ boss_links.second)
      ((λ none. absurd (cc)), ((λ none. absurd (cc)), tt));
}

-- the row of the boss shows none
shows_no_link : ¬ ShowsLink boss_links boss_row
shows_no_link by = let none : Null ≢ Null = by.keys 1 (pair_of 0 2) (omega arith) in absurd (none refl)

the_links_agree : LinksAgree schema crew crew_tables boss_links
the_links_agree = links_agree schema crew crew_tables boss_links boss refl (
  (second_row, (1, omega arith, refl), shows_link 2 (codes "b"), refl),
  ((third_row, (2, omega arith, refl), shows_link 3 (codes "c"), refl), tt),
) (
  (λ by. absurd (shows_no_link by)),
  (
    (λ by. (boss, boss_of (pos 2) (pos 1), refl, (0, omega arith, refl), refl)),
    ((λ by. (boss, boss_of (pos 3) (pos 1), refl, (1, omega arith, refl), refl)), tt),
  ),
)

pub satisfied : CrewTablesSatisfy
satisfied = satisfied_by_parts schema crew crew_tables (people_agree, tt) (the_links_agree, tt)
