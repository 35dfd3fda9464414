-- Three people with three links among them, each in a row of its own.
use Rattle.std.proofs.Common.{◌≡◌, ◌≢◌, inl, inr, ℕ, ◌≤◌, zero, suc, List, [], ◌∷◌, ◌++◌, length, refl, sym, ap, arith}
use Rattle.std.specs.Prelude.{Any, Contains, pos, false}
use Rattle.std.proofs.lemmas.List.Elements.{All-nil, All-from_recursion}
use Rattle.round_trip.specs.Words.{TableId, Value, Null, Whole, EntityModel, Assoc, Entity, Link, Row, key_of, cell_of, row_key, MetByEntity, Selects, ShowsLink, Refers, FindsRow, KeepsForeignKey, Writing, Writes, WritesRow, AreDemandedRows}
use Rattle.edm_types.specs.declared.model.Mult.TheVariants.{Many}
use Rattle.worked_examples.specs.Ids.{type_id, table_id, just, row_of}
use Rattle.worked_examples.specs.people.People.{people_table, person_row}
use Rattle.worked_examples.specs.bosses.Bosses.{bosses, bossed_model, boss_of, all_people}
use Rattle.worked_examples.specs.bosses.JoinedBosses.{joined, joined_store, joined_table, joined_links, joined_state, joined_tables, staff_key, manager_key, link_row, JoinedIsLegal, JoinedIsStored, JoinedTablesAreLegal, JoinedTablesSatisfy}
use Rattle.worked_examples.proofs.facts.Small.{PairsByRecursion, each_of}
use Rattle.worked_examples.proofs.facts.Values.{whole_fits}
use Rattle.worked_examples.proofs.facts.Writings.{OfFragment, OfLinkFragment, entity_writing, link_writing, each_writing, each_given, of_links}
use Rattle.worked_examples.proofs.facts.States.{stored_by_tables}
use Rattle.worked_examples.proofs.facts.LegalRows.{FitsTable, HaveOwnRowKeys, legal_rows, legal_tables}
use Rattle.worked_examples.proofs.facts.KeyedRows.{IsInItsRow, IsDemandedRow, HasItsRow, no_clash_by_keys, keyed_rows}
use Rattle.worked_examples.proofs.facts.Agreement.{meets_none, Agrees, LinksAgree, agrees, links_agree, satisfied_by_parts}
use Rattle.worked_examples.proofs.people.People.{no_name}
use Rattle.worked_examples.proofs.bosses.Bosses.{links_differ, is_link, unnamed, three_unnamed, three_stand, three_own_keys, has_ends, legal_bossed}

abbrev model : EntityModel
model = bossed_model Many

abbrev boss : Assoc
boss = bosses Many

abbrev link : ℕ → ℕ → Link
link staff manager = boss_of (pos staff) (pos manager)

abbrev links : List Link
links = link 1 2 ∷ link 1 3 ∷ link 2 3 ∷ []

abbrev unnamed_row : ℕ → Row
unnamed_row id = person_row (pos id) Null

abbrev rows : List Row
rows = unnamed_row 1 ∷ unnamed_row 2 ∷ unnamed_row 3 ∷ []

abbrev joined_row : ℕ → ℕ → Row
joined_row staff manager = link_row (pos staff) (pos manager)

abbrev joined_rows : List Row
joined_rows = joined_row 1 2 ∷ joined_row 1 3 ∷ joined_row 2 3 ∷ []

pub legal : JoinedIsLegal
legal = legal_bossed Many three_unnamed links (record {
  stand = three_stand Many;
  own_keys = three_own_keys Many;
  shapes = (is_link Many 1 2, (is_link Many 1 3, (is_link Many 2 3, tt)));
  ends = (
    has_ends Many three_unnamed links (0, omega arith, refl) (1, omega arith, refl),
    (
      has_ends Many three_unnamed links (0, omega arith, refl) (2, omega arith, refl),
      (has_ends Many three_unnamed links (1, omega arith, refl) (2, omega arith, refl), tt),
    ),
  );
  once = (
    (links_differ 1 2 1 3 (λ equal. omega arith), (links_differ 1 2 2 3 (λ equal. omega arith), tt)),
    ((links_differ 1 3 2 3 (λ equal. absurd (omega (arith, equal))), tt), (tt, tt)),
  );
  partners = (tt, (tt, (tt, tt)));
})

abbrev of_person : ℕ → Writing
of_person id = entity_writing joined all_people (unnamed id)

abbrev of_link : ℕ → ℕ → Writing
of_link staff manager = link_writing joined joined_links boss (link staff manager)

selected : (id : ℕ) → Selects model all_people (unnamed id)
selected id = record { picked = (0, just (type_id 0), omega arith, refl, refl); meets = All-nil (λ cond. MetByEntity model (unnamed id) cond.on cond.test) }

-- what holds of what each person and each link writes holds of each writing
each : (Q : Writing → Type 0) → ((id : ℕ) → Contains three_unnamed (unnamed id) → Q (of_person id))
    → ((staff manager : ℕ) → Contains links (link staff manager) → Q (of_link staff manager))
    → (writing : Writing) → Writes joined joined_state writing → Q writing
each Q person linked writing by = each_writing joined joined_state Q (people_write, tt) (links_write, tt) writing by
  where
    people_write : OfFragment joined joined_state Q all_people
    people_write = ((λ s. person 1 (0, omega arith, refl)), ((λ s. person 2 (1, omega arith, refl)), ((λ s. person 3 (2, omega arith, refl)), tt)))

    links_write : OfLinkFragment joined joined_state Q joined_links
    links_write = of_links joined joined_state Q joined_links boss refl
        (linked 1 2 (0, omega arith, refl), (linked 1 3 (1, omega arith, refl), (linked 2 3 (2, omega arith, refl), tt)))

-- a person's row has no name, and the row of a link is its key
abbrev row_at : ℕ → List Value → Row
row_at zero key = row_of (key ++ Null ∷ [])
row_at (suc n) key = row_of key

abbrev row_for : TableId → List Value → Row
row_for t key = row_at t.index key

in_rows : (writing : Writing) → Writes joined joined_state writing → IsInItsRow joined joined_state row_for writing
in_rows writing by = each (IsInItsRow joined joined_state row_for)
    (λ id among col value gives. each_given (of_person id) (λ c v. v ≡ cell_of (unnamed_row id) c) (refl, (refl, tt)) tt col value gives)
    (λ staff manager among col value gives. each_given (of_link staff manager) (λ c v. v ≡ cell_of (joined_row staff manager) c) (refl, (refl, tt)) tt col value gives)
    writing by

abbrev IsPersonRow : Row → Type 0
IsPersonRow r = IsDemandedRow joined joined_state row_for in_rows (table_id 0) people_table r

person_writes : (id : ℕ) → Contains three_unnamed (unnamed id) → WritesRow joined joined_state (table_id 0) (Whole (pos id) ∷ []) (of_person id)
person_writes id among = record {
  writes = inl (all_people, unnamed id, record { mapped = (0, omega arith, refl); stands = among; selected = selected id }, refl);
  to_table = refl;
  to_key = refl;
}

person_demanded : (id : ℕ) → Contains three_unnamed (unnamed id) → IsPersonRow (unnamed_row id)
person_demanded id among = record {
  demanded = (of_person id, person_writes id among);
  for_key = refl;
  cells = (inr (of_person id, person_writes id among, inl (0, omega arith, refl)), (inl refl, tt));
}

abbrev IsLinkRow : Row → Type 0
IsLinkRow r = IsDemandedRow joined joined_state row_for in_rows (table_id 1) joined_table r

link_writes : (staff manager : ℕ) → Contains links (link staff manager)
    → WritesRow joined joined_state (table_id 1) (Whole (pos staff) ∷ Whole (pos manager) ∷ []) (of_link staff manager)
link_writes staff manager among = record {
  writes = inr (joined_links, boss, link staff manager, record { mapped = (0, omega arith, refl); is_assoc = refl; stands = among }, refl);
  to_table = refl;
  to_key = refl;
}

link_demanded : (staff manager : ℕ) → Contains links (link staff manager) → IsLinkRow (joined_row staff manager)
link_demanded staff manager among = record {
  demanded = (of_link staff manager, link_writes staff manager among);
  for_key = refl;
  cells = (
    inr (of_link staff manager, link_writes staff manager among, inl (0, omega arith, refl)),
    (inr (of_link staff manager, link_writes staff manager among, inl (1, omega arith, refl)), tt),
  );
}

zero_is_not_one : table_id 0 ≢ table_id 1
zero_is_not_one equal = let index : ◌≡◌ {A = ℕ} 0 1 = ap (λ (t : TableId). t.index) equal in absurd (omega arith)

-- the key of a person is that of a row, and so are the keys of a link together
abbrev HasPersonRow : Entity → Type 0
HasPersonRow entity = Any (λ r. row_key people_table r ≡ key_of model entity) rows

abbrev HasLinkRow : Link → Type 0
HasLinkRow l = Any (λ r. row_key joined_table r ≡ l.first ++ l.second) joined_rows

person_has_row : (id : ℕ) → Contains three_unnamed (unnamed id) → HasPersonRow (unnamed id)
person_has_row id among = each_of HasPersonRow three_unnamed (unnamed id)
    ((0, unnamed_row 1, omega arith, refl, refl), ((1, unnamed_row 2, omega arith, refl, refl), ((2, unnamed_row 3, omega arith, refl, refl), tt))) among

link_has_row : (staff manager : ℕ) → Contains links (link staff manager) → HasLinkRow (link staff manager)
link_has_row staff manager among = each_of HasLinkRow links (link staff manager)
    ((0, joined_row 1 2, omega arith, refl, refl), ((1, joined_row 1 3, omega arith, refl, refl), ((2, joined_row 2 3, omega arith, refl, refl), tt))) among

rows_differ : (one two : ℕ) → one ≢ two → HaveOwnRowKeys people_table (unnamed_row one) (unnamed_row two)
rows_differ one two differ equal = differ (cc)

joined_rows_differ : (a b c d : ℕ) → (a ≡ c → b ≢ d) → HaveOwnRowKeys joined_table (joined_row a b) (joined_row c d)
joined_rows_differ a b c d other equal = let same_staff : a ≡ c = cc (equal) in other same_staff (cc (equal))

own_row_keys : PairsByRecursion (HaveOwnRowKeys people_table) rows
own_row_keys = ((rows_differ 1 2 (omega arith), (rows_differ 1 3 (omega arith), tt)), ((rows_differ 2 3 (omega arith), tt), (tt, tt)))

own_joined_keys : PairsByRecursion (HaveOwnRowKeys joined_table) joined_rows
own_joined_keys = (
  (joined_rows_differ 1 2 1 3 (λ equal. omega arith), (joined_rows_differ 1 2 2 3 (λ equal. omega arith), tt)),
  ((joined_rows_differ 1 3 2 3 (λ equal. absurd (omega (arith, equal))), tt), (tt, tt)),
)

abbrev IsPersonFound : Writing → Type 0
IsPersonFound writing = HasItsRow joined joined_state row_for in_rows (table_id 0) people_table rows writing

abbrev IsLinkFound : Writing → Type 0
IsLinkFound writing = HasItsRow joined joined_state row_for in_rows (table_id 1) joined_table joined_rows writing

stored_people : AreDemandedRows joined joined_state (table_id 0) people_table rows
stored_people = keyed_rows joined joined_state row_for in_rows (table_id 0) people_table rows
    (person_demanded 1 (0, omega arith, refl), (person_demanded 2 (1, omega arith, refl), (person_demanded 3 (2, omega arith, refl), tt)))
    (each IsPersonFound (λ id among to. person_has_row id among) (λ staff manager among to. absurd (zero_is_not_one (sym to))))
    own_row_keys

stored_links : AreDemandedRows joined joined_state (table_id 1) joined_table joined_rows
stored_links = keyed_rows joined joined_state row_for in_rows (table_id 1) joined_table joined_rows
    (link_demanded 1 2 (0, omega arith, refl), (link_demanded 1 3 (1, omega arith, refl), (link_demanded 2 3 (2, omega arith, refl), tt)))
    (each IsLinkFound (λ id among to. absurd (zero_is_not_one to)) (λ staff manager among to. link_has_row staff manager among))
    own_joined_keys

abbrev HasTwoCells : Row → Type 0
HasTwoCells r = length r.cells ≡ 2

pub stored : JoinedIsStored
stored = stored_by_tables joined joined_state joined_tables refl (no_clash_by_keys joined joined_state row_for in_rows) (
  record { shape = All-from_recursion HasTwoCells rows (refl, (refl, (refl, tt))); rows = stored_people },
  (record { shape = All-from_recursion HasTwoCells joined_rows (refl, (refl, (refl, tt))); rows = stored_links }, tt),
)

-- both people of a link stand
keeps_staff : KeepsForeignKey joined_tables staff_key
keeps_staff = All-from_recursion (λ r. Refers staff_key r → FindsRow joined_tables staff_key r) joined_rows (
  (λ refers. (0, unnamed_row 1, omega arith, refl, refl)),
  ((λ refers. (0, unnamed_row 1, omega arith, refl, refl)), ((λ refers. (1, unnamed_row 2, omega arith, refl, refl)), tt)),
)

keeps_manager : KeepsForeignKey joined_tables manager_key
keeps_manager = All-from_recursion (λ r. Refers manager_key r → FindsRow joined_tables manager_key r) joined_rows (
  (λ refers. (1, unnamed_row 2, omega arith, refl, refl)),
  ((λ refers. (2, unnamed_row 3, omega arith, refl, refl)), ((λ refers. (2, unnamed_row 3, omega arith, refl, refl)), tt)),
)

row_fits : (id : ℕ) → id ≤ 2147483647 → FitsTable people_table (unnamed_row id)
row_fits id below = (whole_fits false id below, (no_name, tt))

joined_row_fits : (staff manager : ℕ) → staff ≤ 2147483647 → manager ≤ 2147483647 → FitsTable joined_table (joined_row staff manager)
joined_row_fits staff manager staff_below manager_below = (whole_fits false staff staff_below, (whole_fits false manager manager_below, tt))

pub tables_legal : JoinedTablesAreLegal
tables_legal = legal_tables joined_store joined_tables stored.shape (
  legal_rows people_table rows (row_fits 1 (omega arith), (row_fits 2 (omega arith), (row_fits 3 (omega arith), tt))) own_row_keys,
  (
    legal_rows joined_table joined_rows
        (joined_row_fits 1 2 (omega arith) (omega arith), (joined_row_fits 1 3 (omega arith) (omega arith), (joined_row_fits 2 3 (omega arith) (omega arith), tt)))
        own_joined_keys,
    tt,
  ),
)
    (keeps_staff, (keeps_manager, tt))

people_agree : Agrees joined joined_state joined_tables all_people
people_agree = agrees joined joined_state joined_tables all_people (
  (λ s. (unnamed_row 1, (0, omega arith, refl), meets_none (unnamed_row 1), refl)),
  ((λ s. (unnamed_row 2, (1, omega arith, refl), meets_none (unnamed_row 2), refl)), ((λ s. (unnamed_row 3, (2, omega arith, refl), meets_none (unnamed_row 3), refl)), tt)),
) (
  (λ s. (unnamed 1, (0, omega arith, refl), selected 1, refl)),
  ((λ s. (unnamed 2, (1, omega arith, refl), selected 2, refl)), ((λ s. (unnamed 3, (2, omega arith, refl), selected 3, refl)), tt)),
)

shows_link : (staff manager : ℕ) → ShowsLink joined_links (joined_row staff manager)
shows_link staff manager = record {
  meets = meets_none (joined_row staff manager);
  keys = All-from_recursion (λ pair. cell_of (joined_row staff manager) pair.col ≢ Null) (joined_links.first ++ joined_links.second)
      ((λ none. absurd (cc)), ((λ none. absurd (cc)), tt));
}

the_links_agree : LinksAgree joined joined_state joined_tables joined_links
the_links_agree = links_agree joined joined_state joined_tables joined_links boss refl (
  (joined_row 1 2, (0, omega arith, refl), shows_link 1 2, refl),
  ((joined_row 1 3, (1, omega arith, refl), shows_link 1 3, refl), ((joined_row 2 3, (2, omega arith, refl), shows_link 2 3, refl), tt)),
) (
  (λ by. (boss, link 1 2, refl, (0, omega arith, refl), refl)),
  ((λ by. (boss, link 1 3, refl, (1, omega arith, refl), refl)), ((λ by. (boss, link 2 3, refl, (2, omega arith, refl), refl)), tt)),
)

pub satisfied : JoinedTablesSatisfy
satisfied = satisfied_by_parts joined joined_state joined_tables (people_agree, tt) (the_links_agree, tt)
