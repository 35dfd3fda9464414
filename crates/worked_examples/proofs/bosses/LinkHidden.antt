-- The boss of a person without a name: the link is written to the person's row, and the row isn't shown.
use Rattle.std.proofs.Common.{◌≡◌, ◌≢◌, inl, inr, ℕ, zero, suc, List, [], ◌∷◌, refl, arith}
use Rattle.std.specs.Prelude.{Contains, pos}
use Rattle.std.proofs.lemmas.List.Elements.{All-nil}
use Rattle.round_trip.specs.Words.{TableId, Value, Null, Whole, Assoc, Link, Row, AtMostOne, Tables, cell_of, MetByEntity, Selects, IsLegal, Writing, Writes, WritesRow, TablesAre, IsShownLinkTuple}
use Rattle.edm_types.specs.declared.model.Mult.TheVariants.{ZeroOrOne}
use Rattle.worked_examples.specs.Ids.{type_id, table_id, col_id, just, row_of}
use Rattle.worked_examples.specs.people.People.{only_rows}
use Rattle.worked_examples.specs.bosses.Bosses.{bosses, bossed_model, bossed_table, boss_of, all_people}
use Rattle.worked_examples.specs.people.NameShown.{name_stands}
use Rattle.worked_examples.specs.bosses.LinkHidden.{named_links, bossed_if_named, unnamed_pair, BossIsHidden}
use Rattle.worked_examples.proofs.facts.Small.{each_of, at_most_one}
use Rattle.worked_examples.proofs.facts.Writings.{entity_writing, link_writing, each_writing, each_given, nothing_given, of_links}
use Rattle.worked_examples.proofs.facts.KeyedRows.{IsInItsRow, HasItsRow, all_rows_stored}
use Rattle.worked_examples.proofs.bosses.Bosses.{unnamed, two_unnamed, two_stand, two_own_keys, is_link, has_ends, legal_bossed}

abbrev boss : Assoc
boss = bosses ZeroOrOne

abbrev the_link : Link
the_link = boss_of (pos 1) (pos 2)

legal : IsLegal (bossed_model ZeroOrOne) unnamed_pair
legal = legal_bossed ZeroOrOne two_unnamed (the_link ∷ []) (record {
  stand = two_stand ZeroOrOne;
  own_keys = two_own_keys ZeroOrOne;
  shapes = (is_link ZeroOrOne 1 2, tt);
  ends = (has_ends ZeroOrOne two_unnamed (the_link ∷ []) (0, omega arith, refl) (1, omega arith, refl), tt);
  once = (tt, tt);
  partners = (at_most (Whole (pos 1) ∷ []), (at_most (Whole (pos 2) ∷ []), tt));
})
  where
    at_most : (key : List Value) → AtMostOne (λ (link : Link). link.first ≡ key) (the_link ∷ [])
    at_most key = at_most_one (λ (link : Link). link.first ≡ key) (the_link ∷ []) (tt, tt)

abbrev of_person : ℕ → Writing
of_person id = entity_writing bossed_if_named all_people (unnamed id)

abbrev of_link : Writing
of_link = link_writing bossed_if_named named_links boss the_link

selected : (id : ℕ) → Selects (bossed_model ZeroOrOne) all_people (unnamed id)
selected id = record { picked = (0, just (type_id 0), omega arith, refl, refl); meets = All-nil (λ cond. MetByEntity (bossed_model ZeroOrOne) (unnamed id) cond.on cond.test) }

each : (Q : Writing → Type 0) → Q (of_person 1) → Q (of_person 2) → Q of_link → (writing : Writing) → Writes bossed_if_named unnamed_pair writing → Q writing
each Q first second link writing by = each_writing bossed_if_named unnamed_pair Q
    (((λ s. first), ((λ s. second), tt)), tt) (of_links bossed_if_named unnamed_pair Q named_links boss refl (link, tt), tt) writing by

-- the row of the one with a boss, and that of the boss
abbrev staff_row : Row
staff_row = row_of (Whole (pos 1) ∷ Null ∷ Whole (pos 2) ∷ [])

abbrev manager_row : Row
manager_row = row_of (Whole (pos 2) ∷ Null ∷ Null ∷ [])

abbrev rows : List Row
rows = staff_row ∷ manager_row ∷ []

abbrev tables : Tables
tables = only_rows rows

abbrev row_for : TableId → List Value → Row
row_for t (Whole (pos (suc zero)) ∷ rest) = staff_row
row_for t _ = manager_row

in_rows : (writing : Writing) → Writes bossed_if_named unnamed_pair writing → IsInItsRow bossed_if_named unnamed_pair row_for writing
in_rows writing by = each (IsInItsRow bossed_if_named unnamed_pair row_for)
    (λ col value gives. each_given (of_person 1) (λ c v. v ≡ cell_of staff_row c) (refl, (refl, tt)) tt col value gives)
    (λ col value gives. each_given (of_person 2) (λ c v. v ≡ cell_of manager_row c) (refl, (refl, tt)) tt col value gives)
    (λ col value gives. each_given of_link (λ c v. v ≡ cell_of staff_row c) (refl, (refl, tt))
    (nothing_given of_link (λ c v. v ≡ cell_of staff_row c) (col_id 1), tt) col value gives)
    writing by

person_writes : (id : ℕ) → Contains two_unnamed (unnamed id) → WritesRow bossed_if_named unnamed_pair (table_id 0) (Whole (pos id) ∷ []) (of_person id)
person_writes id among = record {
  writes = inl (all_people, unnamed id, record { mapped = (0, omega arith, refl); stands = among; selected = selected id }, refl);
  to_table = refl;
  to_key = refl;
}

first : WritesRow bossed_if_named unnamed_pair (table_id 0) (Whole (pos 1) ∷ []) (of_person 1)
first = person_writes 1 (0, omega arith, refl)

second : WritesRow bossed_if_named unnamed_pair (table_id 0) (Whole (pos 2) ∷ []) (of_person 2)
second = person_writes 2 (1, omega arith, refl)

link_writes : WritesRow bossed_if_named unnamed_pair (table_id 0) (Whole (pos 1) ∷ []) of_link
link_writes = record {
  writes = inr (named_links, boss, the_link, record { mapped = (0, omega arith, refl); is_assoc = refl; stands = (0, omega arith, refl) }, refl);
  to_table = refl;
  to_key = refl;
}

found : (writing : Writing) → Writes bossed_if_named unnamed_pair writing → HasItsRow bossed_if_named unnamed_pair row_for in_rows (table_id 0) bossed_table rows writing
found writing by = each (HasItsRow bossed_if_named unnamed_pair row_for in_rows (table_id 0) bossed_table rows)
    (λ to. (0, staff_row, omega arith, refl, refl)) (λ to. (1, manager_row, omega arith, refl, refl)) (λ to. (0, staff_row, omega arith, refl, refl)) writing by

stored : TablesAre bossed_if_named unnamed_pair tables
stored = all_rows_stored bossed_if_named unnamed_pair row_for in_rows bossed_table rows (record {
  is_table = refl;
  made = (
    record {
      demanded = (of_person 1, first);
      for_key = refl;
      cells = (inr (of_person 1, first, inl (0, omega arith, refl)), (inl refl, (inr (of_link, link_writes, inl (1, omega arith, refl)), tt)));
    },
    (record { demanded = (of_person 2, second); for_key = refl; cells = (inr (of_person 2, second, inl (0, omega arith, refl)), (inl refl, (inl refl, tt))) }, tt),
  );
  found = found;
  own = (((λ equal. absurd (cc)), tt), (tt, tt));
  count = (refl, (refl, tt));
})

-- no row has a name
hidden : (tuple : List Value) → ¬ IsShownLinkTuple tables named_links tuple
hidden tuple by =
    let null : cell_of by.0 (col_id 1) ≡ Null = each_of (λ r. cell_of r (col_id 1) ≡ Null) rows by.0 (refl, (refl, tt)) by.1 in
    let stands : cell_of by.0 (col_id 1) ≢ Null = by.2.meets 0 name_stands (omega arith) in
    stands null

pub boss_is_hidden : BossIsHidden
boss_is_hidden other = record {
  legal = legal;
  fails = record {
    tables = tables;
    defined = stored;
    tuple = Whole (pos 1) ∷ Whole (pos 2) ∷ [];
    broken = inr (
      named_links,
      boss,
      (0, omega arith, refl),
      refl,
      inl ((boss, the_link, refl, (0, omega arith, refl), refl), hidden (Whole (pos 1) ∷ Whole (pos 2) ∷ [])),
      refl,
    );
  };
}
