-- A person without a name is written, and the row of this isn't shown.
use Rattle.std.proofs.Common.{◌≡◌, ◌≢◌, inl, List, [], ◌∷◌, refl, arith}
use Rattle.std.specs.Prelude.{pos}
use Rattle.std.proofs.lemmas.List.Elements.{All-from_recursion}
use Rattle.round_trip.specs.Words.{Value, Null, Whole, Fragment, Entity, Row, Tables, cell_of, MetByEntity, TablesAre, IsShownTuple}
use Rattle.worked_examples.specs.Ids.{col_id}
use Rattle.worked_examples.specs.people.People.{people_model, people_fragment, person, person_row, only_people, only_rows}
use Rattle.worked_examples.specs.people.NameShown.{name_stands, people_with_names, NullNameIsHidden}
use Rattle.worked_examples.proofs.facts.Small.{each_of}
use Rattle.worked_examples.proofs.facts.Writings.{nothing_given}
use Rattle.worked_examples.proofs.people.OneRow.{IsMet, selects, the_writing, one_row_demanded}
use Rattle.worked_examples.proofs.people.Stored.{both, row_of_both}
use Rattle.worked_examples.proofs.people.People.{may_stand, no_name, legal_people}

abbrev unnamed : Entity
unnamed = person (pos 7) Null

abbrev unnamed_row : Row
unnamed_row = person_row (pos 7) Null

abbrev row : Tables
row = only_rows (unnamed_row ∷ [])

abbrev shown : Fragment
shown = people_fragment both (name_stands ∷ [])

met : IsMet both (name_stands ∷ []) (pos 7) Null Null
met = All-from_recursion (λ cond. MetByEntity people_model unnamed cond.on cond.test) (name_stands ∷ []) (tt, tt)

stored : TablesAre people_with_names (only_people (unnamed ∷ [])) row
stored = one_row_demanded both (name_stands ∷ []) (pos 7) Null Null met
    (row_of_both (name_stands ∷ []) (pos 7) Null (nothing_given (the_writing both (name_stands ∷ []) (pos 7) Null Null) (λ col value. cell_of unnamed_row col ≡ value) (col_id 1), tt))

hidden : (tuple : List Value) → ¬ IsShownTuple row shown tuple
hidden tuple by =
    let null : cell_of by.0 (col_id 1) ≡ Null = each_of (λ r. cell_of r (col_id 1) ≡ Null) (unnamed_row ∷ []) by.0 (refl, tt) by.1 in
    let stands : cell_of by.0 (col_id 1) ≢ Null = by.2 0 name_stands (omega arith) in
    stands null

pub null_name_is_hidden : NullNameIsHidden
null_name_is_hidden other = record {
  legal = legal_people (unnamed ∷ []) (may_stand 7 Null (omega arith) no_name, tt) (tt, tt);
  fails = record {
    tables = row;
    defined = stored;
    tuple = Whole (pos 7) ∷ Null ∷ [];
    broken = inl (
      shown,
      (0, omega arith, refl),
      inl ((unnamed, (0, omega arith, refl), selects both (name_stands ∷ []) (pos 7) Null Null met, refl), hidden (Whole (pos 7) ∷ Null ∷ [])),
      refl,
    );
  };
}
