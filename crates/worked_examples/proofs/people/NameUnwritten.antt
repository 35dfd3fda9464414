-- Two people of one id with different names have the same row where only the id is written.
use Rattle.std.proofs.Common.{◌≡◌, inl, inr, List, [], ◌∷◌, refl, arith}
use Rattle.std.specs.Prelude.{Contains, pos, codes}
use Rattle.std.proofs.lemmas.List.Elements.{All-nil}
use Rattle.std.proofs.lemmas.List.Sorted.{IsPermutation-refl, Contains-permutation}
use Rattle.round_trip.specs.Words.{Value, Null, Whole, Text, Pair, Entity, Tables, rows_in, MetByEntity, TablesAre}
use Rattle.worked_examples.specs.Ids.{pair_of, set_id}
use Rattle.worked_examples.specs.people.People.{people_model, people_set, people_table, person, person_row, only_people, only_rows}
use Rattle.worked_examples.specs.people.NameUnwritten.{people_without_names, NameIsLost}
use Rattle.worked_examples.proofs.facts.Small.{each_of}
use Rattle.worked_examples.proofs.facts.Writings.{IsRowOf, row_made}
use Rattle.worked_examples.proofs.people.OneRow.{IsMet, the_writing, one_row_demanded}
use Rattle.worked_examples.proofs.facts.Values.{text_a}
use Rattle.worked_examples.proofs.people.People.{may_stand, no_name, a_name, legal_people}

abbrev ids : List Pair
ids = pair_of 0 0 ∷ []

abbrev row : Tables
row = only_rows (person_row (pos 7) Null ∷ [])

made : (name : Value) → IsRowOf people_without_names people_table (the_writing ids [] (pos 7) name Null) (person_row (pos 7) Null)
made name = row_made people_without_names people_table (the_writing ids [] (pos 7) name Null) (person_row (pos 7) Null)
    refl (refl, tt) tt (inr (inl (0, omega arith, refl)), (inl refl, tt))

met : (name : Value) → IsMet ids [] (pos 7) name Null
met name = All-nil (λ cond. MetByEntity people_model (person (pos 7) name) cond.on cond.test)

stored : (name : Value) → TablesAre people_without_names (only_people (person (pos 7) name ∷ [])) row
stored name = one_row_demanded ids [] (pos 7) name Null (met name) (made name)

abbrev unnamed : Entity
unnamed = person (pos 7) Null

abbrev named : Entity
named = person (pos 7) (Text (codes "a"))

not_there : ¬ Contains (named ∷ []) unnamed
not_there among =
    let equal : unnamed.values ≡ named.values = each_of (λ e. e.values ≡ named.values) (named ∷ []) unnamed (refl, tt) among in
    absurd (cc)

pub name_is_lost : NameIsLost
name_is_lost = record {
  legal = legal_people (unnamed ∷ []) (may_stand 7 Null (omega arith) no_name, tt) (tt, tt);
  fails = record {
    tables = row;
    other_tables = row;
    defined = stored Null;
    other_defined = stored (Text (codes "a"));
    same_tables = λ t. IsPermutation-refl (rows_in row t);
    other_legal = legal_people (named ∷ []) (may_stand 7 (Text (codes "a")) (omega arith) (a_name (codes "a") text_a), tt) (tt, tt);
    different = λ equal. not_there (Contains-permutation (unnamed ∷ []) (named ∷ []) unnamed (equal.entities (set_id 0)) (0, omega arith, refl));
    differ = inl (set_id 0, people_set, Whole (pos 7) ∷ [], refl, inl (unnamed, (0, omega arith, refl), refl, not_there), refl);
  };
}
