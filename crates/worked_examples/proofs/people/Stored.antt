-- One person with a name: the row of this is legal, and agrees with the fragment that writes id and name.
use Rattle.std.proofs.Common.{◌≡◌, inl, inr, ℤ, List, [], ◌∷◌, refl, arith}
use Rattle.std.specs.Prelude.{pos, codes, false}
use Rattle.std.specs.List.{AllByRecursion}
use Rattle.std.proofs.lemmas.List.Elements.{All-nil}
use Rattle.round_trip.specs.Words.{Value, Text, Fragment, Pair, Cond, Entity, Row, cell_of, MetByEntity, MetByRow}
use Rattle.worked_examples.specs.Ids.{pair_of}
use Rattle.worked_examples.specs.people.People.{people, people_by, people_fragment, people_store, people_table, people_model, one_person, one_row, person, person_row, OneRowIsDemanded, OneRowIsLegal, OneRowSatisfies}
use Rattle.worked_examples.proofs.facts.Values.{whole_fits, text_a}
use Rattle.worked_examples.proofs.facts.Writings.{IsRowOf, OfCond, row_made}
use Rattle.worked_examples.proofs.facts.LegalRows.{FitsTable, legal_rows, legal_tables}
use Rattle.worked_examples.proofs.facts.Agreement.{Agrees, agrees, satisfied_by_parts}
use Rattle.worked_examples.proofs.people.People.{a_name}
use Rattle.worked_examples.proofs.people.OneRow.{IsMet, the_writing, selects, one_row_demanded}

abbrev pub both : List Pair
both = pair_of 0 0 ∷ pair_of 1 1 ∷ []

-- an id and a name are the row, where the conditions give nothing else
pub row_of_both : (conds : List Cond) (id : ℤ) (name : Value)
    → AllByRecursion (OfCond (the_writing both conds id name name) (λ col value. cell_of (person_row id name) col ≡ value)) conds
    → IsRowOf (people_by (people_fragment both conds)) people_table (the_writing both conds id name name) (person_row id name)
row_of_both conds id name nothing = row_made (people_by (people_fragment both conds)) people_table (the_writing both conds id name name) (person_row id name)
    refl (refl, (refl, tt)) nothing (inr (inl (0, omega arith, refl)), (inr (inl (1, omega arith, refl)), tt))

abbrev a_text : Value
a_text = Text (codes "a")

abbrev the_person : Entity
the_person = person (pos 1) a_text

abbrev the_row : Row
the_row = person_row (pos 1) a_text

met : IsMet both [] (pos 1) a_text a_text
met = All-nil (λ cond. MetByEntity people_model the_person cond.on cond.test)

pub demanded : OneRowIsDemanded
demanded = one_row_demanded both [] (pos 1) a_text a_text met (row_of_both [] (pos 1) a_text tt)

fits : FitsTable people_table the_row
fits = (whole_fits false 1 (omega arith), (a_name (codes "a") text_a, tt))

pub legal : OneRowIsLegal
legal = legal_tables people_store one_row demanded.shape (legal_rows people_table (the_row ∷ []) (fits, tt) (tt, tt), tt) tt

abbrev the_whole : Fragment
the_whole = people_fragment both []

-- the row shows what the person writes, and the person writes what it shows
the_whole_agrees : Agrees people one_person one_row the_whole
the_whole_agrees = agrees people one_person one_row the_whole
    ((λ selected. (the_row, (0, omega arith, refl), All-nil (λ cond. MetByRow the_row cond.on cond.test), refl)), tt)
    ((λ shown. (the_person, (0, omega arith, refl), selects both [] (pos 1) a_text a_text met, refl)), tt)

pub satisfied : OneRowSatisfies
satisfied = satisfied_by_parts people one_person one_row (the_whole_agrees, tt) tt
