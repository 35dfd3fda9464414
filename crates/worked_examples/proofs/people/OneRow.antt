-- One person and the row of this, by a fragment of any pairs and conditions.
use Rattle.std.proofs.Common.{◌≡◌, inl, ℤ, List, [], ◌∷◌, refl}
use Rattle.std.specs.Prelude.{All}
use Rattle.round_trip.specs.Words.{Value, Fragment, Pair, Cond, Schema, State, Tables, MetByEntity, IsPicked, Selects, Writing, Writes, TablesAre}
use Rattle.worked_examples.specs.Ids.{type_id, just}
use Rattle.worked_examples.specs.people.People.{people_by, people_fragment, people_table, people_model, person, person_row, only_people, only_rows}
use Rattle.worked_examples.proofs.facts.Small.{here, any_here}
use Rattle.worked_examples.proofs.facts.Writings.{entity_writing, each_writing, IsRowOf}
use Rattle.worked_examples.proofs.facts.States.{one_row_stored}

module _ (pairs : List Pair) (conds : List Cond) (id : ℤ) (name cell : Value) where
  abbrev pub the_fragment : Fragment
  the_fragment = people_fragment pairs conds

  abbrev pub the_schema : Schema
  the_schema = people_by the_fragment

  abbrev pub the_writing : Writing
  the_writing = entity_writing the_schema the_fragment (person id name)

  abbrev pub the_state : State
  the_state = only_people (person id name ∷ [])

  abbrev pub the_rows : Tables
  the_rows = only_rows (person_row id cell ∷ [])

  -- the fragment has no condition on a property that the person doesn't meet
  abbrev pub IsMet : Type 0
  IsMet = All (λ cond. MetByEntity people_model (person id name) cond.on cond.test) conds

  pub selects : IsMet → Selects people_model the_fragment (person id name)
  selects met = record { picked = any_here (IsPicked people_model (type_id 0)) (just (type_id 0)) [] refl; meets = met }

  writes : IsMet → Writes the_schema the_state the_writing
  writes met = inl (the_fragment, person id name, record { mapped = here the_fragment []; stands = here (person id name) []; selected = selects met }, refl)

  is_only : (writing : Writing) → Writes the_schema the_state writing → writing ≡ the_writing
  is_only writing by = each_writing the_schema the_state (λ w. w ≡ the_writing) ((λ selected. refl, tt), tt) tt writing by

  -- where the row is made of what the person writes, it is all that the tables hold
  pub one_row_demanded : IsMet → IsRowOf the_schema people_table the_writing (person_row id cell) → TablesAre the_schema the_state the_rows
  one_row_demanded met made = one_row_stored the_schema the_state people_table the_writing (person_row id cell)
      (record { is_table = refl; to_table = refl; writes = writes met; only = is_only; made = made; count = refl })
