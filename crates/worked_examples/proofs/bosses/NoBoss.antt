-- A person without a boss, by a fragment that asks for null in the column of bosses: null is demanded there, and the row is shown.
use Rattle.std.proofs.Common.{◌≡◌, inl, inr, [], ◌∷◌, refl, arith}
use Rattle.std.specs.Prelude.{pos, codes}
use Rattle.std.proofs.lemmas.List.Elements.{All-from_recursion}
use Rattle.round_trip.specs.Words.{Null, Whole, Text, Entity, Row, MetByEntity, MetByRow, Selects, Writing, Writes, WritesRow}
use Rattle.worked_examples.specs.Ids.{table_id, col_id}
use Rattle.worked_examples.specs.people.People.{people_model, person, one_person}
use Rattle.worked_examples.specs.bosses.Bosses.{bossed_table}
use Rattle.worked_examples.specs.bosses.OneBoss.{crew_row}
use Rattle.worked_examples.specs.bosses.NoBoss.{bossless, bossless_people, boss_is_null, bossless_rows, NoBossIsDemanded, OnlyBosslessIsShown, BosslessIsStored, BosslessRowSatisfies}
use Rattle.worked_examples.proofs.facts.Writings.{entity_writing, each_writing, null_given, row_made, StandsIn}
use Rattle.worked_examples.proofs.facts.States.{one_row_stored}
use Rattle.worked_examples.proofs.facts.Agreement.{Agrees, agrees, satisfied_by_parts}
use Rattle.worked_examples.proofs.people.OneRow.{IsMet, selects}
use Rattle.worked_examples.proofs.people.Stored.{both}

abbrev someone : Entity
someone = person (pos 1) (Text (codes "a"))

abbrev row : Row
row = crew_row (pos 1) (codes "a") Null

abbrev written : Writing
written = entity_writing bossless bossless_people someone

met : IsMet both (boss_is_null ∷ []) (pos 1) (Text (codes "a")) Null
met = All-from_recursion (λ cond. MetByEntity people_model someone cond.on cond.test) (boss_is_null ∷ []) (tt, tt)

selected : Selects people_model bossless_people someone
selected = selects both (boss_is_null ∷ []) (pos 1) (Text (codes "a")) Null met

writes : WritesRow bossless one_person (table_id 0) (Whole (pos 1) ∷ []) written
writes = record {
  writes = inl (bossless_people, someone, record { mapped = (0, omega arith, refl); stands = (0, omega arith, refl); selected = selected }, refl);
  to_table = refl;
  to_key = refl;
}

pub null_demanded : NoBossIsDemanded
null_demanded = (written, writes, inr (inr ((0, omega arith, refl), refl)))

pub shown : OnlyBosslessIsShown
shown = (
  All-from_recursion (λ cond. MetByRow row cond.on cond.test) (boss_is_null ∷ []) (refl, tt),
  λ meets. let null : Whole (pos 1) ≡ Null = meets 0 boss_is_null (omega arith) in absurd (cc),
)

only : (writing : Writing) → Writes bossless one_person writing → writing ≡ written
only writing by = each_writing bossless one_person (λ w. w ≡ written) ((λ s. refl, tt), tt) tt writing by

pub stored : BosslessIsStored
stored = one_row_stored bossless one_person bossed_table written row (record {
  is_table = refl;
  to_table = refl;
  writes = writes.writes;
  only = only;
  made = row_made bossless bossed_table written row refl (refl, (refl, tt))
      (null_given written (StandsIn bossless bossed_table written row) (col_id 2) refl, tt)
      (inr (inl (0, omega arith, refl)), (inr (inl (1, omega arith, refl)), (inl refl, tt)));
  count = refl;
})

people_agree : Agrees bossless one_person bossless_rows bossless_people
people_agree = agrees bossless one_person bossless_rows bossless_people
    ((λ s. (row, (0, omega arith, refl), shown.0, refl)), tt)
    ((λ s. (someone, (0, omega arith, refl), selected, refl)), tt)

pub satisfied : BosslessRowSatisfies
satisfied = satisfied_by_parts bossless one_person bossless_rows (people_agree, tt) tt
