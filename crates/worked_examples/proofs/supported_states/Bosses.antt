-- Two people, of whom one has a given boss.
use Rattle.std.proofs.Common.{[], ◌∷◌, refl, arith}
use Rattle.std.specs.Prelude.{Bool, false, true}
use Rattle.edm_types.specs.IsA.{same}
use Rattle.edm_types.specs.declared.model.Mult.TheVariants.{One}
use Rattle.population.specs.Given.{StandsAtEnd}
use Rattle.population.specs.Numbered.{end_of}
use Rattle.population.specs.Supported.{end_key}
use Rattle.round_trip.specs.Words.{Null}
use Rattle.worked_examples.specs.Ids.{type_id}
use Rattle.worked_examples.specs.bosses.Bosses.{bosses}
use Rattle.worked_examples.specs.people.People.{people_set}
use Rattle.worked_examples.specs.supported.Bosses as e
use Rattle.worked_examples.specs.supported.Owned.{nameless}
use Rattle.worked_examples.specs.supported.Supports.{asked_by, linked_by, placed_in}
use Rattle.worked_examples.proofs.facts.Small.{here, later}
use Rattle.worked_examples.proofs.people.People.{may_stand_with, no_name}
use Rattle.worked_examples.proofs.sound_examples.models.Bosses.{sound}
use Rattle.worked_examples.proofs.supported_states.Given.{GivenFacts, MayLink, legal_with, stands_at}

pub stands : e.BossStands
stands = refl

facts : GivenFacts e.one_boss_model e.two_people
facts = record {
  each = (
    record { set = people_set; is_set = refl; stands = may_stand_with (bosses One ∷ []) 1 Null (omega arith) no_name; free = refl },
    (record { set = people_set; is_set = refl; stands = may_stand_with (bosses One ∷ []) 2 Null (omega arith) no_name; free = refl }, tt),
  );
  apart = ((refl, tt), (tt, tt));
  short = tt;
}

may_link : MayLink e.one_boss_model (sound One) (omega arith) e.two_people facts (linked_by 0 (e.boss 1 2))
may_link = record { assoc = bosses One; is_assoc = refl; ends = at_ends }
  where
    at_ends : (first : Bool) → StandsAtEnd e.one_boss_model 0 e.two_people (asked_by e.one_boss_model e.two_people) (end_of first (bosses One)) (end_key first (e.boss 1 2))
    at_ends true = stands_at e.one_boss_model (sound One) (omega arith) e.two_people facts (bosses One).first (placed_in 0 (nameless 1))
        (here (placed_in 0 (nameless 1)) (placed_in 0 (nameless 2) ∷ [])) refl (same (type_id 0))
    at_ends false = stands_at e.one_boss_model (sound One) (omega arith) e.two_people facts (bosses One).second (placed_in 0 (nameless 2))
        (later (placed_in 0 (nameless 1)) (placed_in 0 (nameless 2)) (placed_in 0 (nameless 2) ∷ []) (here (placed_in 0 (nameless 2)) [])) refl (same (type_id 0))

pub legal : e.BossIsLegal
legal = legal_with e.one_boss_model (sound One) (omega arith) e.two_people facts e.one_boss (may_link, tt) (tt, tt) e.bossed_state stands
