-- Two projects, of which one has a given leader.
use Rattle.std.proofs.Common.{[], ◌∷◌, ℕ, ◌≤◌, refl, arith}
use Rattle.std.specs.Prelude.{Bool, false, true}
use Rattle.edm_types.specs.IsA.{same}
use Rattle.population.specs.Given.{StandsAtEnd}
use Rattle.population.specs.Numbered.{end_of}
use Rattle.population.specs.Supported.{end_key}
use Rattle.population.specs.declared.placed.Placed.{Placed}
use Rattle.worked_examples.specs.Ids.{type_id}
use Rattle.worked_examples.specs.people.People.{people_set}
use Rattle.worked_examples.specs.supported.Leaders as e
use Rattle.worked_examples.specs.supported.Owned.{nameless_employee}
use Rattle.worked_examples.specs.supported.Supports.{asked_by, linked_by, placed_in}
use Rattle.worked_examples.proofs.facts.Entities.{MayStand}
use Rattle.worked_examples.proofs.facts.Small.{here, later}
use Rattle.worked_examples.proofs.facts.Values.{whole_fits}
use Rattle.worked_examples.proofs.supported_states.Given.{GivenFacts, MayLink, legal_with, stands_at}
use Rattle.worked_examples.proofs.supported_states.Owned.{employee_stands_in}
use Rattle.worked_examples.proofs.supported_states.sound.Leaders.{sound}

pub stands : e.LeaderStands
stands = refl

may_stand : (id : ℕ) → id ≤ 2147483647 → MayStand e.leaders_model e.projects_set (e.project id)
may_stand id below = record {
  shape = (e.project_type, refl, refl);
  type = record { concrete = (e.project_type, refl, refl); under = same (type_id 2) };
  fits = (record { declared = e.project_prop; is_declared = refl; fits = whole_fits false id below }, tt);
}

facts : GivenFacts e.leaders_model e.two_projects
facts = record {
  each = (
    record { set = e.projects_set; is_set = refl; stands = may_stand 5 (omega arith); free = refl },
    (
      record { set = e.projects_set; is_set = refl; stands = may_stand 6 (omega arith); free = refl },
      (record { set = people_set; is_set = refl; stands = employee_stands_in 3 (omega arith); free = refl }, tt),
    ),
  );
  apart = ((refl, (refl, tt)), ((refl, tt), (tt, tt)));
  short = tt;
}

abbrev other : Placed
other = placed_in 1 (e.project 5)

abbrev led : Placed
led = placed_in 1 (e.project 6)

abbrev leading : Placed
leading = placed_in 0 (nameless_employee 3)

may_link : MayLink e.leaders_model sound (omega arith) e.two_projects facts (linked_by 0 (e.leads 3 6))
may_link = record { assoc = e.leader; is_assoc = refl; ends = at_ends }
  where
    at_ends : (first : Bool) → StandsAtEnd e.leaders_model 0 e.two_projects (asked_by e.leaders_model e.two_projects) (end_of first e.leader) (end_key first (e.leads 3 6))
    at_ends true = stands_at e.leaders_model sound (omega arith) e.two_projects facts e.leader.first leading
        (later other leading (led ∷ leading ∷ []) (later led leading (leading ∷ []) (here leading []))) refl (same (type_id 1))
    at_ends false = stands_at e.leaders_model sound (omega arith) e.two_projects facts e.leader.second led (later other led (led ∷ leading ∷ []) (here led (leading ∷ []))) refl
        (same (type_id 2))

pub legal : e.LeaderIsLegal
legal = legal_with e.leaders_model sound (omega arith) e.two_projects facts e.one_leader (may_link, tt) (tt, tt) e.led_state stands
