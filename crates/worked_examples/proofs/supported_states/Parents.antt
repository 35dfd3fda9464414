-- A customer with a parent: the parent and the account.
use Rattle.std.proofs.Common.{[], ◌∷◌, refl, arith}
use Rattle.std.specs.Prelude.{false, true}
use Rattle.edm_types.specs.IsA.{same}
use Rattle.schema_laws.specs.short_values.Numbers.{number}
use Rattle.worked_examples.specs.Ids.{prop_id, type_id}
use Rattle.worked_examples.specs.supported.Accounts.{customer_account_prop, customer_number_prop, customer_type_with, customers_set, id_prop}
use Rattle.worked_examples.specs.supported.Parents as e
use Rattle.worked_examples.proofs.facts.Entities.{MayStand}
use Rattle.worked_examples.proofs.facts.Values.{short_fits, whole_fits}
use Rattle.worked_examples.proofs.supported_states.Given.{GivenFacts, legal_without, short_for}
use Rattle.worked_examples.proofs.supported_states.sound.Parents.{sound}

pub line_asks : e.LineAsks
line_asks = refl

pub asks : e.ChildAsks
asks = refl

pub own_is_taken : e.OwnParentIsTaken
own_is_taken = refl

pub stands : e.ChildStands
stands = refl

may_stand : MayStand e.parents_model customers_set (e.child 1 5 (number 6))
may_stand = record {
  shape = (customer_type_with (prop_id 9 ∷ []), refl, refl);
  type = record { concrete = (customer_type_with (prop_id 9 ∷ []), refl, refl); under = same (type_id 1) };
  fits = (
    record { declared = customer_account_prop; is_declared = refl; fits = whole_fits false 1 (omega arith) },
    (
      record { declared = customer_number_prop; is_declared = refl; fits = short_fits false 5 (omega arith) },
      (record { declared = e.parent_prop; is_declared = refl; fits = short_fits true 6 (omega arith) }, tt),
    ),
  );
}

facts : GivenFacts e.parents_model e.one_child
facts = record {
  each = (record { set = customers_set; is_set = refl; stands = may_stand; free = refl }, tt);
  apart = (tt, tt);
  short = (
    (short_for e.parents_model (prop_id 0) id_prop refl 1 tt (omega arith), tt),
    (
      (
        short_for e.parents_model (prop_id 1) customer_account_prop refl 1 tt (omega arith),
        (short_for e.parents_model (prop_id 2) customer_number_prop refl 6 tt (omega arith), tt),
      ),
      tt,
    ),
  );
}

pub legal : e.ChildIsLegal
legal = legal_without e.parents_model sound (omega arith) e.one_child facts e.child_state stands
