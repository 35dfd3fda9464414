-- A line of an order, the order, a customer and the account.
use Rattle.std.proofs.Common.{refl, arith}
use Rattle.std.specs.Prelude.{false}
use Rattle.edm_types.specs.IsA.{same}
use Rattle.worked_examples.specs.Ids.{prop_id, type_id}
use Rattle.worked_examples.specs.supported.Accounts as e
use Rattle.worked_examples.proofs.facts.Entities.{MayStand}
use Rattle.worked_examples.proofs.facts.Values.{short_fits, whole_fits}
use Rattle.worked_examples.proofs.supported_states.Given.{GivenFacts, legal_without, short_for}
use Rattle.worked_examples.proofs.supported_states.sound.Accounts.{sound}

pub asks_first : e.LineAsksFirst
asks_first = refl

pub asks : e.LineAsks
asks = refl

pub stands : e.LineStands
stands = refl

pub numbered_is_taken : e.NumberedOrderIsTaken
numbered_is_taken = refl

may_stand : MayStand e.accounts_model e.lines_set (e.line 1 2 3)
may_stand = record {
  shape = (e.line_type, refl, refl);
  type = record { concrete = (e.line_type, refl, refl); under = same (type_id 3) };
  fits = (
    record { declared = e.line_account_prop; is_declared = refl; fits = whole_fits false 1 (omega arith) },
    (
      record { declared = e.line_order_prop; is_declared = refl; fits = short_fits false 2 (omega arith) },
      (record { declared = e.line_number_prop; is_declared = refl; fits = short_fits false 3 (omega arith) }, tt),
    ),
  );
}

facts : GivenFacts e.accounts_model e.one_line
facts = record {
  each = (record { set = e.lines_set; is_set = refl; stands = may_stand; free = refl }, tt);
  apart = (tt, tt);
  short = (
    (
      short_for e.accounts_model (prop_id 3) e.order_account_prop refl 1 tt (omega arith),
      (short_for e.accounts_model (prop_id 4) e.order_number_prop refl 2 tt (omega arith), tt),
    ),
    tt,
  );
}

pub legal : e.LineIsLegal
legal = legal_without e.accounts_model sound (omega arith) e.one_line facts e.line_state stands
