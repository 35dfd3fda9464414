-- An order and its owner, an employee, since there is nobody of the owner's own type.
use Rattle.std.proofs.Common.{refl, arith}
use Rattle.std.specs.Prelude.{false}
use Rattle.edm_types.specs.IsA.{same}
use Rattle.worked_examples.specs.Ids.{prop_id, type_id}
use Rattle.worked_examples.specs.people.People.{id_prop}
use Rattle.worked_examples.specs.supported.Contacts as e
use Rattle.worked_examples.proofs.facts.Entities.{MayStand}
use Rattle.worked_examples.proofs.facts.Values.{whole_fits}
use Rattle.worked_examples.proofs.supported_states.Given.{GivenFacts, legal_without, short_for}
use Rattle.worked_examples.proofs.supported_states.sound.Contacts.{sound}

pub asks : e.OrderAsks
asks = refl

pub is_concrete : e.OwnerIsConcrete
is_concrete = refl

pub stands : e.OrderStands
stands = refl

may_stand : MayStand e.contacts_model e.orders_set (e.order 5 9)
may_stand = record {
  shape = (e.order_type, refl, refl);
  type = record { concrete = (e.order_type, refl, refl); under = same (type_id 3) };
  fits = (
    record { declared = e.order_id_prop; is_declared = refl; fits = whole_fits false 5 (omega arith) },
    (record { declared = e.owner_id_prop; is_declared = refl; fits = whole_fits false 9 (omega arith) }, tt),
  );
}

facts : GivenFacts e.contacts_model e.one_order
facts = record {
  each = (record { set = e.orders_set; is_set = refl; stands = may_stand; free = refl }, tt);
  apart = (tt, tt);
  short = ((short_for e.contacts_model (prop_id 0) id_prop refl 9 tt (omega arith), tt), tt);
}

pub legal : e.OrderIsLegal
legal = legal_without e.contacts_model sound (omega arith) e.one_order facts e.order_state stands
