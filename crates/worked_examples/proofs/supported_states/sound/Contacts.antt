-- Contacts, whose type is abstract: the model is sound.
use Rattle.std.proofs.Common.{[], ◌∷◌, refl, arith}
use Rattle.edm_types.specs.IsA.{base, same}
use Rattle.edm_types.specs.declared.model.TypeNode as node
use Rattle.edm_types.specs.declared.model.TypeNode.TheBlock as block
use Rattle.round_trip.specs.soundness.models.Constraints.{IsSoundAssoc}
use Rattle.round_trip.specs.soundness.models.Models.{IsSoundModel, IsSoundType}
use Rattle.worked_examples.specs.Ids.{leaf, prop_id, type_id}
use Rattle.worked_examples.specs.supported.Contacts.{contact_type, contacts_model, contacts_set, contacts_tree, customer_type, employee_type, order_type, orders_set, owner, owner_id_prop}
use Rattle.worked_examples.proofs.sound_examples.models.Models.{ForestFacts, end_of_set, model_from, root_type}
use Rattle.worked_examples.proofs.supported_states.Constraints.{falls, many_to_one}

forest : ForestFacts contacts_model (contacts_tree ∷ leaf (type_id 3) ∷ leaf (type_id 1) ∷ leaf (type_id 2) ∷ [])
unfolding node.out-TypeNode denote.Hole.Carrier.out block.shown-the_row-TypeNode-0 denote.Hole.Carrier.shown
forest = record {
  roots = refl;
  tops = ((0, omega arith, refl), ((1, omega arith, refl), tt));
  lower = (((2, omega arith, refl), ((3, omega arith, refl), tt)), (tt, (tt, (tt, tt))));
  ids = (omega arith, (omega arith, (omega arith, (omega arith, tt))));
  each = ((refl, refl), ((refl, refl), ((refl, refl), ((refl, refl), tt))));
}

contact : IsSoundType contacts_model (type_id 0) contact_type
contact = root_type contacts_model (type_id 0) contact_type refl refl refl ((tt, refl), tt)

employee : IsSoundType contacts_model (type_id 1) employee_type
employee = record { props = refl; key = refl; key_props = contact.key_props }

customer : IsSoundType contacts_model (type_id 2) customer_type
customer = record { props = refl; key = refl; key_props = contact.key_props }

order : IsSoundType contacts_model (type_id 3) order_type
order = root_type contacts_model (type_id 3) order_type refl refl refl ((tt, refl), tt)

-- there are employees
sound_owner : IsSoundAssoc contacts_model owner
sound_owner = record {
  first = record {
    concrete = (type_id 1, (employee_type, refl, refl), base (type_id 1) (type_id 0) (employee_type, refl, refl));
    under = (contacts_set, refl, same (type_id 0));
  };
  second = end_of_set contacts_model owner.second order_type orders_set refl refl refl refl;
  kind = many_to_one contacts_model owner (prop_id 0 ∷ []) (prop_id 4 ∷ []) refl refl ((owner_id_prop, refl, refl), tt)
      (record { element = (contacts_set, refl, refl); own = (orders_set, refl, refl); key = refl; tests = refl; kinds = refl });
}

pub sound : IsSoundModel contacts_model
sound = model_from contacts_model (contacts_tree ∷ leaf (type_id 3) ∷ leaf (type_id 1) ∷ leaf (type_id 2) ∷ []) (tt, (refl, (refl, (tt, tt)))) refl (record {
  forest = forest;
  others = ((refl, tt), ((refl, refl), ((refl, refl), ((refl, tt), tt))));
  types = (contact, (employee, (customer, (order, tt))));
  kinds = (tt, ((omega arith, omega arith), (tt, (tt, (tt, tt)))));
  elements = (sound_owner.first.concrete, (sound_owner.second.concrete, tt));
  linked = (sound_owner, tt);
  falls = (falls contacts_model owner (prop_id 0 ∷ []) (prop_id 4 ∷ []) refl (omega arith), tt);
})
