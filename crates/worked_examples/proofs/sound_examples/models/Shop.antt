-- Owners: orders owned by people; the model is sound.
use Rattle.std.proofs.Common.{◌≡◌, [], ◌∷◌, refl, arith, subst, sym}
use Rattle.std.specs.Prelude.{Contains}
use Rattle.edm_types.specs.declared.model.TypeNode as node
use Rattle.edm_types.specs.declared.model.TypeNode.TheBlock as block
use Rattle.worked_examples.specs.Ids.{type_id, prop_id, leaf, stem}
use Rattle.worked_examples.specs.people.People.{person_type, people_set}
use Rattle.worked_examples.specs.staff.Owners.{shop_model, employee_type, order_type, owner_id_prop, orders_set, owner, owner_constraint}
use Rattle.worked_examples.proofs.facts.Small.{any_one}
use Rattle.round_trip.specs.soundness.models.Constraints.{IsSoundAssoc, DependsByKey}
use Rattle.round_trip.specs.soundness.models.Models.{IsSoundModel, IsSoundType}
use Rattle.worked_examples.proofs.sound_examples.Names.{other_prop}
use Rattle.worked_examples.proofs.sound_examples.Lists.{not_among}
use Rattle.worked_examples.proofs.sound_examples.models.Models.{ForestFacts, root_type, end_of_set, many_to_one, model_from}

forest : ForestFacts shop_model (stem (type_id 0) (type_id 1) ∷ leaf (type_id 2) ∷ leaf (type_id 1) ∷ [])
unfolding node.out-TypeNode denote.Hole.Carrier.out block.shown-the_row-TypeNode-0 denote.Hole.Carrier.shown
forest = record {
  roots = refl;
  tops = ((0, omega arith, refl), ((1, omega arith, refl), tt));
  lower = (((2, omega arith, refl), tt), (tt, (tt, tt)));
  ids = (omega arith, (omega arith, (omega arith, tt)));
  each = ((refl, refl), ((refl, refl), ((refl, refl), tt)));
}

person : IsSoundType shop_model (type_id 0) person_type
person = root_type shop_model (type_id 0) person_type refl refl refl ((tt, refl), tt)

employee : IsSoundType shop_model (type_id 1) employee_type
employee = record { props = refl; key = refl; key_props = person.key_props }

order : IsSoundType shop_model (type_id 2) order_type
order = root_type shop_model (type_id 2) order_type refl refl refl ((tt, refl), tt)

-- an order's owner is no part of its key
not_by_key : ¬ DependsByKey shop_model owner owner_constraint
not_by_key some = not_among (prop_id 2 ∷ []) (prop_id 3) (other_prop (prop_id 3) (prop_id 2) refl, tt) (any_one (Contains (prop_id 2 ∷ [])) (prop_id 3) some)

sound_owner : IsSoundAssoc shop_model owner
sound_owner = record {
  first = end_of_set shop_model owner.first person_type people_set refl refl refl refl;
  second = end_of_set shop_model owner.second order_type orders_set refl refl refl refl;
  kind = many_to_one shop_model owner (prop_id 0) (prop_id 3) refl refl (people_set, refl, refl) refl (owner_id_prop, refl, refl) refl refl (λ by_key. absurd (not_by_key by_key));
}

pub sound : IsSoundModel shop_model
sound = model_from shop_model (stem (type_id 0) (type_id 1) ∷ leaf (type_id 2) ∷ leaf (type_id 1) ∷ []) (tt, (refl, (tt, tt))) refl (record {
  forest = forest;
  others = ((refl, tt), ((refl, refl), ((refl, tt), tt)));
  types = (person, (employee, (order, tt)));
  kinds = (tt, ((omega arith, omega arith), (tt, (tt, tt))));
  elements = (sound_owner.first.concrete, (sound_owner.second.concrete, tt));
  linked = (sound_owner, tt);
  falls = (
    (λ constraint constrained by_key needed.
        let same : owner_constraint ≡ constraint = cc in
        absurd (not_by_key (subst (DependsByKey shop_model owner) (sym same) by_key))),
    tt,
  );
})
