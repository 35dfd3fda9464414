-- Staff: people and employees; the model is sound.
use Rattle.std.proofs.Common.{[], ◌∷◌, refl, arith}
use Rattle.edm_types.specs.IsA.{same}
use Rattle.edm_types.specs.declared.model.TypeNode as node
use Rattle.edm_types.specs.declared.model.TypeNode.TheBlock as block
use Rattle.worked_examples.specs.Ids.{type_id, leaf, stem}
use Rattle.worked_examples.specs.people.People.{person_type}
use Rattle.worked_examples.specs.staff.Salary.{staff_model, employee_type}
use Rattle.round_trip.specs.soundness.models.Models.{IsSoundModel, IsSoundType}
use Rattle.worked_examples.proofs.sound_examples.models.Models.{ForestFacts, root_type, model_from}

forest : ForestFacts staff_model (stem (type_id 0) (type_id 1) ∷ leaf (type_id 1) ∷ [])
unfolding node.out-TypeNode denote.Hole.Carrier.out block.shown-the_row-TypeNode-0 denote.Hole.Carrier.shown
forest = record {
  roots = refl;
  tops = ((0, omega arith, refl), tt);
  lower = (((1, omega arith, refl), tt), (tt, tt));
  ids = (omega arith, (omega arith, tt));
  each = ((refl, refl), ((refl, refl), tt));
}

person : IsSoundType staff_model (type_id 0) person_type
person = root_type staff_model (type_id 0) person_type refl refl refl ((tt, refl), tt)

employee : IsSoundType staff_model (type_id 1) employee_type
employee = record { props = refl; key = refl; key_props = person.key_props }

pub sound : IsSoundModel staff_model
sound = model_from staff_model (stem (type_id 0) (type_id 1) ∷ leaf (type_id 1) ∷ []) (tt, (refl, tt)) refl (record {
  forest = forest;
  others = ((refl, tt), ((refl, refl), tt));
  types = (person, (employee, tt));
  kinds = (tt, ((omega arith, omega arith), (tt, tt)));
  elements = ((type_id 0, (person_type, refl, refl), same (type_id 0)), tt);
  linked = tt;
  falls = tt;
})
