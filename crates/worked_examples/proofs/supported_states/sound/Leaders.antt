-- Projects and their leaders: the model is sound.
use Rattle.std.proofs.Common.{[], ◌∷◌, refl, arith}
use Rattle.edm_types.specs.IsA.{base, same}
use Rattle.edm_types.specs.declared.model.TypeNode as node
use Rattle.edm_types.specs.declared.model.TypeNode.TheBlock as block
use Rattle.round_trip.specs.soundness.models.Constraints.{IsSoundAssoc}
use Rattle.round_trip.specs.soundness.models.Models.{IsSoundModel, IsSoundType}
use Rattle.worked_examples.specs.Ids.{leaf, stem, type_id}
use Rattle.worked_examples.specs.people.People.{people_set, person_type}
use Rattle.worked_examples.specs.staff.Owners.{employee_type}
use Rattle.worked_examples.specs.supported.Leaders.{leader, leaders_model, project_type, projects_set}
use Rattle.worked_examples.proofs.sound_examples.models.Models.{ForestFacts, end_of_set, model_from, root_type}

forest : ForestFacts leaders_model (stem (type_id 0) (type_id 1) ∷ leaf (type_id 2) ∷ leaf (type_id 1) ∷ [])
unfolding node.out-TypeNode denote.Hole.Carrier.out block.shown-the_row-TypeNode-0 denote.Hole.Carrier.shown
forest = record {
  roots = refl;
  tops = ((0, omega arith, refl), ((1, omega arith, refl), tt));
  lower = (((2, omega arith, refl), tt), (tt, (tt, tt)));
  ids = (omega arith, (omega arith, (omega arith, tt)));
  each = ((refl, refl), ((refl, refl), ((refl, refl), tt)));
}

person : IsSoundType leaders_model (type_id 0) person_type
person = root_type leaders_model (type_id 0) person_type refl refl refl ((tt, refl), tt)

employee : IsSoundType leaders_model (type_id 1) employee_type
employee = record { props = refl; key = refl; key_props = person.key_props }

project : IsSoundType leaders_model (type_id 2) project_type
project = root_type leaders_model (type_id 2) project_type refl refl refl ((tt, refl), tt)

sound_leader : IsSoundAssoc leaders_model leader
sound_leader = record {
  first = record {
    concrete = (type_id 1, (employee_type, refl, refl), same (type_id 1));
    under = (people_set, refl, base (type_id 1) (type_id 0) (employee_type, refl, refl));
  };
  second = end_of_set leaders_model leader.second project_type projects_set refl refl refl refl;
  kind = record { first = λ one. refl; second = λ one. absurd (cc) };
}

pub sound : IsSoundModel leaders_model
sound = model_from leaders_model (stem (type_id 0) (type_id 1) ∷ leaf (type_id 2) ∷ leaf (type_id 1) ∷ []) (tt, (refl, (tt, tt))) refl (record {
  forest = forest;
  others = ((refl, tt), ((refl, refl), ((refl, tt), tt)));
  types = (person, (employee, (project, tt)));
  kinds = (tt, ((omega arith, omega arith), (tt, tt)));
  elements = ((type_id 0, (person_type, refl, refl), same (type_id 0)), (sound_leader.second.concrete, tt));
  linked = (sound_leader, tt);
  falls = ((λ constraint constrained by_key needed. absurd (cc)), tt);
})
