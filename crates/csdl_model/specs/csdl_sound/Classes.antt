-- A small document: lessons refer to the teacher who gives them by a key that teachers inherit, in another order than the key's, and may
-- have a helper. The ends of the association sets stand in another order than the associations', and references are by Namespace or by Alias.
-- What its sets, its associations and its forest are.
use Rattle.std.specs.Prelude.{pos, List, [], ◌∷◌, Some, None, true, false, codes}
use Rattle.round_trip.specs.Words.{Assoc, EntitySet, TypeNode}
use Rattle.edm_types.specs.Forest.{type_numbered}
use Rattle.edm_types.specs.declared.model.Mult.TheVariants.{Many, One, ZeroOrOne}
use Rattle.round_trip.specs.soundness.models.Inheritance.{prop_numbered}
use Rattle.csdl_names.specs.declared.csdl_lists.raw.RawAssociation.{RawAssociation}
use Rattle.csdl_names.specs.declared.csdl_lists.raw.RawAssociationSet.{RawAssociationSet}
use Rattle.csdl_names.specs.declared.csdl_lists.raw.RawBound.TheVariants.{Max, Number}
use Rattle.csdl_names.specs.declared.csdl_lists.raw.RawConstraint.{RawConstraint}
use Rattle.csdl_names.specs.declared.csdl_lists.raw.RawContainer.{RawContainer}
use Rattle.csdl_names.specs.declared.csdl_lists.raw.RawModel.{RawModel}
use Rattle.csdl_names.specs.declared.csdl_lists.raw.RawType.{RawType}
use Rattle.csdl_meaning.specs.csdl_forests.SchoolForest.{node_over}
use Rattle.csdl_meaning.specs.ModelMeaning.{set_numbered}
use Rattle.csdl_meaning.specs.School.{needed, optional}

-- teachers are persons, who stand behind them and have the key
abbrev pub teachers : RawType
teachers = record {
  name = codes "Teacher";
  base = Some (codes "C.Person");
  is_abstract = false;
  key = None;
  props = needed (codes "Salary") (codes "Edm.Int64") ∷ [];
  navs = record { name = codes "Lessons"; relationship = codes "Classes.Gives"; from_role = codes "Giver"; to_role = codes "Lesson" } ∷ [];
}

abbrev pub persons : RawType
persons = record {
  name = codes "Person";
  base = None;
  is_abstract = true;
  key = Some (codes "School" ∷ codes "Number" ∷ []);
  props = record { name = codes "School"; kind = codes "String"; nullable = false; bound = Number (pos 20) } ∷ needed (codes "Number") (codes "Int32") ∷ [];
  navs = [];
}

-- a part of a lesson's key refers to its teacher
abbrev pub lessons : RawType
lessons = record {
  name = codes "Lesson";
  base = None;
  is_abstract = false;
  key = Some (codes "School" ∷ codes "Hour" ∷ []);
  props =
      needed (codes "Hour") (codes "Int16")
      ∷ record { name = codes "School"; kind = codes "Edm.String"; nullable = false; bound = Number (pos 9) }
      ∷ needed (codes "GivenBy") (codes "Int32")
      ∷ optional (codes "Topic") (codes "String") Max
      ∷ [];
  navs = record { name = codes "Teacher"; relationship = codes "C.Gives"; from_role = codes "Lesson"; to_role = codes "Giver" } ∷ [];
}

-- the two lists match item by item
abbrev pub teacher_of_lesson : RawConstraint
teacher_of_lesson = record {
  principal = record { role = codes "Giver"; props = codes "Number" ∷ codes "School" ∷ [] };
  dependent = record { role = codes "Lesson"; props = codes "GivenBy" ∷ codes "School" ∷ [] };
}

abbrev pub gives : RawAssociation
gives = record {
  name = codes "Gives";
  ends = record { role = codes "Lesson"; ty = codes "C.Lesson"; multiplicity = codes "*" } ∷ record { role = codes "Giver"; ty = codes "Classes.Teacher"; multiplicity = codes "1" } ∷ [];
  constraint = Some teacher_of_lesson;
}

abbrev pub helps : RawAssociation
helps = record {
  name = codes "Helps";
  ends = record { role = codes "Helper"; ty = codes "C.Teacher"; multiplicity = codes "0..1" } ∷ record { role = codes "Helped"; ty = codes "C.Lesson"; multiplicity = codes "*" } ∷ [];
  constraint = None;
}

abbrev pub giving : RawAssociationSet
giving = record {
  name = codes "Giving";
  association = codes "Classes.Gives";
  ends = record { role = codes "Giver"; set = codes "Teachers" } ∷ record { role = codes "Lesson"; set = codes "Lessons" } ∷ [];
}

abbrev pub helping : RawAssociationSet
helping = record {
  name = codes "Helping";
  association = codes "C.Helps";
  ends = record { role = codes "Helped"; set = codes "Lessons" } ∷ record { role = codes "Helper"; set = codes "Teachers" } ∷ [];
}

abbrev pub timetable : RawContainer
timetable = record {
  name = codes "Timetable";
  sets = record { name = codes "Teachers"; element = codes "C.Teacher" } ∷ record { name = codes "Lessons"; element = codes "Classes.Lesson" } ∷ [];
  association_sets = giving ∷ helping ∷ [];
}

abbrev pub classes : RawModel
classes = record {
  namespace = codes "Classes";
  alias = Some (codes "C");
  container = timetable;
  types = teachers ∷ persons ∷ lessons ∷ [];
  enums = [];
  associations = gives ∷ helps ∷ [];
}

-- its entity sets
abbrev pub class_sets : List EntitySet
class_sets = record { name = codes "Teachers"; element = type_numbered 0 } ∷ record { name = codes "Lessons"; element = type_numbered 2 } ∷ []

-- its associations, with the ends in the order of the association
abbrev pub class_assocs : List Assoc
class_assocs =
    record {
      set_name = codes "Giving";
      assoc_name = codes "Gives";
      first = record { role = codes "Lesson"; set = set_numbered 1; ty = type_numbered 2; mult = Many };
      second = record { role = codes "Giver"; set = set_numbered 0; ty = type_numbered 0; mult = One };
      constraint = Some (record { dependent_first = true; principal = prop_numbered 2 ∷ prop_numbered 1 ∷ []; dependent = prop_numbered 5 ∷ prop_numbered 4 ∷ [] });
    }
    ∷ record {
      set_name = codes "Helping";
      assoc_name = codes "Helps";
      first = record { role = codes "Helper"; set = set_numbered 0; ty = type_numbered 0; mult = ZeroOrOne };
      second = record { role = codes "Helped"; set = set_numbered 1; ty = type_numbered 2; mult = Many };
      constraint = None;
    }
    ∷ []

-- its forest: persons with the teachers below them, and lessons
abbrev pub class_forest : List TypeNode
class_forest = node_over 1 true (node_over 0 false [] ∷ []) ∷ node_over 2 false [] ∷ []
