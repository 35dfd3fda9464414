-- A small document: a derived type stands before its base type, a key has another order than its properties, and references are by Namespace or
-- by Alias. What its types and properties are.
use Rattle.std.specs.Prelude.{ℕ, ℤ, pos, List, [], ◌∷◌, Option, Some, None, Bool, true, false, codes}
use Rattle.emc_base.specs.declared.value.Kind.TheVariants as kind
use Rattle.emc_base.specs.declared.value.Under.TheVariants as under
use Rattle.round_trip.specs.Words.{EntityType, Kind, Prop}
use Rattle.edm_types.specs.Forest.{type_numbered}
use Rattle.round_trip.specs.soundness.models.Inheritance.{prop_numbered}
use Rattle.csdl_names.specs.declared.csdl_lists.raw.RawAssociation.{RawAssociation}
use Rattle.csdl_names.specs.declared.csdl_lists.raw.RawBound.{RawBound}
use Rattle.csdl_names.specs.declared.csdl_lists.raw.RawBound.TheVariants.{Absent, Max, Number}
use Rattle.csdl_names.specs.declared.csdl_lists.raw.RawEnum.{RawEnum}
use Rattle.csdl_names.specs.declared.csdl_lists.raw.RawMember.{RawMember}
use Rattle.csdl_names.specs.declared.csdl_lists.raw.RawModel.{RawModel}
use Rattle.csdl_names.specs.declared.csdl_lists.raw.RawProp.{RawProp}
use Rattle.csdl_names.specs.declared.csdl_lists.raw.RawType.{RawType}

-- a property that may not be null, and one that may
abbrev pub needed : List ℕ → List ℕ → RawProp
needed name type = record { name = name; kind = type; nullable = false; bound = Absent }

abbrev pub optional : List ℕ → List ℕ → RawBound → RawProp
optional name type bound = record { name = name; kind = type; nullable = true; bound = bound }

abbrev pub member : List ℕ → Option ℤ → RawMember
member name value = record { name = name; value = value }

-- teachers are persons, who stand behind them
abbrev pub teachers : RawType
teachers = record {
  name = codes "Teacher";
  base = Some (codes "S.Person");
  is_abstract = false;
  key = None;
  props = needed (codes "Salary") (codes "Edm.Int64") ∷ [];
  navs = record { name = codes "Lessons"; relationship = codes "School.Gives"; from_role = codes "Giver"; to_role = codes "Lesson" } ∷ [];
}

abbrev pub persons : RawType
persons = record {
  name = codes "Person";
  base = None;
  is_abstract = true;
  key = Some (codes "Id" ∷ []);
  props = optional (codes "Name") (codes "String") (Number (pos 40)) ∷ needed (codes "Id") (codes "Int32") ∷ [];
  navs = [];
}

-- the key of a lesson has its room first
abbrev pub lessons : RawType
lessons = record {
  name = codes "Lesson";
  base = None;
  is_abstract = false;
  key = Some (codes "Room" ∷ codes "Hour" ∷ []);
  props =
      needed (codes "Hour") (codes "Int16")
      ∷ needed (codes "Room") (codes "String")
      ∷ optional (codes "Notes") (codes "String") Max
      ∷ optional (codes "Plan") (codes "Binary") (Number (pos 9))
      ∷ optional (codes "Seats") (codes "Byte") Absent
      ∷ optional (codes "Open") (codes "Boolean") Absent
      ∷ optional (codes "Level") (codes "S.Level") Absent
      ∷ optional (codes "Part") (codes "School.Part") Absent
      ∷ [];
  navs = [];
}

-- numbers that fall, one that follows another, and one that is given twice
abbrev pub levels : RawEnum
levels = record {
  name = codes "Level";
  underlying = Some (codes "Edm.Byte");
  members = member (codes "High") (Some (pos 7)) ∷ member (codes "Low") (Some (pos 3)) ∷ member (codes "Middle") None ∷ member (codes "Top") (Some (pos 7)) ∷ [];
}

-- no numbers
abbrev pub parts : RawEnum
parts = record { name = codes "Part"; underlying = None; members = member (codes "First") None ∷ member (codes "Last") None ∷ [] }

abbrev pub giving : RawAssociation
giving = record {
  name = codes "Gives";
  ends = record { role = codes "Giver"; ty = codes "School.Teacher"; multiplicity = codes "1" } ∷ record { role = codes "Lesson"; ty = codes "School.Lesson"; multiplicity = codes "*" } ∷ [];
  constraint = None;
}

abbrev pub school : RawModel
school = record {
  namespace = codes "School";
  alias = Some (codes "S");
  container = record { name = codes "All"; sets = []; association_sets = [] };
  types = teachers ∷ persons ∷ lessons ∷ [];
  enums = levels ∷ parts ∷ [];
  associations = giving ∷ [];
}

-- its types: a teacher has the key and the properties of a person, and then its own
abbrev pub school_types : List EntityType
school_types =
    record {
      name = codes "Teacher";
      base = Some (type_numbered 1);
      is_abstract = false;
      key = prop_numbered 2 ∷ [];
      props = prop_numbered 1 ∷ prop_numbered 2 ∷ prop_numbered 0 ∷ [];
      navs = record { name = codes "Lessons"; assoc_name = codes "Gives"; from_role = codes "Giver"; to_role = codes "Lesson" } ∷ [];
    }
    ∷ record { name = codes "Person"; base = None; is_abstract = true; key = prop_numbered 2 ∷ []; props = prop_numbered 1 ∷ prop_numbered 2 ∷ []; navs = [] }
    ∷ record {
      name = codes "Lesson";
      base = None;
      is_abstract = false;
      key = prop_numbered 4 ∷ prop_numbered 3 ∷ [];
      props = prop_numbered 3 ∷ prop_numbered 4 ∷ prop_numbered 5 ∷ prop_numbered 6 ∷ prop_numbered 7 ∷ prop_numbered 8 ∷ prop_numbered 9 ∷ prop_numbered 10 ∷ [];
      navs = [];
    }
    ∷ []

-- a property of the model
abbrev pub declared : ℕ → List ℕ → Kind → Bool → Prop
declared owner name kind nullable = record { owner = type_numbered owner; name = name; kind = kind; nullable = nullable }

-- its properties
abbrev pub school_props : List Prop
school_props =
    declared 0 (codes "Salary") kind.Int64 false
    ∷ declared 1 (codes "Name") (kind.Text (Some 40)) true
    ∷ declared 1 (codes "Id") kind.Int32 false
    ∷ declared 2 (codes "Hour") kind.Int16 false
    ∷ declared 2 (codes "Room") (kind.Text None) false
    ∷ declared 2 (codes "Notes") (kind.Text None) true
    ∷ declared 2 (codes "Plan") (kind.Binary (Some 9)) true
    ∷ declared 2 (codes "Seats") kind.Byte true
    ∷ declared 2 (codes "Open") kind.Boolean true
    ∷ declared 2 (codes "Level") (kind.Enum (record { under = under.Byte; members = pos 3 ∷ pos 4 ∷ pos 7 ∷ [] })) true
    ∷ declared 2 (codes "Part") (kind.Enum (record { under = under.Int32; members = pos 0 ∷ pos 1 ∷ [] })) true
    ∷ []
