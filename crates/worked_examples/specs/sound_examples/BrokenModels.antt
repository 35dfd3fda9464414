-- Models of which one part is broken.
use Rattle.std.specs.Prelude.{[], ◌∷◌, Some, None, true, false, codes}
use Rattle.round_trip.specs.Words.{EntityModel, EntityType, Assoc}
use Rattle.emc_base.specs.declared.value.Kind.TheVariants as kind
use Rattle.edm_types.specs.declared.model.Mult.TheVariants.{One, ZeroOrOne}
use Rattle.edm_types.specs.declared.model.TypeNode.{TypeNode', end_of-TypeNode}
use Rattle.worked_examples.specs.Ids.{type_id, prop_id, optional, leaf, stem, concrete_type, model_of}
use Rattle.worked_examples.specs.people.People.{people_set, person_type, id_prop, name_prop}
use Rattle.worked_examples.specs.bosses.Bosses.{people_as}
use Rattle.worked_examples.specs.staff.Owners.{owner, shop_model}
use Rattle.worked_examples.specs.staff.Salary.{employee_type, salary_prop}

-- people whose id may be null
abbrev pub optional_key : EntityModel
optional_key = model_of (person_type ∷ []) (optional (type_id 0) (codes "Id") kind.Int32 ∷ name_prop ∷ []) (leaf (type_id 0) ∷ []) (people_set ∷ []) []

-- people whose base type is their own
abbrev pub own_person : EntityType
own_person = concrete_type (codes "Person") (Some (type_id 0)) (prop_id 0 ∷ []) (prop_id 0 ∷ prop_id 1 ∷ [])

abbrev pub own_base : EntityModel
own_base = model_of (own_person ∷ []) (id_prop ∷ name_prop ∷ []) [] (people_set ∷ []) []

-- people, employees among them, in a forest that lacks the employees
abbrev pub lost_employees : EntityModel
lost_employees = model_of (person_type ∷ employee_type ∷ []) (id_prop ∷ name_prop ∷ salary_prop ∷ []) (leaf (type_id 0) ∷ []) (people_set ∷ []) []

-- a set in which nothing can stand
abbrev pub abstract_person : EntityType
abstract_person = record { name = codes "Person"; base = None; is_abstract = true; key = prop_id 0 ∷ []; props = prop_id 0 ∷ prop_id 1 ∷ []; navs = [] }

abbrev pub nobody : EntityModel
nobody = model_of (abstract_person ∷ []) (id_prop ∷ name_prop ∷ []) (TypeNode' (type_id 0) true [] end_of-TypeNode ∷ []) (people_set ∷ []) []

-- each person has exactly one boss, and is the boss of exactly one person
abbrev pub paired : Assoc
paired = record { set_name = codes "Boss"; assoc_name = codes "Boss"; first = people_as (codes "Staff") One; second = people_as (codes "Manager") One; constraint = None }

abbrev pub paired_model : EntityModel
paired_model = model_of (person_type ∷ []) (id_prop ∷ name_prop ∷ []) (leaf (type_id 0) ∷ []) (people_set ∷ []) (paired ∷ [])

-- a person's id is that of another person, who is their principal: the arrow leads from the set to itself
abbrev pub own_principal : Assoc
own_principal = record {
  set_name = codes "Twin";
  assoc_name = codes "Twin";
  first = people_as (codes "One") One;
  second = people_as (codes "Other") ZeroOrOne;
  constraint = Some (record { dependent_first = false; principal = prop_id 0 ∷ []; dependent = prop_id 0 ∷ [] });
}

abbrev pub own_principal_model : EntityModel
own_principal_model = model_of (person_type ∷ []) (id_prop ∷ name_prop ∷ []) (leaf (type_id 0) ∷ []) (people_set ∷ []) (own_principal ∷ [])

-- an employee has a name of their own, besides the one that they inherit
abbrev pub renamed_employee : EntityType
renamed_employee = concrete_type (codes "Employee") (Some (type_id 0)) (prop_id 0 ∷ []) (prop_id 0 ∷ prop_id 1 ∷ prop_id 2 ∷ [])

abbrev pub inherited_name : EntityModel
inherited_name = model_of (person_type ∷ renamed_employee ∷ []) (id_prop ∷ name_prop ∷ optional (type_id 1) (codes "Name") kind.Int32 ∷ []) (stem (type_id 0) (type_id 1) ∷ [])
    (people_set ∷ []) []

-- orders that refer to their owners by nothing
abbrev pub unlisted_owner : Assoc
unlisted_owner = record {
  set_name = codes "Owner";
  assoc_name = codes "Owner";
  first = owner.first;
  second = owner.second;
  constraint = Some (record { dependent_first = false; principal = []; dependent = [] });
}

abbrev pub unlisted_model : EntityModel
unlisted_model = model_of shop_model.types shop_model.props shop_model.forest shop_model.sets (unlisted_owner ∷ [])
