-- What a whole CSDL document means: a model.
-- Source: CSDL version 3, Schema, EntityContainer, EntitySet, AssociationSet, Association, End, Multiplicity and ReferentialConstraint.
use Rattle.std.specs.Prelude.{◌+◌, ℕ, List, [], ◌∷◌, map, Option, Some, None, option_map, unwrap_or, if◌then◌else◌, codes}
use Rattle.std.specs.List.{filter_map}
use Rattle.std.specs.Option.{option_and_then, option_map_or}
use Rattle.std.specs.Str.{bytes_eq}
use Rattle.round_trip.specs.Words.{Assoc, Constraint, End, EntityModel, EntitySet, Mult, PropId, SetId}
use Rattle.edm_types.specs.declared.model.Mult.TheVariants.{Many, One, ZeroOrOne}
use Rattle.edm_types.specs.Forest.{type_numbered}
use Rattle.round_trip.specs.soundness.models.Inheritance.{prop_numbered}
use Rattle.csdl_names.specs.declared.csdl_lists.raw.RawAssociation.{RawAssociation}
use Rattle.csdl_names.specs.declared.csdl_lists.raw.RawAssociationSet.{RawAssociationSet}
use Rattle.csdl_names.specs.declared.csdl_lists.raw.RawConstraint.{RawConstraint}
use Rattle.csdl_names.specs.declared.csdl_lists.raw.RawEnd.{RawEnd}
use Rattle.csdl_names.specs.declared.csdl_lists.raw.RawModel.{RawModel}
use Rattle.csdl_names.specs.declared.csdl_lists.raw.RawRole.{RawRole}
use Rattle.csdl_names.specs.declared.csdl_lists.raw.RawSet.{RawSet}
use Rattle.csdl_names.specs.csdl_lists.References.{names_in}
use Rattle.csdl_names.specs.PropPlaces.{prop_of_type}
use Rattle.csdl_names.specs.SetRoles.{set_of_role}
use Rattle.csdl_names.specs.Unresolved.{association_of, type_of_role}
use Rattle.csdl_meaning.specs.Meaning.{declared_before, forest_in, props_in, types_in}

-- the entity set at a place
abbrev pub set_numbered : ℕ → SetId
set_numbered place = record { index = place }

-- how many entities a multiplicity allows
abbrev pub mult_of : List ℕ → Mult
mult_of text = if bytes_eq text (codes "1") then One else if bytes_eq text (codes "0..1") then ZeroOrOne else Many

module _ (raw : RawModel) where
  -- an entity set
  abbrev pub set_of : RawSet → EntitySet
  set_of set = record { name = set.name; element = type_numbered (unwrap_or ((names_in raw).type_named set.element) 0) }

  -- an end of an association, with the entity set that an association set has there
  abbrev pub end_of : RawAssociationSet → RawEnd → End
  end_of set end = record {
    role = end.role;
    set = set_numbered (unwrap_or (set_of_role (names_in raw) raw set end.role) 0);
    ty = type_numbered (unwrap_or ((names_in raw).type_named end.ty) 0);
    mult = mult_of end.multiplicity;
  }

  -- the id of the property of this name that the type at a place has, its own or an inherited one
  abbrev pub prop_id : ℕ → List ℕ → Option PropId
  prop_id i name = option_map (λ found. prop_numbered (declared_before raw found.owner + found.place)) (prop_of_type (names_in raw) raw i name)

  -- the properties of the Principal or the Dependent of a constraint
  abbrev pub props_of_side : RawAssociation → RawRole → List PropId
  props_of_side association side = option_map_or (λ i. filter_map (prop_id i) side.props) (type_of_role (names_in raw) raw association side.role) []

  -- a constraint of an association whose first end this is
  abbrev pub constraint_of : RawAssociation → RawEnd → RawConstraint → Constraint
  constraint_of association first constraint = record {
    dependent_first = bytes_eq constraint.dependent.role first.role;
    principal = props_of_side association constraint.principal;
    dependent = props_of_side association constraint.dependent;
  }

  -- an association set of an association with these ends; None where they aren't two
  abbrev pub assoc_between : RawAssociationSet → RawAssociation → List RawEnd → Option Assoc
  assoc_between set association (first ∷ second ∷ []) = Some (record {
    set_name = set.name;
    assoc_name = association.name;
    first = end_of set first;
    second = end_of set second;
    constraint = option_map (constraint_of association first) association.constraint;
  })
  assoc_between set association _ = None

  -- an association set with its association; None where that isn't found
  abbrev pub assoc_of : RawAssociationSet → Option Assoc
  assoc_of set = option_and_then (λ association. assoc_between set association association.ends) (association_of (names_in raw) raw set.association)

  -- the model
  abbrev pub meaning : EntityModel
  meaning = record {
    namespace = raw.namespace;
    alias = raw.alias;
    container = raw.container.name;
    types = types_in raw;
    props = props_in raw;
    forest = forest_in raw;
    sets = map set_of raw.container.sets;
    assocs = filter_map assoc_of raw.container.association_sets;
  }
