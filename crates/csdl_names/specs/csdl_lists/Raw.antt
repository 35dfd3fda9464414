-- A CSDL document as lists of what is written in it. Names are texts, and nothing is resolved. Where a member is missing, or of another
-- form than the layout says, there is a default, so that each tree is read.
-- Source: CSDL version 3, in the profile of this project.
use Rattle.std.specs.Prelude.{ℕ, ℤ, List, true, false, Option, Some, None, map, option_map, codes}
use Rattle.std.specs.Option.{option_map_or}
use Rattle.serde_json.specs.Data.{Data}
use Rattle.serde_json.specs.Find.{get}
use Rattle.json_form.specs.TreeParts.{items_in, whole_of}
use Rattle.json_form.specs.from_nodes.Reading.{flag_at, items_at, object_at, optional_text_at, text_at, text_of, texts_at, whole_at}
use Rattle.csdl_names.specs.declared.csdl_lists.raw.RawAssociation.{RawAssociation}
use Rattle.csdl_names.specs.declared.csdl_lists.raw.RawAssociationSet.{RawAssociationSet}
use Rattle.csdl_names.specs.declared.csdl_lists.raw.RawBound.{RawBound}
use Rattle.csdl_names.specs.declared.csdl_lists.raw.RawConstraint.{RawConstraint}
use Rattle.csdl_names.specs.declared.csdl_lists.raw.RawContainer.{RawContainer}
use Rattle.csdl_names.specs.declared.csdl_lists.raw.RawEnd.{RawEnd}
use Rattle.csdl_names.specs.declared.csdl_lists.raw.RawEnum.{RawEnum}
use Rattle.csdl_names.specs.declared.csdl_lists.raw.RawMember.{RawMember}
use Rattle.csdl_names.specs.declared.csdl_lists.raw.RawModel.{RawModel}
use Rattle.csdl_names.specs.declared.csdl_lists.raw.RawNav.{RawNav}
use Rattle.csdl_names.specs.declared.csdl_lists.raw.RawProp.{RawProp}
use Rattle.csdl_names.specs.declared.csdl_lists.raw.RawRole.{RawRole}
use Rattle.csdl_names.specs.declared.csdl_lists.raw.RawSet.{RawSet}
use Rattle.csdl_names.specs.declared.csdl_lists.raw.RawSetEnd.{RawSetEnd}
use Rattle.csdl_names.specs.declared.csdl_lists.raw.RawType.{RawType}
use Rattle.csdl_names.specs.declared.csdl_lists.raw.RawBound.TheVariants.{Absent, Max, Number}

-- an End of an AssociationSet
abbrev pub raw_set_end : Data → RawSetEnd
raw_set_end d = record { role = text_at (codes "Role") d; set = text_at (codes "EntitySet") d }

-- an AssociationSet
abbrev pub raw_association_set : Data → RawAssociationSet
raw_association_set d = record { name = text_at (codes "Name") d; association = text_at (codes "Association") d; ends = map raw_set_end (items_at (codes "End") d) }

-- an EntitySet
abbrev pub raw_set : Data → RawSet
raw_set d = record { name = text_at (codes "Name") d; element = text_at (codes "EntityType") d }

-- an End of an Association
abbrev pub raw_end : Data → RawEnd
raw_end d = record { role = text_at (codes "Role") d; ty = text_at (codes "Type") d; multiplicity = text_at (codes "Multiplicity") d }

-- the Principal or the Dependent of a ReferentialConstraint
abbrev pub raw_role : Data → RawRole
raw_role d = record { role = text_at (codes "Role") d; props = texts_at (codes "PropertyRef") d }

-- a Member of an EnumType
abbrev pub raw_member : Data → RawMember
raw_member d = record { name = text_at (codes "Name") d; value = whole_at (codes "Value") d }

-- an EnumType
abbrev pub raw_enum : Data → RawEnum
raw_enum d = record { name = text_at (codes "Name") d; underlying = optional_text_at (codes "UnderlyingType") d; members = map raw_member (items_at (codes "Member") d) }

-- a NavigationProperty
abbrev pub raw_nav : Data → RawNav
raw_nav d = record { name = text_at (codes "Name") d; relationship = text_at (codes "Relationship") d; from_role = text_at (codes "FromRole") d; to_role = text_at (codes "ToRole") d }

-- a number where the MaxLength is one; else it counts as Max
abbrev pub bound_of : Option ℤ → RawBound
bound_of None = Max
bound_of (Some number) = Number number

-- the MaxLength of a property
abbrev pub bound_at : Data → RawBound
bound_at d = option_map_or (λ bound. bound_of (whole_of bound)) (get (codes "MaxLength") d) Absent

-- the names of a key, where one is given
abbrev pub key_at : Data → Option (List (List ℕ))
key_at d = option_map (λ key. map text_of (items_in key)) (get (codes "Key") d)

-- a Property
abbrev pub raw_prop : Data → RawProp
raw_prop d = record { name = text_at (codes "Name") d; kind = text_at (codes "Type") d; nullable = flag_at (codes "Nullable") true d; bound = bound_at d }

-- an EntityType
abbrev pub raw_type : Data → RawType
raw_type d = record { name = text_at (codes "Name") d; base = optional_text_at (codes "BaseType") d; is_abstract = flag_at (codes "Abstract") false d; key = key_at d; props = map raw_prop (items_at (codes "Property") d); navs = map raw_nav (items_at (codes "NavigationProperty") d) }

-- a ReferentialConstraint
abbrev pub raw_constraint : Data → RawConstraint
raw_constraint d = record { principal = raw_role (object_at (codes "Principal") d); dependent = raw_role (object_at (codes "Dependent") d) }

-- an Association
abbrev pub raw_association : Data → RawAssociation
raw_association d = record { name = text_at (codes "Name") d; ends = map raw_end (items_at (codes "End") d); constraint = option_map raw_constraint (get (codes "ReferentialConstraint") d) }

-- the EntityContainer
abbrev pub raw_container : Data → RawContainer
raw_container d = record { name = text_at (codes "Name") d; sets = map raw_set (items_at (codes "EntitySet") d); association_sets = map raw_association_set (items_at (codes "AssociationSet") d) }

-- a CSDL document
abbrev pub raw_model : Data → RawModel
raw_model d = record { namespace = text_at (codes "Namespace") d; alias = optional_text_at (codes "Alias") d; container = raw_container (object_at (codes "EntityContainer") d); types = map raw_type (items_at (codes "EntityType") d); enums = map raw_enum (items_at (codes "EnumType") d); associations = map raw_association (items_at (codes "Association") d) }
