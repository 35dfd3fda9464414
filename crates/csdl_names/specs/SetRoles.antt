-- What stands at the ends of an association set: the entity set of a role, and its element type.
-- Source: CSDL version 3, AssociationSet, End and EntitySet.
use Rattle.std.specs.Prelude.{ℕ, List, Option, find, slice_get}
use Rattle.std.specs.Option.{option_and_then}
use Rattle.std.specs.Str.{bytes_eq}
use Rattle.csdl_names.specs.declared.csdl_lists.raw.RawAssociationSet.{RawAssociationSet}
use Rattle.csdl_names.specs.declared.csdl_lists.raw.RawModel.{RawModel}
use Rattle.csdl_names.specs.declared.csdl_lists.raw.RawSetEnd.{RawSetEnd}
use Rattle.csdl_names.specs.csdl_lists.References.{Names}

-- the end of an association set that names this role
abbrev pub set_end_of_role : RawAssociationSet → List ℕ → Option RawSetEnd
set_end_of_role set role = find (λ end. bytes_eq role end.role) set.ends

module _ (names : Names) (model : RawModel) where
  -- the place of the entity set at that end
  abbrev pub set_of_role : RawAssociationSet → List ℕ → Option ℕ
  set_of_role set role = option_and_then (λ end. names.set_named end.set) (set_end_of_role set role)

  -- the element type of the entity set at a place
  abbrev pub element_of : ℕ → Option ℕ
  element_of place = option_and_then (λ set. names.type_named set.element) (slice_get model.container.sets place)

  -- the element type of the entity set at that end
  abbrev pub element_of_role : RawAssociationSet → List ℕ → Option ℕ
  element_of_role set role = option_and_then element_of (set_of_role set role)
