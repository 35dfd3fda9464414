-- The shelves keep V6 and V7.
use Rattle.std.proofs.Common.{⊎_elim, ◌<◌, [], ◌∷◌, map, ◌++◌, codes, refl, arith}
use Rattle.json_form.specs.declared.pointer.Step.TheVariants.{Member}
use Rattle.layouts.specs.declared.fault.Fault.{Fault}
use Rattle.layouts.specs.rule_places.Places.{InList}
use Rattle.csdl_names.specs.declared.csdl_lists.raw.RawConstraint.{RawConstraint}
use Rattle.csdl_names.specs.csdl_lists.References.{Names, names_in}
use Rattle.csdl_names.specs.Repeated.{IsRepeated, IsRepeatedInAssociation, IsRepeatedInContainer, IsRepeatedInEnum, IsRepeatedInSchema, IsRepeatedInType}
use Rattle.csdl_names.specs.Unresolved.{IsUnresolved, IsUnresolvedInAssociation, IsUnresolvedInAssociationSet, IsUnresolvedInConstraint, IsUnresolvedInContainer, IsUnresolvedInEnd, IsUnresolvedInNav, IsUnresolvedInRole, IsUnresolvedInSet, IsUnresolvedInType, IsUnresolvedProp, LacksProp, end_of_role}
use Rattle.layouts.proofs.rule_places.NoFaults.{none_again, none_in, none_under}
use Rattle.csdl_meaning.proofs.examples.NoTypeFaults.{declares, not_lacked, not_none, once_in_type}
use Rattle.ssdl_model.specs.ssdl_lists.Tables.{table_of}
use Rattle.ssdl_model.specs.ssdl_rules.Owned.{HasEndlessFault, IsEndless, IsEndlessFault, IsShared, IsSharedFault}
use Rattle.ssdl_model.specs.ssdl_sound.Shelves.{books, places, shelves, standing}

-- what names stand for
abbrev pub names : Names
names = names_in shelves

-- the constraint
abbrev pub by_place : RawConstraint
by_place = record {
  principal = record { role = codes "On"; props = codes "Row" ∷ codes "Room" ∷ [] };
  dependent = record { role = codes "Book"; props = codes "Row" ∷ codes "Room" ∷ [] };
}

-- V6
once_in_schema : (fault : Fault) → ¬ IsRepeatedInSchema shelves fault
once_in_schema fault = ⊎_elim
    (none_again (λ association. association.name) [] (codes "Association") (codes "Name") shelves.associations refl refl fault)
    (⊎_elim
    (none_again (λ type. type.name) (map (λ association. association.name) shelves.associations) (codes "EntityType") (codes "Name") shelves.types refl refl fault)
    (none_again (λ enum. enum.name) (map (λ association. association.name) shelves.associations ++ map (λ type. type.name) shelves.types) (codes "EnumType") (codes "Name") shelves.enums refl refl fault))

once_in_container : (fault : Fault) → ¬ IsRepeatedInContainer shelves.container fault
once_in_container fault = ⊎_elim
    (none_again (λ set. set.name) [] (codes "AssociationSet") (codes "Name") shelves.container.association_sets refl refl fault)
    (none_again (λ set. set.name) (map (λ set. set.name) shelves.container.association_sets) (codes "EntitySet") (codes "Name") shelves.container.sets refl refl fault)

pub repeats_none : (fault : Fault) → ¬ IsRepeated shelves fault
repeats_none fault = ⊎_elim (once_in_schema fault) (⊎_elim
    (none_under (Member (codes "EntityContainer")) (IsRepeatedInContainer shelves.container) once_in_container fault)
    (⊎_elim
    (none_in IsRepeatedInType (codes "EntityType") shelves.types (once_in_type 0 books refl refl, (once_in_type 1 places refl refl, tt)) fault)
    (⊎_elim
    (none_in IsRepeatedInEnum (codes "EnumType") [] tt fault)
    (none_in IsRepeatedInAssociation (codes "Association") shelves.associations (none_again (λ end. end.role) [] (codes "End") (codes "Role") standing.ends refl refl, tt) fault))))

-- V6: no two tables have one type
pub shares_none : (fault : Fault) → ¬ IsShared shelves fault
shares_none = none_under (Member (codes "EntityContainer")) (InList (codes "EntitySet") (IsSharedFault names shelves) shelves.container.sets)
    (none_in (IsSharedFault names shelves) (codes "EntitySet") shelves.container.sets (
      (λ fault shared. let before : 0 < 0 = shared.0 in absurd (omega arith)),
      ((λ fault shared. let before : 1 < 1 = shared.0 in absurd (omega arith)), tt),
    ))

-- V7: books have a number, a row and a room, and shelves a row and a room
books_have_id : ¬ LacksProp names shelves (codes "Id") 0
books_have_id = not_lacked names shelves (codes "Id") 0 books refl (declares books (codes "Id") refl)

books_have_row : ¬ LacksProp names shelves (codes "Row") 0
books_have_row = not_lacked names shelves (codes "Row") 0 books refl (declares books (codes "Row") refl)

books_have_room : ¬ LacksProp names shelves (codes "Room") 0
books_have_room = not_lacked names shelves (codes "Room") 0 books refl (declares books (codes "Room") refl)

places_have_row : ¬ LacksProp names shelves (codes "Row") 1
places_have_row = not_lacked names shelves (codes "Row") 1 places refl (declares places (codes "Row") refl)

places_have_room : ¬ LacksProp names shelves (codes "Room") 1
places_have_room = not_lacked names shelves (codes "Room") 1 places refl (declares places (codes "Room") refl)

resolved_books : (fault : Fault) → ¬ IsUnresolvedInType names shelves 0 books fault
resolved_books fault = ⊎_elim (λ no. no) (⊎_elim
    (none_in (IsUnresolvedProp names shelves 0) (codes "Key") (codes "Id" ∷ []) ((λ fault lacks. books_have_id lacks.0), tt) fault)
    (none_in (IsUnresolvedInNav names shelves) (codes "NavigationProperty") [] tt fault))

resolved_places : (fault : Fault) → ¬ IsUnresolvedInType names shelves 1 places fault
resolved_places fault = ⊎_elim (λ no. no) (⊎_elim
    (none_in (IsUnresolvedProp names shelves 1) (codes "Key") (codes "Room" ∷ codes "Row" ∷ []) ((λ fault lacks. places_have_room lacks.0), ((λ fault lacks. places_have_row lacks.0), tt)) fault)
    (none_in (IsUnresolvedInNav names shelves) (codes "NavigationProperty") [] tt fault))

resolved_container : (fault : Fault) → ¬ IsUnresolvedInContainer names shelves shelves.container fault
resolved_container fault = ⊎_elim
    (none_in (IsUnresolvedInSet names shelves) (codes "EntitySet") shelves.container.sets
    ((λ fault nothing. not_none (names.type_named (codes "Self.Shelf")) refl nothing.0), ((λ fault nothing. not_none (names.type_named (codes "Shelves.Book")) refl nothing.0), tt)) fault)
    (none_in (IsUnresolvedInAssociationSet names shelves) (codes "AssociationSet") [] tt fault)

resolved_constraint : (fault : Fault) → ¬ IsUnresolvedInConstraint names shelves standing by_place fault
resolved_constraint fault = ⊎_elim
    (none_under (Member (codes "Principal")) (IsUnresolvedInRole names shelves standing by_place.principal) (λ fault. ⊎_elim
    (λ lacks. not_none (end_of_role standing (codes "On")) refl lacks.0)
    (none_in (IsUnresolvedProp names shelves 1) (codes "PropertyRef") (codes "Row" ∷ codes "Room" ∷ []) ((λ fault lacks. places_have_row lacks.0), ((λ fault lacks. places_have_room lacks.0), tt)) fault)) fault)
    (none_under (Member (codes "Dependent")) (IsUnresolvedInRole names shelves standing by_place.dependent) (λ fault. ⊎_elim
    (λ lacks. not_none (end_of_role standing (codes "Book")) refl lacks.0)
    (none_in (IsUnresolvedProp names shelves 0) (codes "PropertyRef") (codes "Row" ∷ codes "Room" ∷ []) ((λ fault lacks. books_have_row lacks.0), ((λ fault lacks. books_have_room lacks.0), tt)) fault)) fault)

resolved_standing : (fault : Fault) → ¬ IsUnresolvedInAssociation names shelves 0 standing fault
resolved_standing fault = ⊎_elim
    (none_in (IsUnresolvedInEnd names shelves) (codes "End") standing.ends
    ((λ fault nothing. not_none (names.type_named (codes "Self.Shelf")) refl nothing.0), ((λ fault nothing. not_none (names.type_named (codes "Shelves.Book")) refl nothing.0), tt)) fault)
    (none_under (Member (codes "ReferentialConstraint")) (IsUnresolvedInConstraint names shelves standing by_place) resolved_constraint fault)

pub resolves_all : (fault : Fault) → ¬ IsUnresolved shelves fault
resolves_all fault = ⊎_elim
    (none_under (Member (codes "EntityContainer")) (IsUnresolvedInContainer names shelves shelves.container) resolved_container fault)
    (⊎_elim
    (none_in (IsUnresolvedInType names shelves) (codes "EntityType") shelves.types (resolved_books, (resolved_places, tt)) fault)
    (none_in (IsUnresolvedInAssociation names shelves) (codes "Association") shelves.associations (resolved_standing, tt) fault))

-- V7: the type of each end is that of a table
pub ends_at_tables : (fault : Fault) → ¬ IsEndless shelves fault
ends_at_tables = none_in (HasEndlessFault names shelves) (codes "Association") shelves.associations (
  none_in (IsEndlessFault names shelves) (codes "End") standing.ends
      ((λ fault endless. not_none (table_of names shelves 1) refl endless.0), ((λ fault endless. not_none (table_of names shelves 0) refl endless.0), tt)),
  tt,
)
