-- V6, V7, V26, V27, V28 and V40: the names in a mapping document.
-- V7 is asked of a name only where what it is looked up in is found: of a column only where its table is, of a role only where the association
-- set is. It isn't asked of the names of properties in a MappingFragment, of which V28 speaks, nor of those in conditions of an association.
-- Source: MSL version 3, in the profile of this project.
use Rattle.std.specs.Prelude.{◌≡◌, ◌≢◌, ◌⊎◌, ℕ, List, [], ◌∷◌, codes, All, Any, Some, None, MatchOption}
use Rattle.emc_base.specs.Lists.{At}
use Rattle.json_form.specs.declared.pointer.Step.TheVariants.{Member}
use Rattle.layouts.specs.declared.fault.Fault.{Fault}
use Rattle.layouts.specs.declared.rule.Rule.TheVariants.{Resolves, ContainerName, PickedType, SharedProperty, MappedAssociation}
use Rattle.layouts.specs.Inside.{Under}
use Rattle.layouts.specs.rule_places.Places.{IsAt, InList}
use Rattle.layouts.specs.rule_places.Names.{IsRepeatedIn, NamesNothing}
use Rattle.round_trip.specs.Words.{PropId, EntityModel, StoreModel, Assoc, End, EntitySet, IsA}
use Rattle.edm_types.specs.Forest.{type_numbered}
use Rattle.schema_names.specs.SchemaNames.{type_named, set_named, association_set_named, table_named, column_named, prop_named, NamesAssociation, IsOfAssociation}
use Rattle.msl_rules.specs.declared.msl_lists.raw.RawPick.{RawPick}
use Rattle.msl_rules.specs.declared.msl_lists.raw.RawPair.{RawPair}
use Rattle.msl_rules.specs.declared.msl_lists.raw.RawCond.{RawCond}
use Rattle.msl_rules.specs.declared.msl_lists.raw.RawFragment.{RawFragment}
use Rattle.msl_rules.specs.declared.msl_lists.raw.RawTypeMapping.{RawTypeMapping}
use Rattle.msl_rules.specs.declared.msl_lists.raw.RawSetMapping.{RawSetMapping}
use Rattle.msl_rules.specs.declared.msl_lists.raw.RawEndMapping.{RawEndMapping}
use Rattle.msl_rules.specs.declared.msl_lists.raw.RawLinkMapping.{RawLinkMapping}
use Rattle.msl_rules.specs.declared.msl_lists.raw.RawMapping.{RawMapping}
use Rattle.msl_rules.specs.Found.{role_end}

-- what is wrong in the EntityContainerMapping, seen from the root
abbrev pub InContainer : (Fault → Type 0) → Fault → Type 0
InContainer P = Under (Member (codes "EntityContainerMapping")) P

-- V6: an entity set is mapped twice, an association set is, or both ends of an association name one role
abbrev pub IsMappedTwice : RawMapping → Fault → Type 0
IsMappedTwice raw = InContainer (λ fault.
    IsRepeatedIn (λ set. set.name) [] (codes "EntitySetMapping") (codes "Name") raw.sets fault
    ⊎ IsRepeatedIn (λ link. link.name) [] (codes "AssociationSetMapping") (codes "Name") raw.links fault
    ⊎ InList (codes "AssociationSetMapping") (λ i link. IsRepeatedIn (λ end. end.role) [] (codes "EndProperty") (codes "Name") link.ends) raw.links fault)

-- V26: a container has another name than its document gives it
abbrev pub HasOtherContainer : EntityModel → StoreModel → RawMapping → Fault → Type 0
HasOtherContainer model store raw = InContainer (λ fault.
    ((raw.store_container ≢ store.container) × IsAt ContainerName (Member (codes "StorageEntityContainer") ∷ []) fault)
    ⊎ ((raw.model_container ≢ model.container) × IsAt ContainerName (Member (codes "CdmEntityContainer") ∷ []) fault))

-- V7, in the table at a place
module _ (store : StoreModel) (t : ℕ) where
  -- the column of a pair
  abbrev pub LacksColumn : ℕ → RawPair → Fault → Type 0
  LacksColumn k pair = NamesNothing (column_named store t pair.col) (codes "ColumnName")

  -- that of a condition, where it names one
  abbrev pub LacksCondColumn : ℕ → RawCond → Fault → Type 0
  LacksCondColumn k cond fault = MatchOption cond.col ⊥ (λ name. NamesNothing (column_named store t name) (codes "ColumnName") fault)

  -- the columns that a fragment names
  abbrev pub LacksColumns : List RawPair → List RawCond → Fault → Type 0
  LacksColumns pairs conds fault = InList (codes "ScalarProperty") LacksColumn pairs fault ⊎ InList (codes "Condition") LacksCondColumn conds fault

module _ (model : EntityModel) (store : StoreModel) where
  -- V7 of a fragment: its table, and then the columns
  abbrev pub IsUnresolvedFragment : ℕ → RawFragment → Fault → Type 0
  IsUnresolvedFragment k fragment fault =
      NamesNothing (table_named store fragment.table) (codes "StoreEntitySet") fault
      ⊎ MatchOption (table_named store fragment.table) ⊥ (λ t. LacksColumns store t fragment.pairs fragment.conds fault)

  -- an item of a TypeName names no type
  abbrev pub HasUnresolvedPick : RawTypeMapping → Type 0
  HasUnresolvedPick types = Any (λ pick. type_named model pick.reference ≡ None) types.picks

  -- of a type mapping: its TypeName, and its fragments
  abbrev pub IsUnresolvedTypes : ℕ → RawTypeMapping → Fault → Type 0
  IsUnresolvedTypes j types fault =
      (HasUnresolvedPick types × IsAt Resolves (Member (codes "TypeName") ∷ []) fault)
      ⊎ InList (codes "MappingFragment") IsUnresolvedFragment types.fragments fault

  -- of a set's mapping: its set, and its type mappings
  abbrev pub IsUnresolvedSet : ℕ → RawSetMapping → Fault → Type 0
  IsUnresolvedSet i set fault =
      NamesNothing (set_named model set.name) (codes "Name") fault
      ⊎ InList (codes "EntityTypeMapping") IsUnresolvedTypes set.types fault

  -- of a pair at an end of this type: its property
  abbrev pub LacksProp : End → ℕ → RawPair → Fault → Type 0
  LacksProp known k pair fault = (prop_named model known.ty.index pair.prop ≡ None) × IsAt Resolves (Member (codes "Name") ∷ []) fault

  -- of an end of this association: its role, or else its properties
  abbrev pub IsUnresolvedEnd : Assoc → ℕ → RawEndMapping → Fault → Type 0
  IsUnresolvedEnd assoc e end fault =
      ((role_end assoc end.role ≡ None) × IsAt Resolves (Member (codes "Name") ∷ []) fault)
      ⊎ MatchOption (role_end assoc end.role) ⊥ (λ known. InList (codes "ScalarProperty") (LacksProp known) end.pairs fault)

  -- of the columns of the ends, in the table at a place
  abbrev pub LacksEndColumns : ℕ → ℕ → RawEndMapping → Fault → Type 0
  LacksEndColumns t e end = InList (codes "ScalarProperty") (LacksColumn store t) end.pairs

  -- of an association's mapping: the association set, with the roles and properties of its ends; the association; the table, with the columns
  abbrev pub IsUnresolvedLink : ℕ → RawLinkMapping → Fault → Type 0
  IsUnresolvedLink i link fault =
      NamesNothing (association_set_named model link.name) (codes "Name") fault
      ⊎ ((¬ NamesAssociation model link.association) × IsAt Resolves (Member (codes "TypeName") ∷ []) fault)
      ⊎ NamesNothing (table_named store link.table) (codes "StoreEntitySet") fault
      ⊎ MatchOption (association_set_named model link.name) ⊥
      (λ a. (assoc : Assoc) × At model.assocs a assoc × InList (codes "EndProperty") (IsUnresolvedEnd assoc) link.ends fault)
      ⊎ MatchOption (table_named store link.table) ⊥
      (λ t. InList (codes "EndProperty") (LacksEndColumns t) link.ends fault ⊎ InList (codes "Condition") (LacksCondColumn store t) link.conds fault)

  -- V7
  abbrev pub IsUnresolvedName : RawMapping → Fault → Type 0
  IsUnresolvedName raw = InContainer (λ fault.
      InList (codes "EntitySetMapping") IsUnresolvedSet raw.sets fault
      ⊎ InList (codes "AssociationSetMapping") IsUnresolvedLink raw.links fault)

module _ (model : EntityModel) where
  -- V27: a type in the TypeName is neither the element type of the set nor derived from it
  abbrev pub PicksOther : EntitySet → RawPick → Type 0
  PicksOther set pick = MatchOption (type_named model pick.reference) ⊥ (λ t. ¬ IsA model (type_numbered t) set.element)

  abbrev pub IsPickedFault : EntitySet → ℕ → RawTypeMapping → Fault → Type 0
  IsPickedFault set j types fault = Any (PicksOther set) types.picks × IsAt PickedType (Member (codes "TypeName") ∷ []) fault

  -- V28: no property is what the name stands for in each type of the TypeName
  abbrev pub NamesNoShared : List RawPick → List ℕ → Type 0
  NamesNoShared picks name =
      (p : PropId) → ¬ All (λ pick. (t : ℕ) × (type_named model pick.reference ≡ Some t) × (prop_named model t name ≡ Some p)) picks

  abbrev pub IsUnsharedName : List RawPick → List ℕ → Fault → Type 0
  IsUnsharedName picks name fault = NamesNoShared picks name × IsAt SharedProperty (Member (codes "Name") ∷ []) fault

  -- of a fragment: what its pairs and its conditions name
  abbrev pub IsSharedFault : List RawPick → ℕ → RawFragment → Fault → Type 0
  IsSharedFault picks k fragment fault =
      InList (codes "ScalarProperty") (λ n pair. IsUnsharedName picks pair.prop) fragment.pairs fault
      ⊎ InList (codes "Condition") (λ n cond inside. MatchOption cond.prop ⊥ (λ name. IsUnsharedName picks name inside)) fragment.conds fault

  -- V28 of a type mapping
  abbrev pub IsSharedTypesFault : ℕ → RawTypeMapping → Fault → Type 0
  IsSharedTypesFault j types = InList (codes "MappingFragment") (IsSharedFault types.picks) types.fragments

  -- V27 and V28 of a set's mapping
  abbrev pub IsTypeNameFault : ℕ → RawSetMapping → Fault → Type 0
  IsTypeNameFault i set fault =
      MatchOption (set_named model set.name) ⊥
      (λ s. (entry : EntitySet) × At model.sets s entry × InList (codes "EntityTypeMapping") (IsPickedFault entry) set.types fault)
      ⊎ InList (codes "EntityTypeMapping") IsSharedTypesFault set.types fault

  -- V27 and V28
  abbrev pub BreaksTypeNameRules : RawMapping → Fault → Type 0
  BreaksTypeNameRules raw = InContainer (InList (codes "EntitySetMapping") IsTypeNameFault raw.sets)

  -- V40: the TypeName of an association's mapping names another association than that of its set
  abbrev pub IsOtherAssociation : ℕ → RawLinkMapping → Fault → Type 0
  IsOtherAssociation i link fault =
      MatchOption (association_set_named model link.name) ⊥ (λ a. ¬ IsOfAssociation model a link.association)
      × IsAt MappedAssociation (Member (codes "TypeName") ∷ []) fault
