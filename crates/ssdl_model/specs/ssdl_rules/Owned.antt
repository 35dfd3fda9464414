-- V6 and V7 in SSDL, as far as they speak of tables: no type is that of two tables, and the type of each end is that of a table.
-- Source: SSDL version 3, EntitySet, Association and End.
use Rattle.std.specs.Prelude.{◌≡◌, ℕ, ◌<◌, [], ◌∷◌, None, MatchOption, codes}
use Rattle.json_form.specs.declared.pointer.Step.TheVariants.{Member}
use Rattle.layouts.specs.declared.fault.Fault.{Fault}
use Rattle.layouts.specs.declared.rule.Rule.TheVariants.{NamedOnce, Resolves}
use Rattle.layouts.specs.Inside.{Under}
use Rattle.layouts.specs.rule_places.Places.{IsAt, InList}
use Rattle.csdl_names.specs.declared.csdl_lists.raw.RawAssociation.{RawAssociation}
use Rattle.csdl_names.specs.declared.csdl_lists.raw.RawEnd.{RawEnd}
use Rattle.csdl_names.specs.declared.csdl_lists.raw.RawModel.{RawModel}
use Rattle.csdl_names.specs.declared.csdl_lists.raw.RawSet.{RawSet}
use Rattle.csdl_names.specs.csdl_lists.References.{Names, names_in}
use Rattle.ssdl_model.specs.ssdl_lists.Tables.{table_of}

module _ (names : Names) (model : RawModel) where
  -- the type of a table is that of a table before it
  abbrev pub HasTypeOfOther : ℕ → RawSet → Type 0
  HasTypeOfOther i set = MatchOption (names.type_named set.element) ⊥ (λ type. MatchOption (table_of names model type) ⊥ (λ first. first < i))

  -- V6, seen from the table
  abbrev pub IsSharedFault : ℕ → RawSet → Fault → Type 0
  IsSharedFault i set fault = HasTypeOfOther i set × IsAt NamedOnce (Member (codes "EntityType") ∷ []) fault

  -- the type of an end is the type of no table
  abbrev pub IsOfNoTable : RawEnd → Type 0
  IsOfNoTable end = MatchOption (names.type_named end.ty) ⊥ (λ type. table_of names model type ≡ None)

  -- V7, seen from the end
  abbrev pub IsEndlessFault : ℕ → RawEnd → Fault → Type 0
  IsEndlessFault k end fault = IsOfNoTable end × IsAt Resolves (Member (codes "Type") ∷ []) fault

  -- V7, seen from the association
  abbrev pub HasEndlessFault : ℕ → RawAssociation → Fault → Type 0
  HasEndlessFault a association = InList (codes "End") IsEndlessFault association.ends

-- V6: two tables have one type
abbrev pub IsShared : RawModel → Fault → Type 0
IsShared model = Under (Member (codes "EntityContainer")) (InList (codes "EntitySet") (IsSharedFault (names_in model) model) model.container.sets)

-- V7: an end leads to no table
abbrev pub IsEndless : RawModel → Fault → Type 0
IsEndless model = InList (codes "Association") (HasEndlessFault (names_in model) model) model.associations
