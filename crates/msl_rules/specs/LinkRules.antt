-- V29, V30 and V33 to V39 of the mappings of associations: where links stand, what each end writes, and the conditions.
-- Source: MSL version 3, AssociationSetMapping, EndProperty and Condition. Where links may stand is the profile's choice.
use Rattle.std.specs.Prelude.{◌⊎◌, ℕ, ◌<◌, List, [], ◌∷◌, map, codes, All, Contains, None, MatchOption, IsSome}
use Rattle.emc_base.specs.Lists.{At}
use Rattle.json_form.specs.declared.pointer.Step.TheVariants.{Member}
use Rattle.layouts.specs.declared.fault.Fault.{Fault}
use Rattle.layouts.specs.declared.rule.Rule.TheVariants as rule
use Rattle.layouts.specs.rule_places.Places.{IsAt, InList}
use Rattle.round_trip.specs.Words.{PropId, Assoc, End, Pair, Schema, key_props}
use Rattle.round_trip.specs.soundness.mappings.Owners.{IsPlaced}
use Rattle.schema_names.specs.SchemaNames.{association_set_named, table_named, prop_named}
use Rattle.msl_rules.specs.declared.msl_lists.raw.RawPair.{RawPair}
use Rattle.msl_rules.specs.declared.msl_lists.raw.RawCond.{RawCond}
use Rattle.msl_rules.specs.declared.msl_lists.raw.RawEndMapping.{RawEndMapping}
use Rattle.msl_rules.specs.declared.msl_lists.raw.RawLinkMapping.{RawLinkMapping}
use Rattle.msl_rules.specs.declared.msl_lists.raw.RawMapping.{RawMapping}
use Rattle.msl_rules.specs.Found.{role_end, pairs_in}
use Rattle.msl_rules.specs.MappingMeaning.{link_with}
use Rattle.msl_rules.specs.NameRules.{InContainer, IsOtherAssociation}
use Rattle.msl_rules.specs.FragmentRules.{IsUnfitFault, IsCondFault, IsWrittenBefore}

-- V39: a pair at this end writes a property or a column that stands before it in the list, or a column of an end before
pub record IsWrittenAtEarlierEnd (ends : List RawEndMapping) (e : ℕ) (pair : RawPair) : Type 0 where
  pub i : ℕ
  pub other : RawEndMapping
  pub before : i < e
  pub here : At ends i other
  pub same : Contains (map (λ written. written.col) other.pairs) pair.col

abbrev pub IsWrittenAgain : List RawEndMapping → ℕ → RawEndMapping → ℕ → RawPair → Type 0
IsWrittenAgain ends e end k pair = IsWrittenBefore end.pairs k pair ⊎ IsWrittenAtEarlierEnd ends e pair

-- V30 of an end: each property of the key is written, and no other
pub record WritesJust (key : List PropId) (pairs : List Pair) : Type 0 where
  pub all : All (Contains (map (λ pair. pair.prop) pairs)) key
  pub only : All (Contains key) (map (λ pair. pair.prop) pairs)

module _ (schema : Schema) where
  -- V30 of an end that stands for this end of the association, in the table at a place
  abbrev pub IsEndKeyUnwritten : ℕ → End → RawEndMapping → Type 0
  IsEndKeyUnwritten t known end =
      ¬ WritesJust (key_props schema.model known.ty) (pairs_in schema.model schema.store (prop_named schema.model known.ty.index) t end.pairs)

  -- V29, V30 and V39 of an end that stands for this end of the association
  abbrev pub BreaksEndRules : List RawEndMapping → ℕ → ℕ → RawEndMapping → End → Fault → Type 0
  BreaksEndRules ends t e end known fault =
      InList (codes "ScalarProperty") (IsUnfitFault schema (prop_named schema.model known.ty.index) t) end.pairs fault
      ⊎ (IsEndKeyUnwritten t known end × IsAt rule.WritesKey [] fault)
      ⊎ InList (codes "ScalarProperty") (λ k pair inside. IsWrittenAgain ends e end k pair × IsAt rule.WrittenOnce [] inside) end.pairs fault

  -- of an end, where its role is found
  abbrev pub IsEndFault : List RawEndMapping → Assoc → ℕ → ℕ → RawEndMapping → Fault → Type 0
  IsEndFault ends assoc t e end fault = MatchOption (role_end assoc end.role) ⊥ (λ known. BreaksEndRules ends t e end known fault)

  -- V33 to V35 and V38 of a condition, which may name no property
  abbrev pub IsLinkCondFault : ℕ → ℕ → RawCond → Fault → Type 0
  IsLinkCondFault t k cond fault =
      IsCondFault schema (λ name. None) t [] k cond fault
      ⊎ (IsSome cond.prop × IsAt rule.ConditionForm [] fault)

  -- V36: the links are neither hosted nor joined
  abbrev pub IsUnplaced : RawLinkMapping → ℕ → Assoc → ℕ → Type 0
  IsUnplaced link a assoc t = ¬ IsPlaced schema (link_with schema.model schema.store [] link a assoc t) assoc

  -- all these rules of a mapping of this association set to the table at a place
  abbrev pub BreaksTableRules : RawLinkMapping → ℕ → Assoc → ℕ → Fault → Type 0
  BreaksTableRules link a assoc t fault =
      InList (codes "EndProperty") (IsEndFault link.ends assoc t) link.ends fault
      ⊎ InList (codes "Condition") (IsLinkCondFault t) link.conds fault
      ⊎ (IsUnplaced link a assoc t × IsAt rule.LinkPlace [] fault)

  -- of a mapping of this association set. V37: an association with a constraint has no mapping.
  abbrev pub BreaksLinkRules : RawLinkMapping → ℕ → Assoc → Fault → Type 0
  BreaksLinkRules link a assoc fault =
      MatchOption (table_named schema.store link.table) ⊥ (λ t. BreaksTableRules link a assoc t fault)
      ⊎ (IsSome assoc.constraint × IsAt rule.ConstraintMapping (Member (codes "Name") ∷ []) fault)

  -- of a mapping of an association set, where the set is found
  abbrev pub IsLinkFault : ℕ → RawLinkMapping → Fault → Type 0
  IsLinkFault i link fault =
      MatchOption (association_set_named schema.model link.name) ⊥ (λ a. (assoc : Assoc) × At schema.model.assocs a assoc × BreaksLinkRules link a assoc fault)
      ⊎ IsOtherAssociation schema.model i link fault

  -- of all of them
  abbrev pub IsInLinks : RawMapping → Fault → Type 0
  IsInLinks raw = InContainer (InList (codes "AssociationSetMapping") IsLinkFault raw.links)
