-- The rules of each search have greater numbers than those of the search before it.
use Rattle.std.proofs.Common.{◌≡◌, ◌⊎◌, ⊎_elim, ◌<◌, ◌≤◌, ℕ, List, [], ◌∷◌, MatchOption, Option, None, ap, arith}
use Rattle.std.specs.Prelude.{codes}
use Rattle.json_form.specs.declared.pointer.Step.TheVariants.{Member}
use Rattle.emc_base.specs.Lists.{At}
use Rattle.layouts.specs.declared.fault.Fault.{Fault}
use Rattle.layouts.specs.declared.rule.Rule.{Rule}
use Rattle.layouts.specs.declared.rule.Rule.TheVariants as rule
use Rattle.layouts.specs.Rules.{rule_number}
use Rattle.layouts.specs.rule_places.Places.{InList, IsAt}
use Rattle.layouts.proofs.rule_places.Rules.{after_number, rule_behind, rule_inside, rule_where}
use Rattle.layouts.specs.rule_places.Names.{IsGivenAgain, IsRepeatedIn, NamesNothing}
use Rattle.round_trip.specs.Words.{PropId, EntityModel, StoreModel, EntitySet, Assoc, End, Schema}
use Rattle.schema_names.specs.SchemaNames.{set_named, association_set_named, table_named, column_named}
use Rattle.msl_rules.specs.declared.msl_lists.raw.RawPick.{RawPick}
use Rattle.msl_rules.specs.declared.msl_lists.raw.RawPair.{RawPair}
use Rattle.msl_rules.specs.declared.msl_lists.raw.RawCond.{RawCond}
use Rattle.msl_rules.specs.declared.msl_lists.raw.RawFragment.{RawFragment}
use Rattle.msl_rules.specs.declared.msl_lists.raw.RawTypeMapping.{RawTypeMapping}
use Rattle.msl_rules.specs.declared.msl_lists.raw.RawSetMapping.{RawSetMapping}
use Rattle.msl_rules.specs.declared.msl_lists.raw.RawEndMapping.{RawEndMapping}
use Rattle.msl_rules.specs.declared.msl_lists.raw.RawLinkMapping.{RawLinkMapping}
use Rattle.msl_rules.specs.declared.msl_lists.raw.RawMapping.{RawMapping}
use Rattle.msl_rules.specs.Found.{prop_of_picks, role_end}
use Rattle.msl_rules.specs.MappingMeaning.{schema_in}
use Rattle.msl_rules.specs.NameRules.{HasOtherContainer, IsMappedTwice, IsPickedFault, IsSharedFault, IsSharedTypesFault, IsTypeNameFault, IsUnresolvedEnd, IsUnresolvedFragment, IsUnresolvedLink, IsUnresolvedName, IsUnresolvedSet, IsUnresolvedTypes, IsUnsharedName, BreaksTypeNameRules, LacksColumn, LacksColumns, LacksCondColumn, LacksEndColumns, LacksProp}
use Rattle.msl_rules.specs.FragmentRules.{BreaksFragmentRules, IsCondFault, IsEnumFault, IsFragmentFault, IsInFragments, IsSetFault, IsTypesFault, IsUnfitFault, IsWrittenBefore}
use Rattle.msl_rules.specs.LinkRules.{BreaksEndRules, BreaksLinkRules, BreaksTableRules, IsEndFault, IsInLinks, IsLinkCondFault, IsLinkFault, IsWrittenAgain}
use Rattle.msl_rules.specs.MappingFaults.{BreaksMappingRules}

-- V6
abbrev IsOfTwice : Rule → Type 0
IsOfTwice r = r ≡ rule.NamedOnce

-- V7
abbrev IsOfNames : Rule → Type 0
IsOfNames r = r ≡ rule.Resolves

-- V27 and V28
abbrev IsOfPicks : Rule → Type 0
IsOfPicks r = (26 < rule_number r) × (rule_number r ≤ 28)

-- those after V28
abbrev IsOfWriting : Rule → Type 0
IsOfWriting r = 28 < rule_number r

-- a rule whose number is known
late : (known r : Rule) → r ≡ known → 28 < rule_number known → IsOfWriting r
late known r is = after_number 28 known r is

twice_in : {X : Type 0} (name_in : X → List ℕ) (member : List ℕ) (items : List X) (fault : Fault) → IsRepeatedIn name_in [] member (codes "Name") items fault → IsOfTwice fault.rule
twice_in {X} name_in member items =
    rule_inside IsOfTwice member (λ i item inside. IsGivenAgain name_in [] items i item × IsAt rule.NamedOnce (Member (codes "Name") ∷ []) inside) items (λ i item inside is. is.1.0)

-- what is mapped twice
pub twice_rule : (raw : RawMapping) (fault : Fault) → IsMappedTwice raw fault → fault.rule ≡ rule.NamedOnce
twice_rule raw = rule_behind IsOfTwice (Member (codes "EntityContainerMapping")) _ (λ inside. ⊎_elim
    (twice_in (λ (set : RawSetMapping). set.name) (codes "EntitySetMapping") raw.sets inside)
    (⊎_elim
    (twice_in (λ (link : RawLinkMapping). link.name) (codes "AssociationSetMapping") raw.links inside)
    (rule_inside IsOfTwice (codes "AssociationSetMapping") (λ i link. IsRepeatedIn (λ end. end.role) [] (codes "EndProperty") (codes "Name") link.ends) raw.links
    (λ i link. twice_in (λ (end : RawEndMapping). end.role) (codes "EndProperty") link.ends) inside)))

-- the name of a container
pub container_rule : (model : EntityModel) (store : StoreModel) (raw : RawMapping) (fault : Fault) → HasOtherContainer model store raw fault → fault.rule ≡ rule.ContainerName
container_rule model store raw = rule_behind (λ r. r ≡ rule.ContainerName) (Member (codes "EntityContainerMapping")) _ (λ inside. ⊎_elim (λ is. is.1.0) (λ is. is.1.0))

module _ (model : EntityModel) (store : StoreModel) where
  module _ (t : ℕ) where
    of_columns : (pairs : List RawPair) (fault : Fault) → InList (codes "ScalarProperty") (LacksColumn store t) pairs fault → IsOfNames fault.rule
    of_columns pairs = rule_inside IsOfNames (codes "ScalarProperty") (LacksColumn store t) pairs (λ k pair inside is. is.1.0)

    of_conds : (conds : List RawCond) (fault : Fault) → InList (codes "Condition") (LacksCondColumn store t) conds fault → IsOfNames fault.rule
    of_conds conds = rule_inside IsOfNames (codes "Condition") (LacksCondColumn store t) conds
        (λ k cond inside. rule_where IsOfNames (λ name fault. NamesNothing (column_named store t name) (codes "ColumnName") fault) cond.col inside (λ name is. is.1.0))

  of_fragment : (k : ℕ) (fragment : RawFragment) (fault : Fault) → IsUnresolvedFragment model store k fragment fault → IsOfNames fault.rule
  of_fragment k fragment fault = ⊎_elim (λ is. is.1.0)
      (rule_where IsOfNames (λ t inside. LacksColumns store t fragment.pairs fragment.conds inside) (table_named store fragment.table) fault
      (λ t. ⊎_elim (of_columns t fragment.pairs fault) (of_conds t fragment.conds fault)))

  of_types : (j : ℕ) (types : RawTypeMapping) (fault : Fault) → IsUnresolvedTypes model store j types fault → IsOfNames fault.rule
  of_types j types fault = ⊎_elim (λ is. is.1.0) (rule_inside IsOfNames (codes "MappingFragment") (IsUnresolvedFragment model store) types.fragments of_fragment fault)

  of_set : (i : ℕ) (set : RawSetMapping) (fault : Fault) → IsUnresolvedSet model store i set fault → IsOfNames fault.rule
  of_set i set fault = ⊎_elim (λ is. is.1.0) (rule_inside IsOfNames (codes "EntityTypeMapping") (IsUnresolvedTypes model store) set.types of_types fault)

  of_end : (assoc : Assoc) (e : ℕ) (end : RawEndMapping) (fault : Fault) → IsUnresolvedEnd model store assoc e end fault → IsOfNames fault.rule
  of_end assoc e end fault = ⊎_elim (λ is. is.1.0)
      (rule_where IsOfNames (λ known inside. InList (codes "ScalarProperty") (LacksProp model store known) end.pairs inside) (role_end assoc end.role) fault
      (λ known. rule_inside IsOfNames (codes "ScalarProperty") (LacksProp model store known) end.pairs (λ k pair inside is. is.1.0) fault))

  of_link : (i : ℕ) (link : RawLinkMapping) (fault : Fault) → IsUnresolvedLink model store i link fault → IsOfNames fault.rule
  of_link i link fault = ⊎_elim (λ is. is.1.0) (⊎_elim (λ is. is.1.0) (⊎_elim (λ is. is.1.0) (⊎_elim
      (rule_where IsOfNames (λ a inside. (assoc : Assoc) × At model.assocs a assoc × InList (codes "EndProperty") (IsUnresolvedEnd model store assoc) link.ends inside) (association_set_named model link.name) fault
      (λ a is. rule_inside IsOfNames (codes "EndProperty") (IsUnresolvedEnd model store is.0) link.ends (of_end is.0) fault is.2))
      (rule_where IsOfNames (λ t inside. InList (codes "EndProperty") (LacksEndColumns model store t) link.ends inside ⊎ InList (codes "Condition") (LacksCondColumn store t) link.conds inside) (table_named store link.table) fault
      (λ t. ⊎_elim
      (rule_inside IsOfNames (codes "EndProperty") (LacksEndColumns model store t) link.ends (λ e end. of_columns t end.pairs) fault)
      (of_conds t link.conds fault))))))

  -- a name that stands for nothing
  pub unresolved_rule : (raw : RawMapping) (fault : Fault) → IsUnresolvedName model store raw fault → fault.rule ≡ rule.Resolves
  unresolved_rule raw = rule_behind IsOfNames (Member (codes "EntityContainerMapping")) _ (λ inside. ⊎_elim
      (rule_inside IsOfNames (codes "EntitySetMapping") (IsUnresolvedSet model store) raw.sets of_set inside)
      (rule_inside IsOfNames (codes "AssociationSetMapping") (IsUnresolvedLink model store) raw.links of_link inside))

  of_unshared : (picks : List RawPick) (name : List ℕ) (fault : Fault) → IsUnsharedName model picks name fault → IsOfPicks fault.rule
  of_unshared picks name fault is = let number : rule_number fault.rule ≡ 28 = ap rule_number is.1.0 in (omega (arith, number), omega (arith, number))

  of_shared : (picks : List RawPick) (k : ℕ) (fragment : RawFragment) (fault : Fault) → IsSharedFault model picks k fragment fault → IsOfPicks fault.rule
  of_shared picks k fragment fault = ⊎_elim
      (rule_inside IsOfPicks (codes "ScalarProperty") (λ n pair. IsUnsharedName model picks pair.prop) fragment.pairs (λ n pair. of_unshared picks pair.prop) fault)
      (rule_inside IsOfPicks (codes "Condition") (λ n cond inside. MatchOption cond.prop ⊥ (λ name. IsUnsharedName model picks name inside)) fragment.conds
      (λ n cond inside. rule_where IsOfPicks (λ name deep. IsUnsharedName model picks name deep) cond.prop inside (λ name. of_unshared picks name inside)) fault)

  of_type_name : (i : ℕ) (set : RawSetMapping) (fault : Fault) → IsTypeNameFault model i set fault → IsOfPicks fault.rule
  of_type_name i set fault = ⊎_elim
      (rule_where IsOfPicks (λ s inside. (entry : EntitySet) × At model.sets s entry × InList (codes "EntityTypeMapping") (IsPickedFault model entry) set.types inside) (set_named model set.name) fault
      (λ s is. rule_inside IsOfPicks (codes "EntityTypeMapping") (IsPickedFault model is.0) set.types
      (λ j types inside holds. let number : rule_number inside.rule ≡ 27 = ap rule_number holds.1.0 in (omega (arith, number), omega (arith, number))) fault is.2))
      (rule_inside IsOfPicks (codes "EntityTypeMapping") (IsSharedTypesFault model) set.types
      (λ j types. rule_inside IsOfPicks (codes "MappingFragment") (IsSharedFault model types.picks) types.fragments (of_shared types.picks)) fault)

  -- the types of a TypeName, and the properties that they share
  pub picks_rule : (raw : RawMapping) (fault : Fault) → BreaksTypeNameRules model raw fault → (26 < rule_number fault.rule) × (rule_number fault.rule ≤ 28)
  picks_rule raw = rule_behind IsOfPicks (Member (codes "EntityContainerMapping")) _ (rule_inside IsOfPicks (codes "EntitySetMapping") (IsTypeNameFault model) raw.sets of_type_name)

module _ (schema : Schema) where
  module _ (named : List ℕ → Option PropId) (t : ℕ) where
    of_unfit : (pairs : List RawPair) (fault : Fault) → InList (codes "ScalarProperty") (IsUnfitFault schema named t) pairs fault → IsOfWriting fault.rule
    of_unfit pairs = rule_inside IsOfWriting (codes "ScalarProperty") (IsUnfitFault schema named t) pairs (λ k pair inside is. late rule.Corresponds inside.rule is.1.0 (omega arith))

    of_cond : (key : List PropId) (k : ℕ) (cond : RawCond) (fault : Fault) → IsCondFault schema named t key k cond fault → IsOfWriting fault.rule
    of_cond key k cond fault = ⊎_elim (λ is. late rule.ConditionForm fault.rule is.1.0 (omega arith))
        (⊎_elim (λ is. late rule.ConditionValue fault.rule is.1.0 (omega arith))
        (⊎_elim (λ is. late rule.KeyCondition fault.rule is.1.0 (omega arith)) (λ is. late rule.ForeignValue fault.rule is.1.0 (omega arith))))

  of_fragment_rules : (types : RawTypeMapping) (fragment : RawFragment) (s t : ℕ) (fault : Fault) → BreaksFragmentRules schema types fragment s t fault → IsOfWriting fault.rule
  of_fragment_rules types fragment s t fault =
      let named : List ℕ → Option PropId = prop_of_picks schema.model types.picks in
      ⊎_elim (of_unfit named t fragment.pairs fault)
      (⊎_elim (λ is. late rule.WritesKey fault.rule is.1.0 (omega arith))
      (⊎_elim (rule_inside IsOfWriting (codes "Condition") (IsCondFault schema named t _) fragment.conds (of_cond named t _) fault)
      (⊎_elim
      (rule_inside IsOfWriting (codes "ScalarProperty") (IsEnumFault schema named t) fragment.pairs (λ k pair inside is. late rule.ForeignValue inside.rule is.1.0 (omega arith)) fault)
      (rule_inside IsOfWriting (codes "ScalarProperty") (λ k pair inside. IsWrittenBefore fragment.pairs k pair × IsAt rule.WrittenOnce [] inside) fragment.pairs
      (λ k pair inside is. late rule.WrittenOnce inside.rule is.1.0 (omega arith)) fault))))

  of_fragments : (raw : RawMapping) (fault : Fault) → IsInFragments schema raw fault → IsOfWriting fault.rule
  of_fragments raw = rule_behind IsOfWriting (Member (codes "EntityContainerMapping")) _ (rule_inside IsOfWriting (codes "EntitySetMapping") (IsSetFault schema) raw.sets
      (λ i set inside. rule_where IsOfWriting (λ s deep. InList (codes "EntityTypeMapping") (IsTypesFault schema s) set.types deep) (set_named schema.model set.name) inside
      (λ s. rule_inside IsOfWriting (codes "EntityTypeMapping") (IsTypesFault schema s) set.types
      (λ j types. rule_inside IsOfWriting (codes "MappingFragment") (IsFragmentFault schema types s) types.fragments
      (λ k fragment deep. rule_where IsOfWriting (λ t deeper. BreaksFragmentRules schema types fragment s t deeper) (table_named schema.store fragment.table) deep
      (λ t. of_fragment_rules types fragment s t deep))) inside)))

  of_end_rules : (ends : List RawEndMapping) (t e : ℕ) (end : RawEndMapping) (known : End) (fault : Fault) → BreaksEndRules schema ends t e end known fault → IsOfWriting fault.rule
  of_end_rules ends t e end known fault = ⊎_elim (of_unfit _ t end.pairs fault)
      (⊎_elim (λ is. late rule.WritesKey fault.rule is.1.0 (omega arith))
      (rule_inside IsOfWriting (codes "ScalarProperty") (λ k pair inside. IsWrittenAgain ends e end k pair × IsAt rule.WrittenOnce [] inside) end.pairs
      (λ k pair inside is. late rule.WrittenOnce inside.rule is.1.0 (omega arith)) fault))

  of_table_rules : (link : RawLinkMapping) (a : ℕ) (assoc : Assoc) (t : ℕ) (fault : Fault) → BreaksTableRules schema link a assoc t fault → IsOfWriting fault.rule
  of_table_rules link a assoc t fault = ⊎_elim
      (rule_inside IsOfWriting (codes "EndProperty") (IsEndFault schema link.ends assoc t) link.ends
      (λ e end inside. rule_where IsOfWriting (λ known deep. BreaksEndRules schema link.ends t e end known deep) (role_end assoc end.role) inside
      (λ known. of_end_rules link.ends t e end known inside)) fault)
      (⊎_elim
      (rule_inside IsOfWriting (codes "Condition") (IsLinkCondFault schema t) link.conds
      (λ k cond inside. ⊎_elim (of_cond (λ name. None) t [] k cond inside) (λ is. late rule.ConditionForm inside.rule is.1.0 (omega arith))) fault)
      (λ is. late rule.LinkPlace fault.rule is.1.0 (omega arith)))

  of_link_rules : (i : ℕ) (link : RawLinkMapping) (fault : Fault) → IsLinkFault schema i link fault → IsOfWriting fault.rule
  of_link_rules i link fault = ⊎_elim
      (rule_where IsOfWriting (λ a inside. (assoc : Assoc) × At schema.model.assocs a assoc × BreaksLinkRules schema link a assoc inside) (association_set_named schema.model link.name) fault
      (λ a is. ⊎_elim
      (rule_where IsOfWriting (λ t inside. BreaksTableRules schema link a is.0 t inside) (table_named schema.store link.table) fault (λ t. of_table_rules link a is.0 t fault))
      (λ has. late rule.ConstraintMapping fault.rule has.1.0 (omega arith)) is.2))
      (λ is. late rule.MappedAssociation fault.rule is.1.0 (omega arith))

  of_links : (raw : RawMapping) (fault : Fault) → IsInLinks schema raw fault → IsOfWriting fault.rule
  of_links raw = rule_behind IsOfWriting (Member (codes "EntityContainerMapping")) _ (rule_inside IsOfWriting (codes "AssociationSetMapping") (IsLinkFault schema) raw.links of_link_rules)

-- what fragments and the mappings of associations write
pub writing_rule : (model : EntityModel) (store : StoreModel) (raw : RawMapping) (fault : Fault) → BreaksMappingRules model store raw fault → 28 < rule_number fault.rule
writing_rule model store raw fault = ⊎_elim (of_fragments (schema_in model store raw) raw fault)
    (⊎_elim (of_links (schema_in model store raw) raw fault)
    (⊎_elim (λ is. late rule.OnePairing fault.rule is.4.0 (omega arith)) (λ is. late rule.OneOwner fault.rule is.4.0 (omega arith))))
