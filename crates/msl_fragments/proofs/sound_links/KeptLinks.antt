-- What the rules give of the mapping of an association set, where they are kept.
use Rattle.std.proofs.Common.{◌≡◌, ◌≢◌, inl, inr, ℕ, List, [], ◌∷◌, AllPairs, Option, Some, None, MatchOption, IsSome, codes, refl, sym, subst}
use Rattle.emc_base.specs.Lists.{At}
use Rattle.json_form.specs.declared.pointer.Step.{Step}
use Rattle.json_form.specs.declared.pointer.Step.TheVariants.{Item, Member}
use Rattle.json_form.specs.Pointers.{pointer_of}
use Rattle.layouts.specs.declared.fault.Fault.{Fault}
use Rattle.layouts.specs.declared.rule.Rule.{Rule}
use Rattle.layouts.specs.declared.rule.Rule.TheVariants as rule
use Rattle.round_trip.specs.Words.{Assoc, End, EntityModel, IsIndependent, LinkFragment, Schema, StoreModel}
use Rattle.round_trip.specs.soundness.mappings.Owners.{IsPlaced}
use Rattle.layouts.specs.rule_places.Places.{InList}
use Rattle.groupings.proofs.name_places.FirstPlaces.{names_apart}
use Rattle.layouts.specs.rule_places.Names.{IsRepeatedIn}
use Rattle.layouts.proofs.rule_places.FaultPlaces.{fault_at, in_list, repeated_in}
use Rattle.msl_rules.specs.declared.msl_lists.raw.RawCond.{RawCond}
use Rattle.msl_rules.specs.declared.msl_lists.raw.RawEndMapping.{RawEndMapping}
use Rattle.msl_rules.specs.declared.msl_lists.raw.RawMapping.{RawMapping}
use Rattle.msl_rules.specs.Found.{role_end}
use Rattle.msl_rules.specs.FragmentRules.{IsCondFault}
use Rattle.msl_rules.specs.KeepsMapping.{KeepsMappingRules}
use Rattle.msl_rules.specs.LinkRules.{BreaksEndRules, BreaksLinkRules, BreaksTableRules, IsEndFault, IsLinkCondFault, IsLinkFault}
use Rattle.msl_rules.specs.MappingMeaning.{link_with, schema_in}
use Rattle.msl_rules.specs.NameRules.{InContainer, IsMappedTwice, IsUnresolvedEnd, IsUnresolvedLink}
use Rattle.msl_rules.specs.Sites.{link_place}
use Rattle.msl_fragments.proofs.sound_links.MeantLinks.{IsMeantLink, meant_by}
use Rattle.msl_fragments.proofs.sound_links.Placed.{placed_elsewhere, placed_stable}

-- a constraint that isn't there
none_of : {X : Type 0} (found : Option X) → ¬ IsSome found → found ≡ None
none_of None never = refl
none_of (Some x) never = absurd (never refl)

-- what is wrong in the container, seen from the root
from_root : {P : Fault → Type 0} (rule : Rule) (place : List Step) → P (fault_at rule place) → InContainer P (fault_at rule (Member (codes "EntityContainerMapping") ∷ place))
from_root rule place holds = record { rest = place; reached = refl; holds = holds }

-- a place in the mapping of an association set at a place, seen from the container; the name of the end at a place, seen from such a mapping
abbrev in_link : ℕ → List Step → List Step
in_link i place = Member (codes "AssociationSetMapping") ∷ Item i ∷ place

abbrev end_name : ℕ → List Step
end_name e = Member (codes "EndProperty") ∷ Item e ∷ Member (codes "Name") ∷ []

module _ (model : EntityModel) (store : StoreModel) (raw : RawMapping) (keeps : KeepsMappingRules model store raw) where
  abbrev schema : Schema
  schema = schema_in model store raw

  -- V6: seen from the container, nothing is mapped twice
  none_twice : (rule : Rule) (place : List Step) → ¬ IsMappedTwice raw (fault_at rule (Member (codes "EntityContainerMapping") ∷ place))
  none_twice rule place twice = keeps.keeps (fault_at rule (Member (codes "EntityContainerMapping") ∷ place)) (inl twice)

  -- no association set is mapped twice
  pub links_apart : AllPairs (λ one other. one.name ≢ other.name) raw.links
  links_apart = names_apart (λ link. link.name) raw.links (λ i link here given.
      none_twice rule.NamedOnce (in_link i (Member (codes "Name") ∷ [])) (from_root rule.NamedOnce (in_link i (Member (codes "Name") ∷ []))
      (inr (inl (repeated_in (λ link. link.name) [] (codes "AssociationSetMapping") (codes "Name") raw.links i link here (inr given))))))

  module _ (it : IsMeantLink model store raw) where
    -- no role is named twice
    pub roles_apart : AllPairs (λ one other. one.role ≢ other.role) it.link.ends
    roles_apart = names_apart (λ end. end.role) it.link.ends (λ e end here given.
        none_twice rule.NamedOnce (in_link it.place (end_name e)) (from_root rule.NamedOnce (in_link it.place (end_name e))
        (inr (inr (in_list (λ i link. IsRepeatedIn (λ end. end.role) [] (codes "EndProperty") (codes "Name") link.ends)
        (codes "AssociationSetMapping") raw.links it.place it.link rule.NamedOnce (end_name e) it.here
        (repeated_in (λ end. end.role) [] (codes "EndProperty") (codes "Name") it.link.ends e end here (inr given)))))))

    -- V7: seen from the mapping, all names are found
    none_unresolved : (rule : Rule) (place : List Step) → ¬ IsUnresolvedLink model store it.place it.link (fault_at rule place)
    none_unresolved rule place broken = keeps.keeps (fault_at rule (Member (codes "EntityContainerMapping") ∷ in_link it.place place))
        (inr (inl (from_root rule (in_link it.place place)
        (inr (in_list (IsUnresolvedLink model store) (codes "AssociationSetMapping") raw.links it.place it.link rule place it.here broken)))))

    -- each role is one of the association
    pub role_found : (e : ℕ) (end : RawEndMapping) → At it.link.ends e end → role_end it.assoc end.role ≢ None
    role_found e end here none =
        let Lacks : ℕ → Type 0 = λ a. (assoc : Assoc) × At model.assocs a assoc
        × InList (codes "EndProperty") (IsUnresolvedEnd model store assoc) it.link.ends (fault_at rule.Resolves (end_name e)) in
        let P : Option ℕ → Type 0 = λ found. MatchOption found ⊥ Lacks in
        let lacks : Lacks it.set = (
          it.assoc,
          it.is_assoc,
          in_list (IsUnresolvedEnd model store it.assoc) (codes "EndProperty") it.link.ends e end
              rule.Resolves (Member (codes "Name") ∷ []) here (inl (none, (refl, refl))),
        ) in
        none_unresolved rule.Resolves (end_name e) (inr (inr (inr (inl (subst P (sym it.is_set) lacks)))))

    -- seen from the mapping, none of the other rules is broken
    none_of_link : (fault : Fault) → ¬ BreaksLinkRules schema it.link it.set it.assoc fault
    none_of_link fault broken =
        let P : Option ℕ → Type 0 = λ found. MatchOption found ⊥ (λ a. (assoc : Assoc) × At model.assocs a assoc × BreaksLinkRules schema it.link a assoc fault) in
        keeps.keeps (fault_at fault.rule (Member (codes "EntityContainerMapping") ∷ in_link it.place fault.place))
        (inr (inr (inr (inr (inr (inl (from_root fault.rule (in_link it.place fault.place)
        (in_list (IsLinkFault schema) (codes "AssociationSetMapping") raw.links it.place it.link fault.rule fault.place it.here
        (inl (subst P (sym it.is_set) (it.assoc, it.is_assoc, broken)))))))))))

    none_of_table : (fault : Fault) → ¬ BreaksTableRules schema it.link it.set it.assoc it.table fault
    none_of_table fault broken =
        let P : Option ℕ → Type 0 = λ found. MatchOption found ⊥ (λ t. BreaksTableRules schema it.link it.set it.assoc t fault) in
        none_of_link fault (inl (subst P (sym it.is_table) broken))

    -- V37
    pub independent : IsIndependent it.assoc
    independent = none_of it.assoc.constraint (λ constrained. none_of_link (fault_at rule.ConstraintMapping (Member (codes "Name") ∷ [])) (inr (constrained, (refl, refl))))

    -- V36
    pub placed : IsPlaced schema (meant_by model store raw it) it.assoc
    placed =
        let nowhere : LinkFragment = link_with model store [] it.link it.set it.assoc it.table in
        placed_elsewhere schema it.assoc nowhere (pointer_of (link_place it.place)) (placed_stable schema nowhere it.assoc (λ unplaced.
        none_of_table (fault_at rule.LinkPlace []) (inr (inr (unplaced, (refl, refl))))))

    -- no end breaks a rule
    pub none_of_end : (e : ℕ) (end : RawEndMapping) (known : End) → At it.link.ends e end → role_end it.assoc end.role ≡ Some known
        → (fault : Fault) → ¬ BreaksEndRules schema it.link.ends it.table e end known fault
    none_of_end e end known here is fault broken =
        let P : Option End → Type 0 = λ found. MatchOption found ⊥ (λ known. BreaksEndRules schema it.link.ends it.table e end known fault) in
        none_of_table (fault_at fault.rule (Member (codes "EndProperty") ∷ Item e ∷ fault.place))
        (inl (in_list (IsEndFault schema it.link.ends it.assoc it.table) (codes "EndProperty") it.link.ends e end fault.rule fault.place here (subst P (sym is) broken)))

    -- no condition does
    pub none_of_cond : (k : ℕ) (cond : RawCond) → At it.link.conds k cond → (fault : Fault) → ¬ IsCondFault schema (λ name. None) it.table [] k cond fault
    none_of_cond k cond here fault broken =
        none_of_table (fault_at fault.rule (Member (codes "Condition") ∷ Item k ∷ fault.place))
        (inr (inl (in_list (IsLinkCondFault schema it.table) (codes "Condition") it.link.conds k cond fault.rule fault.place here (inl broken))))
