-- Which rules a layout tells: the second to the fifth.
use Rattle.std.proofs.Common.{◌≡◌, ⊎_elim, ℕ, ◌≤◌, List, [], ◌∷◌, Option, Some, None, sym, ap, subst, arith}
use Rattle.serde_json.specs.Data.{Data}
use Rattle.json_form.specs.declared.pointer.Step.{Step}
use Rattle.json_form.specs.declared.pointer.Step.TheVariants.{Member, Item}
use Rattle.layouts.specs.declared.fault.Fault.{Fault}
use Rattle.layouts.specs.declared.form.Entry.{Entry}
use Rattle.layouts.specs.declared.form.Entry.TheVariants.{Required, Optional, LeftOut}
use Rattle.layouts.specs.declared.form.Form.{Form}
use Rattle.layouts.specs.declared.form.Form.TheVariants.{One, Object, Array, Pair, List as ListOf}
use Rattle.layouts.specs.declared.rule.Rule.{Rule}
use Rattle.layouts.specs.declared.rule.Rule.TheVariants.{HasForm, HasMembers, IsKnown, IsSupported}
use Rattle.layouts.specs.Forms.{Breaks, BreaksMember, Fits, IsFaultOf, IsSetFlag}
use Rattle.layouts.specs.Layouts.{entry_of}
use Rattle.layouts.specs.Rules.{rule_number}

-- a rule that is one of them
early : (rule known : Rule) → rule_number known ≤ 5 → rule ≡ known → rule_number rule ≤ 5
early rule known few is = subst (λ (number : ℕ). number ≤ 5) (sym (ap rule_number is)) few

-- of a member, where that is so inside it
member_few : (rule : Rule) (place : List Step) (part : Data) → ((form : Form) (e : Data) → Breaks rule form e place → rule_number rule ≤ 5)
    → (entry : Option Entry) → BreaksMember (λ form inside. Breaks rule form inside place) rule place entry part → rule_number rule ≤ 5
member_few rule place part inside (Some (Required form)) is = inside form part is
member_few rule place part inside (Some (Optional form)) is = inside form part is
member_few rule place part inside (Some LeftOut) is = early rule IsSupported (omega arith) is.0
member_few rule place part inside None is = early rule IsKnown (omega arith) is.0

few_rules : (place : List Step) (rule : Rule) (form : Form) (d : Data) → Breaks rule form d place → rule_number rule ≤ 5
few_rules [] rule form d is = ⊎_elim (λ (e : (rule ≡ HasForm) × ¬ Fits form d). early rule HasForm (omega arith) e.0) (λ (e : (rule ≡ IsSupported) × IsSetFlag form d). early rule IsSupported (omega arith) e.0) is
few_rules (Member name ∷ place) rule (Object shape) d is = ⊎_elim
    (λ lacks. early rule HasMembers (omega arith) lacks.0)
    (λ inside. member_few rule place inside.0 (λ form e. few_rules place rule form e) (entry_of shape name) inside.2)
    is
few_rules (Item i ∷ place) rule (Array shape) d is = few_rules place rule (Object shape) is.0 is.2
few_rules (Item i ∷ place) rule (Pair shape) d is = few_rules place rule (Object shape) is.1 is.3
few_rules (Item i ∷ place) rule (ListOf leaf) d is = few_rules place rule (One leaf) is.0 is.2
few_rules (Member name ∷ place) rule (One leaf) d is = absurd is
few_rules (Item i ∷ place) rule (One leaf) d is = absurd is
few_rules (Item i ∷ place) rule (Object shape) d is = absurd is
few_rules (Member name ∷ place) rule (Array shape) d is = absurd is
few_rules (Member name ∷ place) rule (Pair shape) d is = absurd is
few_rules (Member name ∷ place) rule (ListOf leaf) d is = absurd is

-- a fault against a layout is one of these
pub layout_rules : (form : Form) (d : Data) (fault : Fault) → IsFaultOf form d fault → rule_number fault.rule ≤ 5
layout_rules form d fault is = few_rules fault.place fault.rule form d is
