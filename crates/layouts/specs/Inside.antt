-- Faults inside a node, seen from the node: behind the step to an item or to a member.
use Rattle.std.specs.Prelude.{◌≡◌, ℕ, List, [], ◌∷◌, String, string_bytes}
use Rattle.std.specs.declared.alloc.Global.{Global}
use Rattle.serde_json.specs.declared.value.Value.{Value}
use Rattle.serde_json.specs.Data.{Data}
use Rattle.serde_json.specs.View.{view}
use Rattle.json_form.specs.declared.pointer.Step.{Step}
use Rattle.json_form.specs.declared.pointer.Step.TheVariants.{Member, Item}
use Rattle.layouts.specs.declared.fault.Fault.{Fault}
use Rattle.layouts.specs.declared.form.Form.{Form}
use Rattle.layouts.specs.declared.form.Shape.{Shape}
use Rattle.layouts.specs.declared.rule.Rule.TheVariants.{HasMembers}
use Rattle.layouts.specs.Layouts.{entry_of}
use Rattle.layouts.specs.Forms.{Breaks, BreaksMember, IsFaultOf, Lacks}

-- the fault, seen from the node that the step leads from
abbrev pub after : Step → Fault → Fault
after step fault = record { rule = fault.rule; place = step ∷ fault.place }

-- a fault behind the step; seen from there, P holds of it
pub record Under (step : Step) (P : Fault → Type 0) (fault : Fault) : Type 0 where
  pub rest : List Step
  pub reached : fault.place ≡ step ∷ rest
  pub holds : P (record { rule = fault.rule; place = rest })

-- a fault inside an item of an array whose items have this form
abbrev pub IsItemFault : Form → ℕ → Data → Fault → Type 0
IsItemFault form i d = Under (Item i) (IsFaultOf form d)

-- a fault of the member that is there, seen from it
abbrev pub IsPartFault : Shape → List ℕ → Data → Fault → Type 0
IsPartFault shape name e fault = BreaksMember (λ form inside. Breaks fault.rule form inside fault.place) fault.rule fault.place (entry_of shape name) e

-- a fault at a member that an object of this shape has, or inside it
abbrev pub IsMemberFault : Shape → List ℕ → Data → Fault → Type 0
IsMemberFault shape name e = Under (Member name) (IsPartFault shape name e)

-- the same of a member as an entry of the map, at whatever place it stands there
abbrev pub IsEntryFault : Shape → ℕ → String Global × Value → Fault → Type 0
IsEntryFault shape i entry = IsMemberFault shape (string_bytes entry.0) (view entry.1)

-- the object lacks a member of this name
pub record IsLackFault (shape : Shape) (d : Data) (name : List ℕ) (fault : Fault) : Type 0 where
  pub rule : fault.rule ≡ HasMembers
  pub place : fault.place ≡ Member name ∷ []
  pub lacks : Lacks shape d name
