-- What a node has to be, and which rule a document breaks at which place against its layout.
-- Source: CSDL, SSDL and MSL version 3 as JSON, in the profile of this project.
use Rattle.std.specs.Prelude.{◌≡◌, ◌⊎◌, ℕ, List, [], ◌∷◌, length, Option, Some, None, IsSome, IsSomeAnd, codes, ⊤, true}
use Rattle.serde_json.specs.Data.{Data}
use Rattle.serde_json.specs.Find.{as_array, as_bool, as_object, as_str}
use Rattle.json_form.specs.declared.pointer.Step.{Step}
use Rattle.json_form.specs.declared.pointer.Step.TheVariants.{Member, Item}
use Rattle.json_form.specs.Members.{HasMember}
use Rattle.json_form.specs.TreeParts.{items_in, whole_of}
use Rattle.edm_types.specs.Names.{IsName, IsNamespace, IsPlainName}
use Rattle.emc_base.specs.Lists.{At}
use Rattle.layouts.specs.declared.fault.Fault.{Fault}
use Rattle.layouts.specs.declared.form.Leaf.{Leaf}
use Rattle.layouts.specs.declared.form.Leaf.TheVariants as leaf
use Rattle.layouts.specs.declared.form.Shape.{Shape}
use Rattle.layouts.specs.declared.form.Form.{Form}
use Rattle.layouts.specs.declared.form.Form.TheVariants.{One, Object, Array, Pair, List as ListOf}
use Rattle.layouts.specs.declared.form.Entry.{Entry}
use Rattle.layouts.specs.declared.form.Entry.TheVariants.{Required, Optional, LeftOut}
use Rattle.layouts.specs.declared.rule.Rule.{Rule}
use Rattle.layouts.specs.declared.rule.Rule.TheVariants.{HasForm, HasMembers, IsKnown, IsSupported}
use Rattle.layouts.specs.Layouts.{entry_of}

-- the node is what the leaf says
abbrev pub IsLeaf : Leaf → Data → Type 0
IsLeaf leaf.Any d = ⊤
IsLeaf leaf.Text d = IsSome (as_str d)
IsLeaf leaf.Name d = IsSomeAnd (as_str d) IsName
IsLeaf leaf.PlainName d = IsSomeAnd (as_str d) IsPlainName
IsLeaf leaf.Namespace d = IsSomeAnd (as_str d) IsNamespace
IsLeaf leaf.Flag d = IsSome (as_bool d)
IsLeaf leaf.UnsetFlag d = IsSome (as_bool d)
IsLeaf leaf.Number d = IsSome (whole_of d)
IsLeaf leaf.NumberOrMax d = IsSome (whole_of d) ⊎ (as_str d ≡ Some (codes "Max"))
IsLeaf leaf.Multiplicity d = (as_str d ≡ Some (codes "1")) ⊎ (as_str d ≡ Some (codes "0..1")) ⊎ (as_str d ≡ Some (codes "*"))

-- the node is an object or an array as the form says; what stands in it isn't looked at
abbrev pub Fits : Form → Data → Type 0
Fits (One leaf) d = IsLeaf leaf d
Fits (Object shape) d = IsSome (as_object d)
Fits (Array shape) d = IsSome (as_array d)
Fits (Pair shape) d = IsSome (as_array d) × (length (items_in d) ≡ 2)
Fits (ListOf leaf) d = IsSome (as_array d)

-- true stands where it is left out
abbrev pub IsSetFlag : Form → Data → Type 0
IsSetFlag (One kind) d = (kind ≡ leaf.UnsetFlag) × (as_bool d ≡ Some true)
IsSetFlag (Object shape) d = ⊥
IsSetFlag (Array shape) d = ⊥
IsSetFlag (Pair shape) d = ⊥
IsSetFlag (ListOf leaf) d = ⊥

-- a member of this name has to be there
abbrev pub IsRequired : Shape → List ℕ → Type 0
IsRequired shape name = (form : Form) × (entry_of shape name ≡ Some (Required form))

-- the object lacks a member of this name, which has to be there
pub record Lacks (shape : Shape) (d : Data) (name : List ℕ) : Type 0 where
  pub required : IsRequired shape name
  pub object : IsSome (as_object d)
  pub absent : (part : Data) → ¬ HasMember d name part

-- Of a member of which a layout says this, the rule is broken at the place inside it. Inside says what is broken inside a node of a form.
abbrev pub BreaksMember : (Form → Data → Type 0) → Rule → List Step → Option Entry → Data → Type 0
BreaksMember Inside rule place (Some (Required form)) e = Inside form e
BreaksMember Inside rule place (Some (Optional form)) e = Inside form e
BreaksMember Inside rule place (Some LeftOut) e = (rule ≡ IsSupported) × (place ≡ [])
BreaksMember Inside rule place None e = (rule ≡ IsKnown) × (place ≡ [])

-- the node breaks the rule at the place, by what its layout says
abbrev pub Breaks : Rule → Form → Data → List Step → Type 0
Breaks rule form d [] = ((rule ≡ HasForm) × ¬ Fits form d) ⊎ ((rule ≡ IsSupported) × IsSetFlag form d)
Breaks rule (Object shape) d (Member name ∷ place) =
    ((rule ≡ HasMembers) × (place ≡ []) × Lacks shape d name)
    ⊎ ((part : Data) × HasMember d name part × BreaksMember (λ form inside. Breaks rule form inside place) rule place (entry_of shape name) part)
Breaks rule (Array shape) d (Item i ∷ place) = (part : Data) × At (items_in d) i part × Breaks rule (Object shape) part place
Breaks rule (Pair shape) d (Item i ∷ place) = Fits (Pair shape) d × (part : Data) × At (items_in d) i part × Breaks rule (Object shape) part place
Breaks rule (ListOf leaf) d (Item i ∷ place) = (part : Data) × At (items_in d) i part × Breaks rule (One leaf) part place
Breaks rule (One leaf) d (Member name ∷ place) = ⊥
Breaks rule (One leaf) d (Item i ∷ place) = ⊥
Breaks rule (Object shape) d (Item i ∷ place) = ⊥
Breaks rule (Array shape) d (Member name ∷ place) = ⊥
Breaks rule (Pair shape) d (Member name ∷ place) = ⊥
Breaks rule (ListOf leaf) d (Member name ∷ place) = ⊥

-- the same of a fault
abbrev pub IsFaultOf : Form → Data → Fault → Type 0
IsFaultOf form d fault = Breaks fault.rule form d fault.place
