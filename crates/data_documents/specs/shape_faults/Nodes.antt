-- Where something is wrong in a node: at the node itself, behind the step to one of its parts, or where a member of it is missing.
-- Source: RFC 8259.
use Rattle.std.specs.Prelude.{◌≡◌, ◌⊎◌, ℕ, List, [], ◌∷◌, IsSome, None}
use Rattle.serde_json.specs.Data.{Data}
use Rattle.serde_json.specs.Find.{as_array, as_object, get}
use Rattle.json_form.specs.TreeParts.{items_in, members_in}
use Rattle.groupings.specs.least_fault.Least.{Among}
use Rattle.data_documents.specs.declared.shape_faults.place.ShapeStep.{ShapeStep}
use Rattle.data_documents.specs.declared.shape_faults.place.ShapeStep.TheVariants.{Member, Item, Missing}

-- a place behind the step; P holds of it as it is seen from there
pub record Behind (step : ShapeStep) (P : List ShapeStep → Type 0) (place : List ShapeStep) : Type 0 where
  pub rest : List ShapeStep
  pub reached : place ≡ step ∷ rest
  pub holds : P rest

-- P says what is wrong with the item of an array, seen from the item; the same of any item, seen from the array
abbrev pub InItems : (Data → List ShapeStep → Type 0) → List Data → List ShapeStep → Type 0
InItems P = Among (λ i item. Behind (Item i) (P item))

-- P says what is wrong with the member of an object, seen from the member; the same of any member, seen from the object
abbrev pub InMembers : (List ℕ → Data → List ShapeStep → Type 0) → List (List ℕ × Data) → List ShapeStep → Type 0
InMembers P = Among (λ i member. Behind (Member member.0) (P member.0 member.1))

-- the node is no array, or something is wrong with one of its items
abbrev pub IsArrayFault : (Data → List ShapeStep → Type 0) → Data → List ShapeStep → Type 0
IsArrayFault P d place = (¬ IsSome (as_array d) × (place ≡ [])) ⊎ InItems P (items_in d) place

-- the node is no object, or something is wrong with one of the members that it has
abbrev pub IsObjectFault : (List ℕ → Data → List ShapeStep → Type 0) → Data → List ShapeStep → Type 0
IsObjectFault P d place = (¬ IsSome (as_object d) × (place ≡ [])) ⊎ InMembers P (members_in d) place

-- the node is an object without a member of this name; its rank is that of the name among those that there should be
pub record IsLack (rank : ℕ) (name : List ℕ) (d : Data) (place : List ShapeStep) : Type 0 where
  pub object : IsSome (as_object d)
  pub absent : get name d ≡ None
  pub here : place ≡ Missing rank name ∷ []
