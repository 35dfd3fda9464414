-- The mapping of an association has two ends, where a document keeps its layout.
use Rattle.std.proofs.Common.{◌≡◌, ⊎_elim, inl, inr, ℕ, ◌<◌, ◌≤◌, List, [], ◌∷◌, map, length, All, Option, Some, None, refl, sym, subst, codes, arith}
use Rattle.std.specs.Prelude.{unwrap_or}
use Rattle.std.specs.Option.{option_map_or}
use Rattle.std.proofs.lemmas.Bool.{cases_lt}
use Rattle.std.proofs.lemmas.List.Elements.{All-map, All-nil}
use Rattle.std.proofs.lemmas.List.{length-map}
use Rattle.std.proofs.lemmas.Option.{get_or_from_slice_get}
use Rattle.serde_json.specs.Data.{Data, null}
use Rattle.serde_json.specs.Find.{get}
use Rattle.emc_base.specs.Lists.{At}
use Rattle.emc_base.proofs.Lists.{item_at}
use Rattle.json_form.specs.from_nodes.Reading.{items_at}
use Rattle.json_form.specs.declared.pointer.Step.{Step}
use Rattle.json_form.specs.declared.pointer.Step.TheVariants.{Member, Item}
use Rattle.json_form.specs.TreeParts.{items_in}
use Rattle.json_form.proofs.MemberByName.{member_found, member_missing}
use Rattle.layouts.specs.declared.fault.Fault.{Fault}
use Rattle.layouts.specs.declared.form.Entry.{Entry}
use Rattle.layouts.specs.declared.form.Entry.TheVariants.{Required, Optional}
use Rattle.layouts.specs.declared.form.Form.{Form}
use Rattle.layouts.specs.declared.form.Form.TheVariants.{Object, Array, Pair}
use Rattle.layouts.specs.declared.form.Shape.{Shape}
use Rattle.layouts.specs.declared.form.Shape.TheVariants as shape
use Rattle.layouts.specs.declared.rule.Rule.{Rule}
use Rattle.layouts.specs.declared.rule.Rule.TheVariants.{HasForm, HasMembers}
use Rattle.layouts.specs.Forms.{Breaks, BreaksMember, Fits, IsFaultOf}
use Rattle.layouts.specs.Layouts.{entry_of}
use Rattle.msl_rules.specs.declared.msl_lists.raw.RawLinkMapping.{RawLinkMapping}
use Rattle.msl_rules.specs.msl_lists.Raw.{raw_container, raw_end_mapping, raw_link_mapping, raw_mapping}

-- from what holds of the item at each place
all_at : {X : Type 0} (P : X → Type 0) (xs : List X) → ((i : ℕ) (x : X) → At xs i x → P x) → All P xs
all_at P xs holds k d within = let item = item_at xs k within in subst P (sym (get_or_from_slice_get xs k item.0 d item.1)) (holds k item.0 item.1)

-- a number that isn't other than two
stable_two : (n : ℕ) → (¬ ¬ (n ≡ 2)) → n ≡ 2
stable_two n not = ⊎_elim
    (λ (less : n < 2). absurd (not (λ is. omega (arith, is, less))))
    (λ (many : 2 ≤ n). ⊎_elim (λ (more : 2 < n). absurd (not (λ is. omega (arith, is, more)))) (λ (few : n ≤ 2). let is : n ≡ 2 = omega (arith, many, few) in is) (cases_lt 2 n))
    (cases_lt n 2)

-- nothing in the node is against its layout
abbrev Keeps : Form → Data → Type 0
Keeps form d = (rule : Rule) (place : List Step) → ¬ Breaks rule form d place

-- nor is it what it has to be
fits : (form : Form) (d : Data) → Keeps form d → ¬ ¬ Fits form d
fits form d keeps not = keeps HasForm [] (inl (refl, not))

-- nor in an item
in_item : (each : Shape) (d : Data) (i : ℕ) (item : Data) → Keeps (Array each) d → At (items_in d) i item → Keeps (Object each) item
in_item each d i item keeps here rule place breaks = keeps rule (Item i ∷ place) (item, here, breaks)

-- nor in a member of which the layout says this
module _ (whole : Shape) (d : Data) (name : List ℕ) (entry : Entry) (form : Form) (known : entry_of whole name ≡ Some entry)
    (says : (rule : Rule) (place : List Step) (e : Data) → Breaks rule form e place → BreaksMember (λ other inside. Breaks rule other inside place) rule place (Some entry) e) where
  in_member : (part : Data) → get name d ≡ Some part → Keeps (Object whole) d → Keeps form part
  in_member part found keeps rule place breaks =
      let P : Option Entry → Type 0 = λ o. BreaksMember (λ other inside. Breaks rule other inside place) rule place o part in
      keeps rule (Member name ∷ place) (inr (part, member_found d name part found, subst P (sym known) (says rule place part breaks)))

-- the mapping of an association
link_ends : (d : Data) → Keeps (Object shape.AssociationSetMapping) d → (o : Option Data) → get (codes "EndProperty") d ≡ o → length (option_map_or items_in o []) ≡ 2
link_ends d keeps None none = absurd (fits (Object shape.AssociationSetMapping) d keeps (λ object. keeps HasMembers (Member (codes "EndProperty") ∷ [])
    (inl (refl, refl, record { required = (Pair shape.EndProperty, refl); object = object; absent = member_missing d (codes "EndProperty") none }))))
link_ends d keeps (Some ends) found = stable_two (length (items_in ends)) (λ not. fits (Pair shape.EndProperty) ends
    (in_member shape.AssociationSetMapping d (codes "EndProperty") (Required (Pair shape.EndProperty)) (Pair shape.EndProperty) refl (λ rule place e breaks. breaks) ends found keeps)
    (λ fitting. not fitting.1))

abbrev HasTwo : RawLinkMapping → Type 0
HasTwo link = length link.ends ≡ 2

-- an item among the mappings of associations
item_ends : (d : Data) → Keeps (Object shape.AssociationSetMapping) d → HasTwo (raw_link_mapping d)
item_ends d keeps = subst (λ (n : ℕ). n ≡ 2) (sym (length-map (items_at (codes "EndProperty") d) raw_end_mapping)) (link_ends d keeps (get (codes "EndProperty") d) refl)

in_list : (c : Data) → Keeps (Object shape.ContainerMapping) c → (o : Option Data) → get (codes "AssociationSetMapping") c ≡ o
    → All HasTwo (map raw_link_mapping (option_map_or items_in o []))
in_list c keeps None none = All-map HasTwo raw_link_mapping [] (All-nil (λ d. HasTwo (raw_link_mapping d)))
in_list c keeps (Some links) found = All-map HasTwo raw_link_mapping (items_in links) (all_at (λ d. HasTwo (raw_link_mapping d)) (items_in links)
    (λ i item here. item_ends item (in_item shape.AssociationSetMapping links i item
    (in_member shape.ContainerMapping c (codes "AssociationSetMapping") (Optional (Array shape.AssociationSetMapping)) (Array shape.AssociationSetMapping) refl (λ rule place e breaks. breaks) links found keeps)
    here)))

in_container : (d : Data) → Keeps (Object shape.Mapping) d → (o : Option Data) → get (codes "EntityContainerMapping") d ≡ o
    → All HasTwo (raw_container (unwrap_or o null)).links
in_container d keeps None none = All-map HasTwo raw_link_mapping [] (All-nil (λ e. HasTwo (raw_link_mapping e)))
in_container d keeps (Some c) found = in_list c
    (in_member shape.Mapping d (codes "EntityContainerMapping") (Required (Object shape.ContainerMapping)) (Object shape.ContainerMapping) refl (λ rule place e breaks. breaks) c found keeps)
    (get (codes "AssociationSetMapping") c) refl

-- of a document that keeps its layout
pub two_ends : (d : Data) → ((fault : Fault) → ¬ IsFaultOf (Object shape.Mapping) d fault) → All HasTwo (raw_mapping d).links
two_ends d none = in_container d (λ rule place breaks. none (record { rule = rule; place = place }) breaks) (get (codes "EntityContainerMapping") d) refl
