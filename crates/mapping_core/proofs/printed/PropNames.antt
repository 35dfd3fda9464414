-- No property that a document declares is named as the member that tells an entity's type.
use Rattle.std.proofs.Common.{◌≡◌, ◌≢◌, inl, inr, ℕ, List, [], ◌∷◌, get_or, map, flat_map, All, Option, Some, None, option_and_then, refl, sym, subst, codes}
use Rattle.std.specs.Prelude.{unwrap_or, IsSomeAnd}
use Rattle.std.specs.List.{enumerate_from}
use Rattle.std.specs.Option.{option_map_or}
use Rattle.std.proofs.lemmas.List.Elements.{All-append, All-head, All-map, All-nil, All-tail}
use Rattle.std.proofs.lemmas.Option.{slice_get-get_or}
use Rattle.serde_json.specs.Data.{Data, null}
use Rattle.serde_json.specs.Find.{as_str, get}
use Rattle.emc_base.proofs.Lists.{all_from_members}
use Rattle.emc_base.proofs.Numbered.{enumerated_at}
use Rattle.json_form.specs.declared.pointer.Step.{Step}
use Rattle.json_form.specs.declared.pointer.Step.TheVariants.{Member, Item}
use Rattle.json_form.specs.TreeParts.{items_in, tree_at}
use Rattle.json_form.proofs.MemberByName.{member_found}
use Rattle.edm_types.specs.Names.{IsBracketOrSign, IsPlainName}
use Rattle.layouts.specs.declared.form.Entry.{Entry}
use Rattle.layouts.specs.declared.form.Entry.TheVariants.{Required, Optional}
use Rattle.layouts.specs.declared.form.Form.{Form}
use Rattle.layouts.specs.declared.form.Form.TheVariants.{One, Object, Array}
use Rattle.layouts.specs.declared.form.Leaf.TheVariants.{PlainName}
use Rattle.layouts.specs.declared.form.Shape.{Shape}
use Rattle.layouts.specs.declared.form.Shape.TheVariants as shape
use Rattle.layouts.specs.declared.rule.Rule.{Rule}
use Rattle.layouts.specs.declared.rule.Rule.TheVariants.{HasForm}
use Rattle.layouts.specs.Forms.{Breaks, BreaksMember}
use Rattle.layouts.specs.Layouts.{entry_of}
use Rattle.csdl_names.specs.declared.csdl_lists.raw.RawModel.{RawModel}
use Rattle.csdl_names.specs.declared.csdl_lists.raw.RawProp.{RawProp}
use Rattle.csdl_names.specs.declared.csdl_lists.raw.RawType.{RawType}
use Rattle.csdl_names.specs.csdl_lists.Raw.{raw_model, raw_prop, raw_type}
use Rattle.csdl_meaning.specs.Meaning.{prop_of, props_in}
use Rattle.round_trip.specs.Words.{Prop}
use Rattle.edm_types.specs.declared.faults.VocabFile.TheVariants.{Csdl}
use Rattle.data_documents.proofs.printed.Lists.{all_at}
use Rattle.mapping_core.specs.Rules.{BreaksNoRule, model_in}

-- nothing in the node is against its layout
abbrev Keeps : Form → Data → Type 0
Keeps form d = (rule : Rule) (place : List Step) → ¬ Breaks rule form d place

-- nor in an item
in_items : (each : Shape) (d : Data) → Keeps (Array each) d → All (Keeps (Object each)) (items_in d)
in_items each d keeps k item within rule place breaks = keeps rule (Item k ∷ place) (get_or (items_in d) k item, slice_get-get_or (items_in d) k item within, breaks)

-- nor in a member of which the layout says this
module _ (whole : Shape) (d : Data) (name : List ℕ) (entry : Entry) (form : Form) (known : entry_of whole name ≡ Some entry)
    (says : (rule : Rule) (place : List Step) (e : Data) → Breaks rule form e place → BreaksMember (λ other inside. Breaks rule other inside place) rule place (Some entry) e) where
  in_member : (part : Data) → get name d ≡ Some part → Keeps (Object whole) d → Keeps form part
  in_member part found keeps rule place breaks =
      let P : Option Entry → Type 0 = λ o. BreaksMember (λ other inside. Breaks rule other inside place) rule place o part in
      keeps rule (Member name ∷ place) (inr (part, member_found d name part found, subst P (sym known) (says rule place part breaks)))

-- a plain name isn't that of the member
other_name : (o : Option (List ℕ)) → IsSomeAnd o IsPlainName → unwrap_or o [] ≢ codes "$type"
other_name None plain is = absurd plain
other_name (Some s) plain is =
    let P : List ℕ → Type 0 = λ t. All (λ byte. ¬ IsBracketOrSign byte) t in
    let free : All (λ byte. ¬ IsBracketOrSign byte) (codes "$type") = subst P is plain.namespace.free in
    All-head (λ byte. ¬ IsBracketOrSign byte) 36 (codes "type") free (inr (inr (inr refl)))

name_of_node : (node : Data) → Keeps (Object shape.Property) node → (o : Option Data) → get (codes "Name") node ≡ o → unwrap_or (option_and_then as_str o) [] ≢ codes "$type"
name_of_node node keeps None found is = absurd cc
name_of_node node keeps (Some part) found is =
    in_member shape.Property node (codes "Name") (Required (One PlainName)) (One PlainName) refl (λ rule place e breaks. breaks) part found keeps HasForm []
    (inl (refl, λ fits. other_name (as_str part) fits is))

abbrev IsPlainProp : RawProp → Type 0
IsPlainProp prop = prop.name ≢ codes "$type"

abbrev HasPlainProps : RawType → Type 0
HasPlainProps type = All IsPlainProp type.props

props_of_node : (node : Data) → Keeps (Object shape.EntityType) node → (o : Option Data) → get (codes "Property") node ≡ o → All IsPlainProp (map raw_prop (option_map_or items_in o []))
props_of_node node keeps None found = All-nil IsPlainProp
props_of_node node keeps (Some list) found =
    let inside = in_items shape.Property list
    (in_member shape.EntityType node (codes "Property") (Optional (Array shape.Property)) (Array shape.Property) refl (λ rule place e breaks. breaks) list found keeps) in
    All-map IsPlainProp raw_prop (items_in list) (λ k item within. name_of_node _ (inside k item within) _ refl)

types_of_node : (d : Data) → Keeps (Object shape.Model) d → (o : Option Data) → get (codes "EntityType") d ≡ o → All HasPlainProps (map raw_type (option_map_or items_in o []))
types_of_node d keeps None found = All-nil HasPlainProps
types_of_node d keeps (Some list) found =
    let inside = in_items shape.EntityType list
    (in_member shape.Model d (codes "EntityType") (Required (Array shape.EntityType)) (Array shape.EntityType) refl (λ rule place e breaks. breaks) list found keeps) in
    All-map HasPlainProps raw_type (items_in list) (λ k item within. props_of_node _ (inside k item within) _ refl)

-- what is so of each item of each list is so of the joined lists
pub all_joined : {X Y : Type 0} (P : Y → Type 0) (f : X → List Y) (xs : List X) → All (λ x. All P (f x)) xs → All P (flat_map f xs)
all_joined P f [] each = All-nil P
all_joined P f (x ∷ xs) each = All-append P (f x) (flat_map f xs) (All-head (λ y. All P (f y)) x xs each) (all_joined P f xs (All-tail (λ y. All P (f y)) x xs each))

-- what is so of each property that a type declares is so of each of the model
pub each_prop : (raw : RawModel) (P : List ℕ → Type 0) → All (λ (type : RawType). All (λ (prop : RawProp). P prop.name) type.props) raw.types → All (λ (prop : Prop). P prop.name) (props_in raw)
each_prop raw P each =
    all_joined (λ (prop : Prop). P prop.name) (λ place. map (prop_of raw place.0) place.1.props) (enumerate_from 0 raw.types)
    (all_from_members (λ place. All (λ (prop : Prop). P prop.name) (map (prop_of raw place.0) place.1.props)) (enumerate_from 0 raw.types) (λ place has.
    All-map (λ (prop : Prop). P prop.name) (prop_of raw place.0) place.1.props
    (all_at (λ (type : RawType). All (λ (prop : RawProp). P prop.name) type.props) raw.types place.0 place.1 each (enumerated_at raw.types place has))))

plain_props : (csdl : List ℕ) (found : Option Data) → tree_at csdl ≡ found → ((d : Data) → found ≡ Some d → Keeps (Object shape.Model) d) → All (λ (prop : Prop). prop.name ≢ codes "$type") (props_in (raw_model (unwrap_or found null)))
plain_props csdl None held keeps = All-nil (λ (prop : Prop). prop.name ≢ codes "$type")
plain_props csdl (Some d) held keeps = each_prop (raw_model d) (λ name. name ≢ codes "$type") (types_of_node d (keeps d refl) (get (codes "EntityType") d) refl)

-- so of documents that break no rule
pub plain_names : (csdl ssdl msl : List ℕ) → BreaksNoRule csdl ssdl msl → All (λ (prop : Prop). prop.name ≢ codes "$type") (model_in csdl).props
plain_names csdl ssdl msl unbroken =
    plain_props csdl (tree_at csdl) refl (λ d held rule place breaks. unbroken Csdl (record { rule = rule; place = place }) (inr (d, held, inl breaks)))
