-- The names that a model's document gives are texts.
use Rattle.std.proofs.Common.{◌≡◌, ℕ, List, [], ◌∷◌, map, All, Contains, IsUtf8, Some, slice_get, codes, subst}
use Rattle.std.specs.List.{enumerate_from}
use Rattle.std.proofs.lemmas.List.Elements.{All-contains, All-head, All-map, All-tail}
use Rattle.std.proofs.lemmas.Option.{same_Some}
use Rattle.serde_json.specs.Data.{Data}
use Rattle.emc_base.proofs.FoundItems.{and_then_some}
use Rattle.emc_base.proofs.Joined.{in_found}
use Rattle.emc_base.proofs.Lists.{all_from_members}
use Rattle.emc_base.proofs.Numbered.{enumerated_at}
use Rattle.json_form.specs.from_nodes.Reading.{items_at, object_at}
use Rattle.csdl_names.specs.declared.csdl_lists.raw.RawAssociation.{RawAssociation}
use Rattle.csdl_names.specs.declared.csdl_lists.raw.RawAssociationSet.{RawAssociationSet}
use Rattle.csdl_names.specs.declared.csdl_lists.raw.RawEnd.{RawEnd}
use Rattle.csdl_names.specs.declared.csdl_lists.raw.RawModel.{RawModel}
use Rattle.csdl_names.specs.declared.csdl_lists.raw.RawProp.{RawProp}
use Rattle.csdl_names.specs.declared.csdl_lists.raw.RawSet.{RawSet}
use Rattle.csdl_names.specs.declared.csdl_lists.raw.RawType.{RawType}
use Rattle.csdl_names.specs.csdl_lists.Raw.{raw_association, raw_association_set, raw_end, raw_model, raw_prop, raw_set, raw_type}
use Rattle.csdl_names.specs.csdl_lists.References.{names_in}
use Rattle.csdl_names.specs.Unresolved.{association_of}
use Rattle.csdl_meaning.specs.Meaning.{type_of}
use Rattle.csdl_meaning.specs.ModelMeaning.{assoc_between, assoc_of, meaning, set_of}
use Rattle.round_trip.specs.Words.{Assoc, EntitySet, EntityType}
use Rattle.data_documents.specs.printed.Names.{HasTextModelNames}
use Rattle.data_documents.specs.printed.Texts.{HasTexts}
use Rattle.data_documents.proofs.printed.Lists.{all_at}
use Rattle.data_documents.proofs.printed.texts.Nodes.{items_at_texts, object_at_texts, text_at_text}
use Rattle.mapping_core.specs.Rules.{model_in, tree_in}
use Rattle.mapping_core.proofs.printed.PropNames.{each_prop}
use Rattle.mapping_core.proofs.printed.StoreNames.{file_texts}

abbrev IsTextProp : RawProp → Type 0
IsTextProp prop = IsUtf8 prop.name

abbrev IsTextEnd : RawEnd → Type 0
IsTextEnd end = IsUtf8 end.role

abbrev IsTextAssoc : Assoc → Type 0
IsTextAssoc assoc = IsUtf8 assoc.set_name × IsUtf8 assoc.first.role × IsUtf8 assoc.second.role

-- what an association set means by these ends has its name and their roles
between : (raw : RawModel) (set : RawAssociationSet) (association : RawAssociation) (ends : List RawEnd) → IsUtf8 set.name → All IsTextEnd ends
    → (assoc : Assoc) → assoc_between raw set association ends ≡ Some assoc → IsTextAssoc assoc
between raw set association [] name roles assoc is = absurd cc
between raw set association (first ∷ []) name roles assoc is = absurd cc
between raw set association (first ∷ second ∷ third ∷ rest) name roles assoc is = absurd cc
between raw set association (first ∷ second ∷ []) name roles assoc is =
    let one : IsUtf8 first.role = All-head IsTextEnd first (second ∷ []) roles in
    let other : IsUtf8 second.role = All-head IsTextEnd second [] (All-tail IsTextEnd first (second ∷ []) roles) in
    subst IsTextAssoc (same_Some _ assoc is) (name, one, other)

module _ (d : Data) (texts : HasTexts d) where
  nodes_text : All HasTexts (items_at (codes "EntityType") d)
  nodes_text = items_at_texts (codes "EntityType") d texts

  props_text : (node : Data) → HasTexts node → All IsTextProp (map raw_prop (items_at (codes "Property") node))
  props_text node has = All-map IsTextProp raw_prop (items_at (codes "Property") node)
      (λ k part within. text_at_text (codes "Name") _ (items_at_texts (codes "Property") node has k part within))

  types_text : All (λ (type : RawType). IsUtf8 type.name) (raw_model d).types
  types_text = All-map (λ (type : RawType). IsUtf8 type.name) raw_type (items_at (codes "EntityType") d) (λ k part within. text_at_text (codes "Name") _ (nodes_text k part within))

  types_props : All (λ (type : RawType). All IsTextProp type.props) (raw_model d).types
  types_props = All-map (λ (type : RawType). All IsTextProp type.props) raw_type (items_at (codes "EntityType") d) (λ k part within. props_text _ (nodes_text k part within))

  container_texts : (name : List ℕ) → All HasTexts (items_at name (object_at (codes "EntityContainer") d))
  container_texts name = items_at_texts name (object_at (codes "EntityContainer") d) (object_at_texts (codes "EntityContainer") d texts)

  sets_text : All (λ (set : RawSet). IsUtf8 set.name) (raw_model d).container.sets
  sets_text = All-map (λ (set : RawSet). IsUtf8 set.name) raw_set (items_at (codes "EntitySet") (object_at (codes "EntityContainer") d))
      (λ k part within. text_at_text (codes "Name") _ (container_texts (codes "EntitySet") k part within))

  association_sets_text : All (λ (set : RawAssociationSet). IsUtf8 set.name) (raw_model d).container.association_sets
  association_sets_text = All-map (λ (set : RawAssociationSet). IsUtf8 set.name) raw_association_set (items_at (codes "AssociationSet") (object_at (codes "EntityContainer") d))
      (λ k part within. text_at_text (codes "Name") _ (container_texts (codes "AssociationSet") k part within))

  roles_text : (node : Data) → HasTexts node → All IsTextEnd (map raw_end (items_at (codes "End") node))
  roles_text node has = All-map IsTextEnd raw_end (items_at (codes "End") node)
      (λ k part within. text_at_text (codes "Role") _ (items_at_texts (codes "End") node has k part within))

  ends_text : All (λ (association : RawAssociation). All IsTextEnd association.ends) (raw_model d).associations
  ends_text = All-map (λ (association : RawAssociation). All IsTextEnd association.ends) raw_association (items_at (codes "Association") d)
      (λ k part within. roles_text _ (items_at_texts (codes "Association") d texts k part within))

  -- an association has the name of the set that means it, and the roles of the ends of the association that this names
  assoc_texts : (assoc : Assoc) → Contains (meaning (raw_model d)).assocs assoc → IsTextAssoc assoc
  assoc_texts assoc has =
      let raw = raw_model d in
      let set = in_found (assoc_of raw) raw.container.association_sets assoc has in
      let found = and_then_some (λ association. assoc_between raw set.0 association association.ends) (association_of (names_in raw) raw set.0.association) assoc set.2 in
      let place = and_then_some (slice_get raw.associations) ((names_in raw).association_named set.0.association) found.0 found.1 in
      between raw set.0 found.0 found.0.ends
      (All-contains (λ (one : RawAssociationSet). IsUtf8 one.name) raw.container.association_sets set.0 association_sets_text set.1)
      (all_at (λ (one : RawAssociation). All IsTextEnd one.ends) raw.associations place.0 found.0 ends_text place.2) assoc found.2

  model_texts : HasTextModelNames (meaning (raw_model d))
  model_texts = record {
    namespace = text_at_text (codes "Namespace") d texts;
    types = All-map (λ (type : EntityType). IsUtf8 type.name) (λ place. type_of (raw_model d) place.0 place.1) (enumerate_from 0 (raw_model d).types)
        (all_from_members (λ place. IsUtf8 (type_of (raw_model d) place.0 place.1).name) (enumerate_from 0 (raw_model d).types)
        (λ place has. all_at (λ (type : RawType). IsUtf8 type.name) (raw_model d).types place.0 place.1 types_text (enumerated_at (raw_model d).types place has)));
    props = each_prop (raw_model d) IsUtf8 types_props;
    sets = All-map (λ (set : EntitySet). IsUtf8 set.name) (set_of (raw_model d)) (raw_model d).container.sets sets_text;
    assocs = all_from_members (λ (assoc : Assoc). IsUtf8 assoc.set_name) (meaning (raw_model d)).assocs (λ assoc has. (assoc_texts assoc has).0);
    roles = all_from_members (λ (assoc : Assoc). IsUtf8 assoc.first.role × IsUtf8 assoc.second.role) (meaning (raw_model d)).assocs (λ assoc has. let three = assoc_texts assoc has in (three.1, three.2));
  }

-- so in the model that a file means
pub names_of_model : (csdl : List ℕ) → HasTextModelNames (model_in csdl)
names_of_model csdl = model_texts (tree_in csdl) (file_texts csdl)
