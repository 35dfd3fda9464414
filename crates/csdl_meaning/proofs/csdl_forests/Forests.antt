-- The forest that a document means is that of its base types.
use Rattle.std.proofs.Common.{◌≡◌, ◌↔◌, ℕ, ◌<◌, suc, false, List, length, map, Option, refl, sym, ap, subst, ◌∙◌}
use Rattle.std.specs.Option.{option_map_or}
use Rattle.std.proofs.lemmas.Option.{slice_get_within}
use Rattle.std.proofs.lemmas.Simd.{map-map}
use Rattle.emc_base.specs.Lists.{At}
use Rattle.emc_base.proofs.Lists.{item_at}
use Rattle.round_trip.specs.Words.{EntityType, TypeId, TypeNode}
use Rattle.edm_types.specs.Forest.{HoldsEachType, IsForest, IsNodeOf, IsTypeNode, node_type, type_numbered, types_based_on}
use Rattle.round_trip.specs.soundness.models.Inheritance.{HasNoCircle}
use Rattle.round_trip.specs.soundness.models.ModelIds.{IsTypeId}
use Rattle.schema_laws.proofs.sound_forests.Whole.{holds_each}
use Rattle.graphs.proofs.base_chains.Depths.{HasDepth, depth_never}
use Rattle.csdl_names.specs.declared.csdl_lists.raw.RawModel.{RawModel}
use Rattle.csdl_names.specs.declared.csdl_lists.raw.RawType.{RawType}
use Rattle.csdl_meaning.specs.Meaning.{IsMeant, base_in, forest_in, is_abstract_at, is_base, is_top, node_upto, type_of, type_places}
use Rattle.csdl_meaning.specs.ModelMeaning.{meaning}
use Rattle.csdl_meaning.specs.SoundTypes.{KeepsTypeRules}
use Rattle.csdl_meaning.proofs.types.Bases.{above as above_types, above_inside, no_circle, raw_at, type_at}
use Rattle.csdl_meaning.proofs.types.Ids.{bases_inside}
use Rattle.csdl_meaning.proofs.kept.KeptTypes.{none_above_itself}
use Rattle.csdl_meaning.proofs.csdl_forests.Nodes.{children_of, flag_of, id_of, node_stands}
use Rattle.csdl_meaning.proofs.csdl_forests.Places.{based_on, tops}

module _ (raw : RawModel) where
  -- the meaning has the types of the document
  meant : IsMeant raw (meaning raw)
  meant = record { types = refl; props = refl }

  -- the types of nodes that are made of places
  types_of_nodes : (n : ℕ) (places : List ℕ) → map node_type (map (λ i. node_upto raw n i) places) ≡ map type_numbered places
  types_of_nodes n places = map-map node_type (λ i. node_upto raw n i) places ∙ (λ k. map (λ i. id_of raw n i k) places)

  -- the flag of the type at a place
  flag_at : (i : ℕ) (type : EntityType) → At (meaning raw).types i type → is_abstract_at raw i ≡ type.is_abstract
  flag_at i type here =
      let from = raw_at raw (meaning raw) meant i type here in
      ap (λ (found : Option RawType). option_map_or (λ type. type.is_abstract) found false) from.1 ∙ ap (λ (type : EntityType). type.is_abstract) (sym from.2)

  -- the node of a type
  made_node : (n i : ℕ) → IsTypeNode (meaning raw) (node_upto raw (suc n) i)
  made_node n i = record {
    children = ap (map node_type) (children_of raw n i) ∙ types_of_nodes n (type_places raw (is_base raw i)) ∙ sym (ap (map type_numbered) (based_on raw i))
        ∙ sym (ap (types_based_on (meaning raw)) (id_of raw (suc n) i));
    flag = λ type here. flag_of raw (suc n) i ∙ flag_at i type
        (let P : ℕ → Type 0 = λ j. At (meaning raw).types j type in subst P (λ k. (id_of raw (suc n) i k).index) here);
  }

  pub is_forest : IsForest (meaning raw) (forest_in raw)
  is_forest = record {
    roots = types_of_nodes (length raw.types) (type_places raw (is_top raw)) ∙ sym (ap (map type_numbered) (tops raw));
    nodes = λ node has. let here = node_stands raw node has in subst (IsTypeNode (meaning raw)) (sym here.is) (made_node here.levels here.place);
  }

  -- a node is that of a type of the document
  pub ids_inside : (node : TypeNode) → IsNodeOf (forest_in raw) node → IsTypeId (meaning raw) (node_type node)
  ids_inside node has =
      let here = node_stands raw node has in
      let from = item_at raw.types here.place here.inside in
      let P : ℕ → Type 0 = λ i. i < length (meaning raw).types in
      let same : here.place ≡ (node_type node).index = sym (ap (λ (other : TypeNode). (node_type other).index) here.is ∙ (λ k. (id_of raw (suc here.levels) here.place k).index)) in
      subst P same (slice_get_within (meaning raw).types here.place (type_of raw here.place from.0) (type_at raw (meaning raw) meant here.place from.0 from.1))

  -- where no type is its own ancestor, each stands in the forest
  holds_types : HasNoCircle (meaning raw) → HoldsEachType (meaning raw) (forest_in raw)
  holds_types never = holds_each (meaning raw) (forest_in raw) is_forest never (bases_inside raw (meaning raw) meant)

  -- and what stands in the forest is not its own ancestor
  no_circle_held : HoldsEachType (meaning raw) (forest_in raw) → HasNoCircle (meaning raw)
  no_circle_held holds t up =
      let above = above_types raw (meaning raw) meant t t up in
      let from = item_at raw.types t.index (above_inside raw t.index t.index above) in
      let found = holds t (type_of raw t.index from.0) (type_at raw (meaning raw) meant t.index from.0 from.1) in
      let here = node_stands raw found.0 found.1 in
      let same : here.place ≡ t.index = ap (λ (id : TypeId). id.index) (sym (ap node_type here.is ∙ id_of raw (suc here.levels) here.place) ∙ found.2) in
      depth_never (base_in raw) here.depth t.index (subst (HasDepth (base_in raw) here.depth) same here.deep) above

  pub whole : HasNoCircle (meaning raw) ↔ HoldsEachType (meaning raw) (forest_in raw)
  whole = (holds_types, no_circle_held)

  -- so it is where the document keeps the rules
  pub holds_kept : KeepsTypeRules raw → HoldsEachType (meaning raw) (forest_in raw)
  holds_kept keeps = holds_types (no_circle raw (meaning raw) meant (none_above_itself raw keeps.keeps_types))
