-- In the forest of a model's types, the nodes below a node are those of the types derived from its type.
use Rattle.std.proofs.Common.{◌≡◌, ◌↔◌, ℕ, ◌<◌, ◌==◌, List, [], ◌∷◌, map, length, replicate, Bool, true, false, true≢false, Contains, Option, Some, None, is_none, refl, sym, ap, subst, ◌∙◌, ⊎_elim, inr}
use Rattle.std.specs.Option.{option_map_or}
use Rattle.std.proofs.lemmas.Bool.Decides.{Decides-eqb}
use Rattle.std.proofs.lemmas.Option.{same_Some, slice_get_within}
use Rattle.std.proofs.lemmas.List.{length-replicate}
use Rattle.emc_base.specs.Lists.{At, places_of}
use Rattle.emc_base.proofs.Lists.{at_once, item_at, only_member}
use Rattle.emc_base.proofs.Mapped.{contains_map}
use Rattle.emc_base.proofs.Numbered.{map_contains, all_pairs_map, places_contain, at_places, places_rise}
use Rattle.edm_types.specs.Types.{TypeId, EntityModel, EntityType}
use Rattle.edm_types.specs.declared.model.TypeNode.{TypeNode}
use Rattle.edm_types.specs.IsA.{HasBase, IsA, same, base, chain}
use Rattle.edm_types.specs.Forest.{type_numbered, root_types, types_based_on, node_type, nodes_below, IsNodeOf, top, below, HasNode, IsForest, HoldsEachType, IsSubtree}
use Rattle.edm_types.specs.Marks.{AddsMarks}
use Rattle.edm_types.proofs.Nodes.{only_top, in_tree_of}
use Rattle.edm_types.proofs.Marks.{adds_none, adds_same, none_marked}

-- the base is the type that the test asks for
is_base : (u : TypeId) (found : Option TypeId) → option_map_or (λ (b : TypeId). b.index == u.index) found false ≡ true → found ≡ Some u
is_base u None passes = cc
is_base u (Some b) passes = let at : b.index ≡ u.index = (Decides-eqb b.index u.index).0 passes in λ i. Some (record { index = at i })

-- a type has one base
one_base : (model : EntityModel) (t u v : TypeId) → HasBase model t u → HasBase model t v → u ≡ v
one_base model t u v one two = same_Some u v (sym one.2 ∙ ap (λ (type : EntityType). type.base) (at_once model.types t.index one.0 two.0 one.1 two.1) ∙ two.2)

module _ (model : EntityModel) (forest : IsForest model model.forest) where
  -- the type of a node below another has that one's for its base
  child_base : (parent child : TypeNode) → IsNodeOf model.forest parent → Contains (nodes_below parent) child → HasBase model (node_type child) (node_type parent)
  child_base parent child stands has =
      let u = node_type parent in
      let test : EntityType → Bool = λ type. option_map_or (λ base. base.index == u.index) type.base false in
      let Among : List TypeId → Type 0 = λ types. Contains types (node_type child) in
      let listed : Contains (types_based_on model u) (node_type child) = subst Among (forest.nodes parent stands).children (contains_map node_type (nodes_below parent) child has) in
      let place = map_contains type_numbered (places_of test model.types) (node_type child) listed in
      let type = at_places test model.types place.0 place.1 in
      let Based : TypeId → Type 0 = λ t. HasBase model t u in
      subst Based place.2 (type.0, type.1, is_base u type.0.base type.2)

  -- below a node stands one of each type that is based on its type
  based_child : (t : TypeId) (parent : TypeNode) → IsNodeOf model.forest parent → HasBase model t (node_type parent) → (child : TypeNode) × Contains (nodes_below parent) child × (node_type child ≡ t)
  based_child t parent stands has =
      let u = node_type parent in
      let test : EntityType → Bool = λ type. option_map_or (λ base. base.index == u.index) type.base false in
      let passes : test has.0 ≡ true = ap (λ (found : Option TypeId). option_map_or (λ (b : TypeId). b.index == u.index) found false) has.2 ∙ (Decides-eqb u.index u.index).1 refl in
      let Among : List TypeId → Type 0 = λ types. Contains types t in
      let listed : Contains (types_based_on model u) t = contains_map type_numbered (places_of test model.types) t.index (places_contain test model.types t.index has.0 has.1 passes) in
      map_contains node_type (nodes_below parent) t (subst Among (sym (forest.nodes parent stands).children) listed)

  -- the type of a tree's top has no base
  top_without_base : (tree : TypeNode) (u : TypeId) → Contains model.forest tree → ¬ HasBase model (node_type tree) u
  top_without_base tree u stands has =
      let test : EntityType → Bool = λ type. is_none type.base in
      let Among : List TypeId → Type 0 = λ types. Contains types (node_type tree) in
      let listed : Contains (root_types model) (node_type tree) = subst Among forest.roots (contains_map node_type model.forest tree stands) in
      let place = map_contains type_numbered (places_of test model.types) (node_type tree) listed in
      let type = at_places test model.types place.0 place.1 in
      let At_top : ℕ → Type 0 = λ i. At model.types i type.0 in
      let here : At model.types (node_type tree).index type.0 = subst At_top (ap (λ (t : TypeId). t.index) place.2) type.1 in
      let one : type.0 ≡ has.0 = at_once model.types (node_type tree).index type.0 has.0 here has.1 in
      absurd (true≢false (sym type.2 ∙ ap test one ∙ ap (λ (found : Option TypeId). is_none found) has.2))

  -- what stands in the tree of a node is derived from its type
  pub derived_below : (upper node : TypeNode) → IsNodeOf model.forest upper → IsNodeOf (upper ∷ []) node → IsA model (node_type node) (node_type upper)
  derived_below upper node stands (top _ has) =
      let P : TypeNode → Type 0 = λ other. IsA model (node_type other) (node_type upper) in
      subst P (sym (only_member (upper ∷ []) upper node refl has)) (same (node_type upper))
  derived_below upper node stands (below parent _ is has) =
      chain (node_type node) (node_type parent) (node_type upper)
      (base (node_type node) (node_type parent) (child_base parent node (in_tree_of model.forest upper parent stands is) has))
      (derived_below upper parent stands is)

  -- each type that is derived from a node's type stands in its tree
  pub below_derived : (t u : TypeId) → IsA model t u → (upper : TypeNode) → IsNodeOf model.forest upper → node_type upper ≡ u → HasNode (upper ∷ []) t
  below_derived t u (same _) upper stands is = (upper, only_top upper, is)
  below_derived t u (base _ _ has) upper stands is =
      let Based : TypeId → Type 0 = λ v. HasBase model t v in
      let child = based_child t upper stands (subst Based (sym is) has) in
      (child.0, below upper child.0 (only_top upper) child.1, child.2)
  below_derived t u (chain _ v _ first second) upper stands is =
      let middle = below_derived v u second upper stands is in
      let lower = below_derived t v first middle.0 (in_tree_of model.forest upper middle.0 stands middle.1) middle.2 in
      (lower.0, in_tree_of (upper ∷ []) middle.0 lower.0 middle.1 lower.1, lower.2)

  -- a node of a type is found: in its tree stand the types derived from it
  pub tree_holds : (t u : TypeId) (node : TypeNode) → IsNodeOf model.forest node × (node_type node ≡ u) → HasNode (node ∷ []) t ↔ IsA model t u
  tree_holds t u node found = (
    λ has. let Over : TypeId → Type 0 = λ v. IsA model t v in
        let Under : TypeId → Type 0 = λ v. IsA model v (node_type node) in
        subst Over found.1 (subst Under has.2 (derived_below node has.0 found.0 has.1)),
    λ derived. below_derived t u derived node found.0 found.1,
  )

  module _ (whole : HoldsEachType model model.forest) where
    -- each base type has a node
    base_has_node : (t u : TypeId) → HasBase model t u → HasNode model.forest u
    base_has_node t u has = let node = whole t has.0 has.1 in by node.0 node.1 node.2
      where
        by : (node : TypeNode) → IsNodeOf model.forest node → node_type node ≡ t → HasNode model.forest u
        by node (top _ stands) is = let Based : TypeId → Type 0 = λ v. HasBase model v u in absurd (top_without_base node u stands (subst Based (sym is) has))
        by node (below parent _ stands member) is =
            let Based : TypeId → Type 0 = λ v. HasBase model v (node_type parent) in
            (parent, stands, one_base model t (node_type parent) u (subst Based is (child_base parent node stands member)) has)

    -- from a type without a node only itself is derived
    pub alone_without : (t u : TypeId) → ¬ HasNode model.forest u → IsA model t u → t ≡ u
    alone_without t u none (same _) = refl
    alone_without t u none (base _ _ has) = absurd (none (base_has_node t u has))
    alone_without t u none (chain _ v _ first second) =
        let is : v ≡ u = alone_without v u none second in
        let Without : TypeId → Type 0 = λ w. ¬ HasNode model.forest w in
        alone_without t v (subst Without (sym is) none) first ∙ is

    -- no type of the model is derived from a type without a node
    pub none_without : (u : TypeId) (i : ℕ) → ¬ HasNode model.forest u → i < length model.types → ¬ IsA model (type_numbered i) u
    none_without u i none within derived =
        let type = item_at model.types i within in
        let Without : TypeId → Type 0 = λ w. ¬ HasNode model.forest w in
        subst Without (sym (alone_without (type_numbered i) u none derived)) none (whole (type_numbered i) type.0 type.1)

  -- the types at the marked places
  pub subtree_marked : (t : TypeId) (marks : List Bool) → AddsMarks (λ i. IsA model (type_numbered i) t) (replicate (length model.types) false) marks
      → IsSubtree model t (map type_numbered (places_of (λ mark. mark) marks))
  subtree_marked t marks adds =
      let count = length model.types in
      let test : Bool → Bool = λ mark. mark in
      record {
        order = all_pairs_map (λ (one : TypeId) (next : TypeId). one.index < next.index) type_numbered (places_of test marks) (places_rise test marks);
        all = λ u. (
          λ has. let place = map_contains type_numbered (places_of test marks) u has in
              let mark = at_places test marks place.0 place.1 in
              let Marked : Bool → Type 0 = λ b. At marks place.0 b in
              let Is : TypeId → Type 0 = λ v. (type : EntityType) × At model.types v.index type × IsA model v t in
              ⊎_elim
              (λ (old : At (replicate count false) place.0 true). absurd (none_marked count place.0 old))
              (λ (new : (place.0 < length (replicate count false)) × IsA model (type_numbered place.0) t).
              let Inside : ℕ → Type 0 = λ n. place.0 < n in
              let type = item_at model.types place.0 (subst Inside (length-replicate count false) new.0) in
              subst Is place.2 (type.0, type.1, new.1))
              ((adds.marked place.0).0 (subst Marked mark.2 mark.1)),
          λ is. let Inside : ℕ → Type 0 = λ n. u.index < n in
              let within : u.index < length (replicate count false) = subst Inside (sym (length-replicate count false)) (slice_get_within model.types u.index is.0 is.1) in
              contains_map type_numbered (places_of test marks) u.index (places_contain test marks u.index true ((adds.marked u.index).1 (inr (within, is.2))) refl),
        );
      }

  -- those of a tree that was found, and none where no tree has the type
  pub subtree_found : (t : TypeId) (node : TypeNode) (marks : List Bool) → IsNodeOf model.forest node × (node_type node ≡ t)
      → AddsMarks (λ i. HasNode (node ∷ []) (type_numbered i)) (replicate (length model.types) false) marks
      → IsSubtree model t (map type_numbered (places_of (λ mark. mark) marks))
  subtree_found t node marks found adds = subtree_marked t marks (adds_same (replicate (length model.types) false) marks (λ i within. tree_holds (type_numbered i) t node found) adds)

  pub subtree_none : HoldsEachType model model.forest → (t : TypeId) → ¬ HasNode model.forest t
      → IsSubtree model t (map type_numbered (places_of (λ mark. mark) (replicate (length model.types) false)))
  subtree_none whole t none =
      let unmarked = replicate (length model.types) false in
      subtree_marked t unmarked (adds_same unmarked unmarked (λ i within. (
        λ no. absurd no,
        λ derived. none_without whole t i none (let Below : ℕ → Type 0 = λ n. i < n in subst Below (length-replicate (length model.types) false) within) derived,
      )) (adds_none unmarked))
