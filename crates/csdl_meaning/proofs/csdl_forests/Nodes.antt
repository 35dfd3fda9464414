-- The nodes of the trees that a document means: each is that of a type, at the depth of the type below its root. No chain is cut off.
use Rattle.std.proofs.Common.{◌≡◌, ⊎_elim, ℕ, zero, suc, ◌+◌, ◌<◌, ◌≤◌, List, [], length, map, Contains, sym, ap, subst, arith}
use Rattle.round_trip.specs.Words.{TypeNode}
use Rattle.edm_types.specs.declared.model.TypeNode.{out-TypeNode}
use Rattle.edm_types.specs.declared.model.TypeNode.TheViews.{out-roll-TypeNode}
use Rattle.edm_types.specs.Forest.{IsNodeOf, below, node_type, nodes_below, top, type_numbered}
use Rattle.graphs.specs.base_chains.Chains.{IsAncestor, chain_upto}
use Rattle.graphs.proofs.base_chains.Chains.{closed_ancestors, in_chain}
use Rattle.emc_base.proofs.Members.{in_map}
use Rattle.graphs.proofs.base_chains.Depths.{HasDepth, depth_root, depth_up, few_deep}
use Rattle.csdl_names.specs.declared.csdl_lists.raw.RawModel.{RawModel}
use Rattle.csdl_meaning.specs.Meaning.{base_in, forest_in, is_abstract_at, is_base, is_top, node_upto, type_places}
use Rattle.csdl_meaning.proofs.types.Bases.{base_inside}
use Rattle.csdl_meaning.proofs.csdl_forests.Places.{base_is, place_inside, place_passes, top_base}

module _ (raw : RawModel) where
  -- the nodes of the types based on a type, with so many levels below them
  abbrev pub lower : ℕ → ℕ → List TypeNode
  lower n i = map (λ j. node_upto raw n j) (type_places raw (is_base raw i))

  -- what a node holds
  pub id_of : (n i : ℕ) → node_type (node_upto raw n i) ≡ type_numbered i
  id_of zero i = ap (λ row. row.id) (out-roll-TypeNode (record { id = type_numbered i; is_abstract = is_abstract_at raw i; children = [] }))
  id_of (suc n) i = ap (λ row. row.id) (out-roll-TypeNode (record { id = type_numbered i; is_abstract = is_abstract_at raw i; children = lower n i }))

  pub flag_of : (n i : ℕ) → (out-TypeNode (node_upto raw n i)).is_abstract ≡ is_abstract_at raw i
  flag_of zero i = ap (λ row. row.is_abstract) (out-roll-TypeNode (record { id = type_numbered i; is_abstract = is_abstract_at raw i; children = [] }))
  flag_of (suc n) i = ap (λ row. row.is_abstract) (out-roll-TypeNode (record { id = type_numbered i; is_abstract = is_abstract_at raw i; children = lower n i }))

  pub children_of : (n i : ℕ) → nodes_below (node_upto raw (suc n) i) ≡ lower n i
  children_of n i = ap (λ row. row.children) (out-roll-TypeNode (record { id = type_numbered i; is_abstract = is_abstract_at raw i; children = lower n i }))

  -- no type stands deeper than there are types
  depth_few : (d i : ℕ) → HasDepth (base_in raw) d i → i < length raw.types → d ≤ length raw.types
  depth_few d i deep inside = few_deep (base_in raw) (length raw.types) d i deep inner
    where
      inner : (x : ℕ) → Contains (chain_upto (base_in raw) d i) x → x < length raw.types
      inner x has = ⊎_elim
          (λ (same : x ≡ i). subst (λ j. j < length raw.types) (sym same) inside)
          (λ (above : IsAncestor (base_in raw) i x). closed_ancestors (base_in raw) (λ y. y < length raw.types) (λ y j _ is. base_inside raw y j is) i x (base_inside raw i) above)
          (in_chain (base_in raw) d i x has)

  -- the node of a type: as many levels are left below it as there are types, less those above it
  pub record Stands (node : TypeNode) : Type 0 where
    pub place : ℕ
    pub levels : ℕ
    pub depth : ℕ
    pub is : node ≡ node_upto raw (suc levels) place
    pub inside : place < length raw.types
    pub deep : HasDepth (base_in raw) depth place
    pub left : depth + levels ≡ length raw.types

  -- there is a level for each
  stands : (node : TypeNode) (n i d : ℕ) → node ≡ node_upto raw n i → i < length raw.types → HasDepth (base_in raw) d i → d + n ≡ suc (length raw.types) → Stands node
  stands node zero i d is inside deep left = let few : d ≤ length raw.types = depth_few d i deep inside in absurd (omega (arith, left, few))
  stands node (suc n) i d is inside deep left = record { place = i; levels = n; depth = d; is = is; inside = inside; deep = deep; left = omega (arith, left) }

  -- so it is of each node
  pub node_stands : (node : TypeNode) → IsNodeOf (forest_in raw) node → Stands node
  node_stands node (top _ has) =
      let found = in_map (λ i. node_upto raw (length raw.types) i) (type_places raw (is_top raw)) node has in
      stands node (length raw.types) found.0 1 (sym found.2) (place_inside raw (is_top raw) found.0 found.1)
      (depth_root (base_in raw) found.0 (top_base raw found.0 (place_passes raw (is_top raw) found.0 found.1))) (omega arith)
  node_stands child (below node _ up has) =
      let above = node_stands node up in
      let P : TypeNode → Type 0 = λ other. Contains (nodes_below other) child in
      let Q : List TypeNode → Type 0 = λ nodes. Contains nodes child in
      let found = in_map (λ j. node_upto raw above.levels j) (type_places raw (is_base raw above.place)) child (subst Q (children_of above.levels above.place) (subst P above.is has)) in
      let left : above.depth + above.levels ≡ length raw.types = above.left in
      stands child above.levels found.0 (suc above.depth) (sym found.2) (place_inside raw (is_base raw above.place) found.0 found.1)
      (depth_up (base_in raw) above.depth found.0 above.place (base_is raw above.place found.0 (place_passes raw (is_base raw above.place) found.0 found.1)) above.deep)
      (omega (arith, left))
