-- Nodes in trees: from the top of a tree to its children, and back.
use Rattle.std.proofs.Common.{◌≡◌, ◌⊎◌, ⊎_elim, inl, inr, List, [], ◌∷◌, All, Contains, Option, Some, None, Bor, true, false, true≢false, ◌==◌, ◌∙◌, ap, refl, sym, subst, arith, ◌++◌}
use Rattle.std.proofs.lemmas.List.Elements.{All-contains, All-from_recursion, Contains-append_cases, Contains-append_left, Contains-append_right}
use Rattle.std.specs.List.{AllByRecursion}
use Rattle.std.specs.Option.{option_copied}
use Rattle.std.proofs.lemmas.Bool.Decides.{Decides-eqb}
use Rattle.emc_base.proofs.Lists.{only_member}
use Rattle.edm_types.specs.Types.{TypeId}
use Rattle.edm_types.specs.declared.model.TypeNode.{TypeNode}
use Rattle.edm_types.specs.Forest.{node_type, nodes_below, IsNodeOf, top, below, HasNode}
use Rattle.edm_types.specs.Marks.{IsNodeFor}

-- ids with one number are one
pub same_id : (t u : TypeId) → (t.index == u.index) ≡ true → t ≡ u
same_id t u is = let at : t.index ≡ u.index = (Decides-eqb t.index u.index).0 is in λ i. record { index = at i }

pub other_id : (t u : TypeId) → (t.index == u.index) ≡ false → ¬ (t ≡ u)
other_id t u differs is = true≢false (sym ((Decides-eqb t.index u.index).1 (ap (λ id. id.index) is)) ∙ differs)

-- the one tree's top
pub only_top : (node : TypeNode) → IsNodeOf (node ∷ []) node
only_top node = top node (0, omega arith, refl)

-- what stands in trees of which each stands in others stands in those
pub among_others : (others trees : List TypeNode) → ((tree : TypeNode) → Contains trees tree → IsNodeOf others tree) → (node : TypeNode) → IsNodeOf trees node → IsNodeOf others node
among_others others trees each node (top _ has) = each node has
among_others others trees each node (below parent _ is has) = below parent node (among_others others trees each parent is) has

-- what stands in the tree of a node stands where the node does
pub in_tree_of : (trees : List TypeNode) (upper node : TypeNode) → IsNodeOf trees upper → IsNodeOf (upper ∷ []) node → IsNodeOf trees node
in_tree_of trees upper node stands is =
    let P : TypeNode → Type 0 = λ tree. IsNodeOf trees tree in
    among_others trees (upper ∷ []) (λ tree has. subst P (sym (only_member (upper ∷ []) upper tree refl has)) stands) node is

-- a node of a tree is its top, or stands below it
pub top_or_below : (upper node : TypeNode) → IsNodeOf (upper ∷ []) node → (node ≡ upper) ⊎ IsNodeOf (nodes_below upper) node
top_or_below upper node (top _ has) = inl (only_member (upper ∷ []) upper node refl has)
top_or_below upper node (below parent _ is has) =
    let P : TypeNode → Type 0 = λ above. Contains (nodes_below above) node in
    ⊎_elim (λ (one : parent ≡ upper). inr (top node (subst P one has))) (λ (deeper : IsNodeOf (nodes_below upper) parent). inr (below parent node deeper has)) (top_or_below upper parent is)

-- the tree in which a node stands
pub tree_of : (trees : List TypeNode) (node : TypeNode) → IsNodeOf trees node → (tree : TypeNode) × Contains trees tree × IsNodeOf (tree ∷ []) node
tree_of trees node (top _ has) = (node, has, only_top node)
tree_of trees node (below parent _ is has) = let tree = tree_of trees parent is in (tree.0, tree.1, below parent node tree.2 has)

-- what stands below a node stands in its tree
pub below_top : (upper node : TypeNode) → IsNodeOf (nodes_below upper) node → IsNodeOf (upper ∷ []) node
below_top upper = among_others (upper ∷ []) (nodes_below upper) (λ child has. below upper child (only_top upper) has)

module _ (t : TypeId) where
  -- a node of the type stands in one of the trees
  pub has_among : (trees : List TypeNode) (tree : TypeNode) → Contains trees tree → HasNode (tree ∷ []) t → HasNode trees t
  has_among trees tree has node = (node.0, in_tree_of trees tree node.0 (top tree has) node.1, node.2)

  pub among_tree : (trees : List TypeNode) → HasNode trees t → (tree : TypeNode) × Contains trees tree × HasNode (tree ∷ []) t
  among_tree trees node = let tree = tree_of trees node.0 node.1 in (tree.0, tree.1, (node.0, tree.2, node.2))

  -- a node in some trees or in others
  pub has_append : (trees others : List TypeNode) → HasNode (trees ++ others) t → HasNode trees t ⊎ HasNode others t
  has_append trees others node =
      let tree = among_tree (trees ++ others) node in
      ⊎_elim (λ (has : Contains trees tree.0). inl (has_among trees tree.0 has tree.2)) (λ (has : Contains others tree.0). inr (has_among others tree.0 has tree.2))
      (Contains-append_cases trees others tree.0 tree.1)

  pub has_first : (trees others : List TypeNode) → HasNode trees t → HasNode (trees ++ others) t
  has_first trees others node = let tree = among_tree trees node in has_among (trees ++ others) tree.0 (Contains-append_left trees others tree.0 tree.1) tree.2

  pub has_last : (trees others : List TypeNode) → HasNode others t → HasNode (trees ++ others) t
  has_last trees others node = let tree = among_tree others node in has_among (trees ++ others) tree.0 (Contains-append_right trees others tree.0 tree.1) tree.2

  -- the top of a tree, or one below it, is of the type
  pub has_below : (tree : TypeNode) → HasNode (nodes_below tree) t → HasNode (tree ∷ []) t
  has_below tree node = (node.0, below_top tree node.0 node.1, node.2)

  pub has_top_or_below : (tree : TypeNode) → HasNode (tree ∷ []) t → (node_type tree ≡ t) ⊎ HasNode (nodes_below tree) t
  has_top_or_below tree node =
      let P : TypeNode → Type 0 = λ other. node_type other ≡ t in
      ⊎_elim (λ (one : node.0 ≡ tree). inl (subst P one node.2)) (λ (deeper : IsNodeOf (nodes_below tree) node.0). inr (node.0, deeper, node.2)) (top_or_below tree node.0 node.1)

  -- no tree has one
  pub none_among : (trees : List TypeNode) → All (λ tree. ¬ HasNode (tree ∷ []) t) trees → ¬ HasNode trees t
  none_among trees none node =
      let tree = among_tree trees node in
      let None_in : TypeNode → Type 0 = λ other. ¬ HasNode (other ∷ []) t in
      All-contains None_in trees tree.0 none tree.1 tree.2

  pub none_empty : ¬ HasNode [] t
  none_empty = none_among [] (λ k d within. absurd (omega arith))

  pub none_in : (tree : TypeNode) → ¬ (node_type tree ≡ t) → All (λ child. ¬ HasNode (child ∷ []) t) (nodes_below tree) → ¬ HasNode (tree ∷ []) t
  none_in tree differs none node = ⊎_elim (λ (is : node_type tree ≡ t). differs is) (none_among (nodes_below tree) none) (has_top_or_below tree node)

  -- what was found in one of the trees was found among them
  pub found_among : (trees : List TypeNode) (tree node : TypeNode) → Contains trees tree → IsNodeFor (tree ∷ []) t (Some node) → IsNodeFor trees t (Some node)
  found_among trees tree node has is = (in_tree_of trees tree node (top tree has) is.0, is.1)

  -- what was found below a node was found in its tree
  pub found_below : (tree node : TypeNode) → IsNodeFor (nodes_below tree) t (Some node) → IsNodeFor (tree ∷ []) t (Some node)
  found_below tree node is = (below_top tree node is.0, is.1)

  -- none was found
  pub not_found : (trees : List TypeNode) (found : Option (Bor TypeNode)) → ((node : Bor TypeNode) → ¬ (found ≡ Some node)) → IsNodeFor trees t (option_copied found) → ¬ HasNode trees t
  not_found trees None other none = none
  not_found trees (Some node) other is = absurd (other node refl)

-- the listed nodes are all that stand in the trees, if they hold the trees and what is below each of them
pub each_node : (P : TypeNode → Type 0) (trees nodes : List TypeNode) → AllByRecursion (Contains nodes) trees
    → AllByRecursion (λ node. AllByRecursion (Contains nodes) (nodes_below node)) nodes → AllByRecursion P nodes
    → (node : TypeNode) → IsNodeOf trees node → P node
each_node P trees nodes tops lower holds node stands = among_each P nodes node holds (among node stands)
  where
    among_each : (Q : TypeNode → Type 0) (xs : List TypeNode) (x : TypeNode) → AllByRecursion Q xs → Contains xs x → Q x
    among_each Q xs x all has = All-contains Q xs x (All-from_recursion Q xs all) has

    among : (n : TypeNode) → IsNodeOf trees n → Contains nodes n
    among n (top _ has) = among_each (Contains nodes) trees n tops has
    among n (below parent _ above has) =
        among_each (Contains nodes) (nodes_below parent) n (among_each (λ m. AllByRecursion (Contains nodes) (nodes_below m)) nodes parent lower (among parent above)) has
