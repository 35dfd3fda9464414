use Rattle.std.proofs.Common.{[], ◌∷◌, List, All, sym, subst}
use Rattle.std.proofs.lemmas.List.{take_all}
use Rattle.std.proofs.lemmas.List.Elements.{All-more}
use Rattle.edm_types.specs.declared.model.TypeNode.{TypeNode}
use Rattle.edm_types.specs.Forest.{HasNode}
use Rattle.edm_types.proofs.Nodes.{found_among, none_among, not_found}
use Rattle.edm_types.proofs.forest.node_among.Goals as goal

pub returns-in-Some : goal.returns-in-Some
returns-in-Some c =
    found_among c.args.t c.args.trees.now c.tree-item.result c.in-Some.node.now (c.loop-tree.tree-index, c.loop-tree-test.true, sym c.tree-item.is) c.in-Some.ensures

pub loop-tree-preserved : goal.loop-tree-preserved
loop-tree-preserved c =
    let Without : TypeNode → Type 0 = λ tree. ¬ HasNode (tree ∷ []) c.args.t in
    All-more Without c.args.trees.now c.loop-tree.tree-index c.tree-item.result c.loop-tree-test.true c.loop-tree.invariant
    (subst Without c.tree-item.is (not_found c.args.t (c.tree-item.result ∷ []) c.node_in.result c.in_default.not-Some c.node_in.ensures))

pub returns : goal.returns
returns c =
    let Without : List TypeNode → Type 0 = λ trees. All (λ tree. ¬ HasNode (tree ∷ []) c.args.t) trees in
    none_among c.args.t c.args.trees.now (subst Without (take_all c.loop-tree.tree-index c.args.trees.now c.loop-tree-test.false) c.loop-tree.invariant)
