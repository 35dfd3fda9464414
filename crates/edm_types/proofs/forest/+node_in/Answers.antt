use Rattle.std.proofs.Common.{[], ◌∷◌, List, All, Contains, sym, ◌∙◌, subst}
use Rattle.std.proofs.lemmas.List.{take_all}
use Rattle.std.proofs.lemmas.List.Elements.{All-more}
use Rattle.edm_types.specs.declared.model.TypeNode.{TypeNode}
use Rattle.edm_types.specs.Forest.{HasNode, node_type, nodes_below}
use Rattle.edm_types.proofs.Nodes.{only_top, same_id, other_id, found_among, found_below, none_in, not_found}
use Rattle.edm_types.proofs.forest.+node_in.Goals as goal

pub returns-then-eq : goal.returns-then-eq
returns-then-eq t c = (only_top c.args.tree.now, same_id (node_type c.args.tree.now) c.args.t (sym c.eq.ensures ∙ c.if-eq.true))

pub returns-in-Some : goal.returns-in-Some
returns-in-Some t c =
    let Among : List TypeNode → Type 0 = λ trees. Contains trees c.child-item.result in
    found_below c.args.t c.args.tree.now c.in-Some.found.now (found_among c.args.t (nodes_below c.args.tree.now) c.child-item.result c.in-Some.found.now
    (subst Among c.as_slice-child-items.ensures.items (c.loop-child.child-index, c.loop-child-test.true, sym c.child-item.is)) c.in-Some.ensures)

pub loop-child-preserved : goal.loop-child-preserved
loop-child-preserved t c =
    let Without : TypeNode → Type 0 = λ child. ¬ HasNode (child ∷ []) c.args.t in
    All-more Without c.as_slice-child-items.result.now c.loop-child.child-index c.child-item.result c.loop-child-test.true c.loop-child.invariant
    (subst Without c.child-item.is (not_found c.args.t (c.child-item.result ∷ []) c.node_in.result c.in_default.not-Some c.node_in.ensures))

pub returns : goal.returns
returns t c =
    let Without : List TypeNode → Type 0 = λ trees. All (λ child. ¬ HasNode (child ∷ []) c.args.t) trees in
    none_in c.args.t c.args.tree.now (other_id (node_type c.args.tree.now) c.args.t (sym c.eq.ensures ∙ c.if-eq.false))
    (subst Without (take_all c.loop-child.child-index c.as_slice-child-items.result.now c.loop-child-test.false ∙ c.as_slice-child-items.ensures.items) c.loop-child.invariant)
