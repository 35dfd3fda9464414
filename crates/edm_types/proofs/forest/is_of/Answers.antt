use Rattle.std.proofs.Common.{List, ap, sym, subst, ◌∙◌}
use Rattle.std.proofs.lemmas.Bool.Decides.{Decides-eqb}
use Rattle.edm_types.specs.declared.model.TypeNode.{TypeNode}
use Rattle.edm_types.specs.Types.{TypeId}
use Rattle.edm_types.specs.Forest.{HasNode, IsNodeOf}
use Rattle.edm_types.specs.IsA.{IsA, same}
use Rattle.edm_types.proofs.Nodes.{same_id}
use Rattle.edm_types.proofs.Derived.{tree_holds, alone_without}
use Rattle.edm_types.proofs.forest.is_of.Goals as goal

pub returns-in-Some : goal.returns-in-Some
returns-in-Some c =
    let Stands : List TypeNode → Type 0 = λ trees. IsNodeOf trees c.in-Some.node.now in
    let stands = subst Stands c.as_slice.ensures.items c.in-Some.ensures.0 in
    let holds = tree_holds c.args.model.now c.requires.forest c.args.t c.args.u c.in-Some.node.now (stands, c.in-Some.ensures.1) in
    (λ has. holds.0 (c.has_node.ensures.0 has), λ derived. c.has_node.ensures.1 (holds.1 derived))

pub returns-in-None : goal.returns-in-None
returns-in-None c =
    let Without : List TypeNode → Type 0 = λ trees. ¬ HasNode trees c.args.u in
    let none = subst Without c.as_slice.ensures.items c.in-None.ensures in
    let Over : TypeId → Type 0 = λ u. IsA c.args.model.now c.args.t u in (
      λ equal. subst Over (same_id c.args.t c.args.u (sym c.eq.ensures ∙ equal)) (same c.args.t),
      λ derived. c.eq.ensures ∙ (Decides-eqb c.args.t.index c.args.u.index).1
          (ap (λ (id : TypeId). id.index) (alone_without c.args.model.now c.requires.forest c.requires.whole c.args.t c.args.u none derived)),
    )
