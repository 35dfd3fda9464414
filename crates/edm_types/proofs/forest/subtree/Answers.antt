use Rattle.std.proofs.Common.{◌≡◌, List, [], ◌∷◌, map, length, replicate, Bool, false, ap, sym, subst, ◌∙◌}
use Rattle.std.proofs.lemmas.Result.{IfOk-weaker}
use Rattle.emc_base.specs.Lists.{places_of}
use Rattle.edm_types.specs.declared.model.TypeNode.{TypeNode}
use Rattle.edm_types.specs.Types.{TypeId}
use Rattle.edm_types.specs.Forest.{HasNode, IsNodeOf, IsSubtree, type_numbered}
use Rattle.edm_types.specs.Marks.{AddsMarks}
use Rattle.edm_types.proofs.Nodes.{not_found}
use Rattle.edm_types.proofs.Derived.{subtree_found, subtree_none}
use Rattle.edm_types.proofs.forest.subtree.Goals as goal
use Rattle.edm_types.proofs.forest.subtree.Goals.{in-Some, in_default}

pub returns : goal.returns
returns c =
    let model = c.args.model.now in
    let t = c.args.t in
    let Listed : List Bool → Type 0 = λ marks. IsSubtree model t (map type_numbered (places_of (λ mark. mark) marks)) in
    let first : c.in_ok-marks.marks.items ≡ replicate (length model.types) false = c.in_ok-marks.ensures.items_if_clones_equal (λ y is. is) ∙ ap (λ n. replicate n false) c.len.ensures.count in
    let listed : Listed c.as_slice-2.result.now = subst Listed (sym c.as_slice-2.ensures.value) (elim c.match-node_among.branch [
      | in-Some w ↦
          let Stands : List TypeNode → Type 0 = λ trees. IsNodeOf trees w.in-Some.node.now in
          let Marked : List Bool → Type 0 = λ before. AddsMarks (λ i. HasNode (w.in-Some.node.now ∷ []) (type_numbered i)) before w.mark_all.new.marks.items in
          subst Listed (sym (ap (λ marks. marks.items) w.marks-is)) (subtree_found model c.requires.forest t w.in-Some.node.now w.mark_all.new.marks.items
          (subst Stands c.as_slice.ensures.items w.in-Some.ensures.0, w.in-Some.ensures.1) (subst Marked first w.mark_all.ensures))
      | in_default w ↦
          let Without : List TypeNode → Type 0 = λ trees. ¬ HasNode trees t in
          let none = subst Without c.as_slice.ensures.items (not_found t c.as_slice.result.now c.node_among.result w.in_default.not-Some c.node_among.ensures) in
          subst Listed (sym (ap (λ marks. marks.items) w.marks-is ∙ first)) (subtree_none model c.requires.forest c.requires.whole t none)
    ]) in
    let Is : List TypeId → Type 0 = λ types. IsSubtree model t types in
    let Same : List TypeId → Type 0 = λ types. types ≡ map type_numbered (places_of (λ mark. mark) c.as_slice-2.result.now) in
    IfOk-weaker c.marked_types.result Same Is (λ types is. subst Is (sym is) listed) c.marked_types.ensures
