use Rattle.std.proofs.Common.{◌∙◌, ap, subst, sym}
use Rattle.serde_json.specs.Written.{has_float}
use Rattle.entity_state.specs.InOrder.{lent_state}
use Rattle.entity_state.specs.Tells.{TellsState}
use Rattle.entity_state.proofs.Listed.{sorted_is_state}
use Rattle.entity_state.proofs.Plain.{state_tree-plain}
use Rattle.entity_state.proofs.Told.{tells_state}
use Rattle.entity_state.proofs.state.EntityState.to_doc.Goals as goal

pub state_tree-requires : goal.state_tree-requires
state_tree-requires c = sorted_is_state c.args.model.now c.args.self.now (lent_state c.in_ok-sorted.sorted) c.in_ok-sorted.ensures c.requires

pub returns-clause-tree : goal.returns-clause-tree
returns-clause-tree c =
    let model = c.args.model.now in
    let sorted = lent_state c.in_ok-sorted.sorted in
    let is = c.of_tree.ensures ∙ c.in_ok-tree.ensures in
    record {
      sorted = sorted;
      order = c.in_ok-sorted.ensures;
      is = is;
      tells = λ apart. subst (TellsState model sorted) (sym is) (tells_state model sorted apart (sorted_is_state model c.args.self.now sorted c.in_ok-sorted.ensures c.requires));
    }

pub returns-clause-plain : goal.returns-clause-plain
returns-clause-plain c = ap has_float (c.of_tree.ensures ∙ c.in_ok-tree.ensures) ∙ state_tree-plain c.args.model.now (lent_state c.in_ok-sorted.sorted)
