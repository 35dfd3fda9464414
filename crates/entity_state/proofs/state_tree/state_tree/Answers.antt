use Rattle.std.proofs.Common.{◌∙◌, ap, sym}
use Rattle.serde_json.specs.Data.{object, no_members}
use Rattle.serde_json.specs.View.{members_view}
use Rattle.json_form.specs.Trees.{put_all}
use Rattle.json_form.proofs.Members.{put_all-both}
use Rattle.entity_state.specs.InOrder.{lent_state}
use Rattle.entity_state.specs.StateTree.{assoc_members, set_members}
use Rattle.entity_state.proofs.state_tree.state_tree.Goals as goal

pub returns : goal.returns
returns c =
    let state = lent_state c.args.sorted.now in
    let sets = set_members c.args.model.now state in
    let assocs = assoc_members c.args.model.now state in
    c.object_tree.ensures ∙ ap object (c.in_ok-put_assocs.ensures
    ∙ ap (λ members. put_all members assocs) (c.in_ok-put_sets.ensures ∙ ap (λ entries. put_all (members_view entries) sets) c.new-members.ensures.empty)
    ∙ sym (put_all-both no_members sets assocs))
