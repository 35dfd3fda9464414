use Rattle.std.proofs.Common.{◌≡◌, map, zip}
use Rattle.serde_json.specs.View.{members_view}
use Rattle.json_form.specs.Trees.{put_all}
use Rattle.entity_state.specs.StateTree.{named_value}
use Rattle.entity_state.proofs.state_tree.put_values.Given as goal

abbrev pub invariant-loop-prop : goal.invariant-loop-prop
invariant-loop-prop l = put_all (members_view l.members.entries) (map (named_value l.model) (zip l.prop-iterator.a.rest.now l.prop-iterator.b.rest.now))
    ≡ put_all (members_view l.initial.members.entries) (map (named_value l.model) (zip l.props l.values))
