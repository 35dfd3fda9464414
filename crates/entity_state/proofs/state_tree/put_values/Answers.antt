use Rattle.std.proofs.Common.{arith, ◌∙◌, sym, ap, map, ⊎_elim}
use Rattle.std.proofs.lemmas.Grind.{common_steps}
use Rattle.serde_json.specs.View.{members_view}
use Rattle.json_form.specs.Trees.{put_all}
use Rattle.entity_state.specs.StateTree.{named_value}
use Rattle.emc_base.proofs.Mapped.{zip-no_first, zip-no_second}
use Rattle.entity_state.proofs.state_tree.put_values.Goals as goal

pub returns : goal.returns
returns c =
    let rest = c.loop-prop.prop-iterator in
    ap (λ left. put_all (members_view c.loop-prop.members.entries) (map (named_value c.args.model.now) left)) (sym (⊎_elim
    (λ first. zip-no_first rest.a.rest.now rest.b.rest.now first.1.0)
    (λ second. zip-no_second rest.a.rest.now rest.b.rest.now second.1.0)
    c.in-None.ensures.steps))
    ∙ c.loop-prop.invariant

pub loop-prop-preserved : goal.loop-prop-preserved
loop-prop-preserved c = grind (arith, common_steps)
