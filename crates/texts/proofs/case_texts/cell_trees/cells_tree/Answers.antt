use Rattle.std.proofs.Common.{◌∙◌, sym, ap, map, ⊎_elim}
use Rattle.serde_json.specs.Data.{object}
use Rattle.serde_json.specs.View.{members_view}
use Rattle.json_form.specs.Trees.{put_all}
use Rattle.emc_base.proofs.Mapped.{zip-no_first, zip-no_second}
use Rattle.texts.specs.case_texts.CaseTree.{column_member}
use Rattle.texts.proofs.case_texts.cell_trees.cells_tree.Goals as goal

pub returns : goal.returns
returns c =
    let rest = c.loop-column.column-iterator in
    c.object_tree.ensures
    ∙ ap object (ap (λ left. put_all (members_view c.loop-column.members.entries) (map (column_member c.args.model.now) left)) (sym (⊎_elim
    (λ first. zip-no_first rest.a.rest.now rest.b.rest.now first.1.0)
    (λ second. zip-no_second rest.a.rest.now rest.b.rest.now second.1.0)
    c.in-None.ensures.steps))
    ∙ c.loop-column.invariant)
