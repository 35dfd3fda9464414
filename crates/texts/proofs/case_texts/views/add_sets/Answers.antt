use Rattle.std.proofs.Common.{◌++◌, append-nil, flat_map, map, ap, sym, ⊎_elim, ◌∙◌}
use Rattle.serde_json.specs.Written.{has_float}
use Rattle.json_form.specs.Documents.{printed}
use Rattle.emc_base.proofs.Mapped.{zip-no_first, zip-no_second}
use Rattle.texts.specs.case_texts.Views.{set_tree}
use Rattle.texts.proofs.case_texts.Plain.{set_tree-plain}
use Rattle.texts.proofs.case_texts.views.add_sets.Goals as goal

pub add_line-requires : goal.add_line-requires
add_line-requires c = ap has_float c.in_ok-tree.ensures ∙ set_tree-plain c.args.parts.now c.in-Some.set.now c.as_slice-in-loop-set.result.now

pub returns : goal.returns
returns c =
    let rest = c.loop-set.set-iterator in
    let text = c.loop-set.text.items in
    sym (append-nil text)
    ∙ ap (λ left. text ++ flat_map printed (map (set_tree c.args.parts.now) left)) (sym (⊎_elim
    (λ first. zip-no_first rest.a.rest.now rest.b.rest.now first.1.0)
    (λ second. zip-no_second rest.a.rest.now rest.b.rest.now second.1.0)
    c.in-None.ensures.steps))
    ∙ c.loop-set.invariant
