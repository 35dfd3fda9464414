use Rattle.std.proofs.Common.{[], ◌∷◌, map, refl, ap, ◌∙◌}
use Rattle.std.proofs.lemmas.List.{map-append, take_all}
use Rattle.std.proofs.lemmas.Option.{slice_get_read}
use Rattle.emc_base.proofs.Turns.{mapped_more}
use Rattle.json_form.specs.Trees.{array_of}
use Rattle.region_states.specs.region_basis.BasisOf.{basis_of}
use Rattle.serde_json.specs.View.{view}
use Rattle.texts.specs.case_texts.CaseTree.{case_tree}
use Rattle.texts.proofs.case_texts.case_trees.cases_tree.Goals as goal

pub loop-case-preserved : goal.loop-case-preserved
loop-case-preserved c =
    let i = c.loop-case.case-index in
    let tree = c.in_ok-case_tree.field-0 in
    ap (map view) c.in_ok-push.ensures.items ∙ map-append view c.loop-case.trees.items (tree ∷ [])
    ∙ mapped_more (case_tree (basis_of c.args.parts.now)) c.args.cases.now i c.case-item.result (map view c.loop-case.trees.items) (view tree) c.loop-case.invariant
    (slice_get_read _ _ i _ refl c.loop-case-test.true c.case-item.is) c.in_ok-case_tree.ensures

pub returns : goal.returns
returns c = c.array_tree.ensures ∙ ap array_of (c.loop-case.invariant
    ∙ ap (map (case_tree (basis_of c.args.parts.now))) (take_all c.loop-case.case-index c.args.cases.now c.loop-case-test.false))
