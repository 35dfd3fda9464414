use Rattle.std.proofs.Common.{◌++◌, [], ◌∷◌, map, filter, take, Some, ap, sym, ◌∙◌}
use Rattle.std.proofs.lemmas.List.{map-append}
use Rattle.std.proofs.lemmas.Option.{slice_get-get_or}
use Rattle.serde_json.specs.View.{view}
use Rattle.emc_base.specs.Lists.{At}
use Rattle.json_form.specs.Trees.{value_tree}
use Rattle.round_trip.specs.Words.{Value}
use Rattle.regions.specs.Fitting.{fits}
use Rattle.region_partition.proofs.region_lists.Fitting.{fitting_kept, fitting_left}
use Rattle.symbolic_rows.proofs.Behind.{behind}
use Rattle.texts.proofs.case_texts.atom_trees.fitting_trees.Goals as goal
use Rattle.texts.proofs.case_texts.atom_trees.fitting_trees.Goals.{then-in_domain+in_ok-value_tree+in_ok-push, else-in_domain}

pub loop-value-preserved : goal.loop-value-preserved
loop-value-preserved c =
    let kind = c.args.kind.now in
    let i = c.loop-value.value-index in
    let items = c.args.values.now in
    let value : Value = c.value-item.result in
    let here : At items i value = slice_get-get_or items i value c.loop-value-test.true ∙ ap Some (sym c.value-item.is) in
    let before = filter (λ one. fits one kind) (take i items) in
    elim c.if-in_domain.branch [
      | then-in_domain+in_ok-value_tree+in_ok-push w ↦
          behind view c.loop-value.trees.items c.if-in_domain.trees.items w.in_ok-value_tree.field-0 (value_tree value)
          (ap (λ made. made.items) w.trees-is ∙ w.in_ok-push.ensures.items) w.in_ok-value_tree.ensures
          ∙ ap (λ made. made ++ value_tree value ∷ []) c.loop-value.invariant
          ∙ sym (ap (map value_tree) (fitting_kept kind items i value here c.in_domain.result c.in_domain.ensures w.if-in_domain.true) ∙ map-append value_tree before (value ∷ []))
      | else-in_domain w ↦
          ap (λ made. map view made.items) w.trees-is
          ∙ c.loop-value.invariant
          ∙ ap (map value_tree) (sym (fitting_left kind items i value here c.in_domain.result c.in_domain.ensures w.if-in_domain.false))
    ]
