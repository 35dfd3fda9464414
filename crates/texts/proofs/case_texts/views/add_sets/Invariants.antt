use Rattle.std.proofs.Common.{◌≡◌, ◌++◌, flat_map, map, zip}
use Rattle.json_form.specs.Documents.{printed}
use Rattle.texts.specs.case_texts.Views.{set_tree}
use Rattle.texts.proofs.case_texts.views.add_sets.Given as goal

-- with the lines of those that are left all lines come
abbrev pub invariant-loop-set : goal.invariant-loop-set
invariant-loop-set l = l.text.items ++ flat_map printed (map (set_tree l.parts) (zip l.set-iterator.a.rest.now l.set-iterator.b.rest.now))
    ≡ l.initial.text.items ++ flat_map printed (map (set_tree l.parts) (zip l.parts.model.now.sets l.cases))
