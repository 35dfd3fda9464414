use Rattle.std.proofs.Common.{◌≡◌, ◌++◌, flat_map, take}
use Rattle.std.specs.List.{enumerate_from}
use Rattle.json_form.specs.Documents.{printed}
use Rattle.texts.specs.case_texts.Views.{joined_at}
use Rattle.texts.proofs.case_texts.views.add_links.Given as goal

-- the lines of the associations so far have come
abbrev pub invariant-loop-index : goal.invariant-loop-index
invariant-loop-index l = l.text.items ≡ l.initial.text.items ++ flat_map printed (flat_map (joined_at l.parts) (take l.index (enumerate_from 0 l.parts.model.now.assocs)))
