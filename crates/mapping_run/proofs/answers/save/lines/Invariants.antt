use Rattle.std.proofs.Common.{◌≡◌, flat_map, take}
use Rattle.texts.specs.change_texts.Texts.{row_change_text}
use Rattle.mapping_run.proofs.answers.save.lines.Given as goal

-- the lines of the changes that were passed
abbrev pub invariant-loop-change : goal.invariant-loop-change
invariant-loop-change l = l.text.items ≡ flat_map (row_change_text l.schema.store) (take l.change-index l.changes)
