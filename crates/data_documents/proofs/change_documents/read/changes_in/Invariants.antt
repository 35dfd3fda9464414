use Rattle.std.proofs.Common.{◌≡◌, map, take}
use Rattle.serde_json.specs.View.{view}
use Rattle.data_documents.specs.change_documents.Changes.{change_in}
use Rattle.data_documents.proofs.change_documents.read.changes_in.Given as goal

-- the items that were passed, as changes
abbrev pub invariant-loop-item : goal.invariant-loop-item
invariant-loop-item l = l.changes ≡ map (λ item. change_in l.names.model.now (view item)) (take l.item-index l.item-items)
