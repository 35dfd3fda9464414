use Rattle.std.proofs.Common.{◌≡◌, map, take}
use Rattle.serde_json.specs.View.{view}
use Rattle.data_documents.specs.entity_documents.States.{entity_in}
use Rattle.data_documents.proofs.entity_documents.read.entities_of.Given as goal

-- the items that were passed, as entities
abbrev pub invariant-loop-item : goal.invariant-loop-item
invariant-loop-item l = l.entities ≡ map (λ item. entity_in l.names.model.now (view item)) (take l.item-index l.item-items)
