use Rattle.std.proofs.Common.{◌≡◌, map, take}
use Rattle.serde_json.specs.View.{view}
use Rattle.data_documents.specs.entity_documents.States.{link_in}
use Rattle.data_documents.proofs.entity_documents.read.stored_links.Given as goal

-- the items that were passed, as links
abbrev pub invariant-loop-item : goal.invariant-loop-item
invariant-loop-item l = l.links ≡ map (λ item. link_in l.model l.assoc (view item)) (take l.item-index l.items)
