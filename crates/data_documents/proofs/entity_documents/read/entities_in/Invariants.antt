use Rattle.std.proofs.Common.{◌≡◌, map, take}
use Rattle.json_form.specs.Nodes.{part_of}
use Rattle.data_documents.specs.entity_documents.States.{entities_of}
use Rattle.data_documents.proofs.entity_documents.read.entities_in.Given as goal

-- the entities of the sets that were passed
abbrev pub invariant-loop-set : goal.invariant-loop-set
invariant-loop-set l = l.lists.items ≡ map (entities_of l.names.model.now (part_of l.node)) (take l.set-index l.set-items)
