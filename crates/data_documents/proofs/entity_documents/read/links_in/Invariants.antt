use Rattle.std.proofs.Common.{◌≡◌, map, take}
use Rattle.json_form.specs.Nodes.{part_of}
use Rattle.data_documents.specs.entity_documents.States.{links_of}
use Rattle.data_documents.proofs.entity_documents.read.links_in.Given as goal

-- the links of the association sets that were passed
abbrev pub invariant-loop-assoc : goal.invariant-loop-assoc
invariant-loop-assoc l = l.lists.items ≡ map (links_of l.model (part_of l.node)) (take l.assoc-index l.assoc-items)
