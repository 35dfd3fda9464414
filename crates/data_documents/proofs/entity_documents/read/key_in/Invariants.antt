use Rattle.std.proofs.Common.{◌≡◌, map, take}
use Rattle.std.specs.List.{enumerate_from}
use Rattle.json_form.specs.Nodes.{part_of}
use Rattle.data_documents.specs.entity_documents.States.{part_at}
use Rattle.data_documents.proofs.entity_documents.read.key_in.Given as goal

-- the values beside the properties that were passed
abbrev pub invariant-loop-place : goal.invariant-loop-place
invariant-loop-place l = l.key ≡ map (part_at l.model (part_of l.node)) (take l.place (enumerate_from 0 l.props))
