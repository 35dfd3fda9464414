use Rattle.std.proofs.Common.{◌≡◌, map, take}
use Rattle.json_form.specs.Nodes.{part_of}
use Rattle.data_documents.specs.entity_documents.States.{value_at}
use Rattle.data_documents.proofs.entity_documents.read.values_in.Given as goal

-- the values of the properties that were passed
abbrev pub invariant-loop-prop : goal.invariant-loop-prop
invariant-loop-prop l = l.values ≡ map (value_at l.model (part_of l.node)) (take l.prop-index l.props)
