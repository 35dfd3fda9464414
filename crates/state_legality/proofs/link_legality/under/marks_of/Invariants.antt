use Rattle.std.proofs.Common.{false, replicate}
use Rattle.edm_types.specs.Marks.{AddsMarks}
use Rattle.state_legality.proofs.link_legality.Marked.{PassedTo}
use Rattle.state_legality.proofs.link_legality.under.marks_of.Given as goal

-- the places of the types that were passed are marked
abbrev pub invariant-loop-t : goal.invariant-loop-t
invariant-loop-t l = AddsMarks (PassedTo l.types l.t-index) (replicate l.count false) l.marks.items
