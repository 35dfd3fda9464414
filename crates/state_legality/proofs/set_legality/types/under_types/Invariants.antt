use Rattle.std.proofs.Common.{length, replicate, false}
use Rattle.edm_types.specs.Marks.{AddsMarks}
use Rattle.state_legality.proofs.set_legality.Marking.{HasPlace}
use Rattle.state_legality.proofs.set_legality.types.under_types.Given as goal

-- the types that were passed are marked
abbrev pub invariant-loop-ty : goal.invariant-loop-ty
invariant-loop-ty l = AddsMarks (HasPlace l.list l.ty-index) (replicate (length l.model.types) false) l.marks.items
