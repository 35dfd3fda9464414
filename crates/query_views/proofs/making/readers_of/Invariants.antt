use Rattle.std.proofs.Common.{take}
use Rattle.std.specs.List.{AllZip}
use Rattle.region_states.specs.region_basis.BasisOf.{basis_of}
use Rattle.query_views.specs.Views.{IsReaderOf}
use Rattle.query_views.proofs.making.readers_of.Given as goal

-- the readers of the sets so far have come
abbrev pub invariant-loop-of_set : goal.invariant-loop-of_set
invariant-loop-of_set l = AllZip (IsReaderOf (basis_of l.parts)) (take l.of_set-index l.cases) l.readers
