-- What a check tells of limits that it looks at one after another.
use Rattle.std.proofs.Common.{◌≡◌, List, Result, Ok, Err, Some, IsErr, slice_get, ap, sym, ◌∙◌}
use Rattle.std.specs.Bool.{⊤}
use Rattle.std.specs.Result.{IsErrAnd}
use Rattle.round_trip.specs.Words.{LimitFault}
use Rattle.region_partition.specs.declared.mapping_limits.passed.Passed.{Passed}
use Rattle.region_partition.specs.mapping_limits.Checked.{TellsFirst, fault_of}

-- an error that is handed on tells the same limit
pub handed_on : (limits : List LimitFault) (found : Passed) (result : Result ⊤ Passed) → IsErr result × IsErrAnd result (λ other. other ≡ found)
    → slice_get limits 0 ≡ Some (fault_of found) → TellsFirst limits result
handed_on limits found (Ok done) is first = absurd cc
handed_on limits found (Err other) is first = first ∙ ap (λ one. Some (fault_of one)) (sym is.1)
