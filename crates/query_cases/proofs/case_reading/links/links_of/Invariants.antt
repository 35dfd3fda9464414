use Rattle.std.proofs.Common.{take}
use Rattle.std.specs.List.{AllZip}
use Rattle.region_states.specs.region_basis.BasisOf.{basis_of}
use Rattle.query_cases.specs.case_reading.Links.{IsLinkReading}
use Rattle.query_cases.proofs.case_reading.links.links_of.Given as goal

-- the links so far are read
abbrev pub invariant-loop-assoc : goal.invariant-loop-assoc
invariant-loop-assoc l = AllZip (IsLinkReading (basis_of l.parts) l.case) (take l.assoc-index l.case.region.linked) l.links
