use Rattle.std.proofs.Common.{take}
use Rattle.std.specs.List.{AllZip}
use Rattle.query_cases.specs.case_reading.Links.{IsPartPlace}
use Rattle.query_cases.proofs.case_reading.links.part_places.Given as goal

-- the places of the parts so far have come
abbrev pub invariant-loop-property : goal.invariant-loop-property
invariant-loop-property l = AllZip (IsPartPlace l.case l.assoc) (take l.property-index l.key) l.places
