use Rattle.std.proofs.Common.{◌≡◌, map, take}
use Rattle.query_cases.specs.case_reading.Noted.{source_by}
use Rattle.query_cases.proofs.case_reading.making.sources_of.Given as goal

-- the sources of the properties so far have come
abbrev pub invariant-loop-property : goal.invariant-loop-property
invariant-loop-property l = l.sources ≡ map (source_by l.atoms l.firsts) (take l.property-index l.props)
