use Rattle.std.proofs.Common.{take}
use Rattle.query_cases.specs.case_reading.Noted.{AreNoted}
use Rattle.query_cases.proofs.case_reading.making.twins_of.Given as goal

-- the cells so far are noted
abbrev pub invariant-loop-property : goal.invariant-loop-property
invariant-loop-property l = AreNoted (take l.property-index l.property-items) l.firsts l.twins
