use Rattle.std.proofs.Common.{◌≡◌, map, take}
use Rattle.case_laws.specs.candidates.Rows.{shown_rows}
use Rattle.query_cases.specs.case_reading.Sources.{source_value}
use Rattle.query_cases.proofs.case_reading.reading.Reading.entity.Given as goal

-- the values so far have come
abbrev pub invariant-loop-source : goal.invariant-loop-source
invariant-loop-source l = l.values ≡ map (source_value (shown_rows l.rows)) (take l.source-index l.self.values)
