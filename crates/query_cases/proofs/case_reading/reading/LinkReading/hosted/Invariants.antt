use Rattle.std.proofs.Common.{◌≡◌, map, take}
use Rattle.case_laws.specs.candidates.Rows.{shown_rows}
use Rattle.query_cases.specs.case_reading.Sources.{cell_at}
use Rattle.query_cases.proofs.case_reading.reading.LinkReading.hosted.Given as goal

-- the parts so far have come
abbrev pub invariant-loop-place : goal.invariant-loop-place
invariant-loop-place l = l.partner ≡ map (cell_at (shown_rows l.rows)) (take l.place-index l.self.parts)
