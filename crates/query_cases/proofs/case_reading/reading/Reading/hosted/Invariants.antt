use Rattle.std.proofs.Common.{◌≡◌, map, take}
use Rattle.case_laws.specs.candidates.Rows.{shown_rows}
use Rattle.query_cases.specs.case_reading.Links.{read_link}
use Rattle.query_cases.proofs.case_reading.reading.Reading.hosted.Given as goal

-- the links so far have come
abbrev pub invariant-loop-link : goal.invariant-loop-link
invariant-loop-link l = l.links ≡ map (read_link (shown_rows l.rows)) (take l.link-index l.self.links)
