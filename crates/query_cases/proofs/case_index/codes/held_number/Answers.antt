use Rattle.std.proofs.Common.{ap, ◌∙◌}
use Rattle.std.specs.Option.{unwrap_or}
use Rattle.round_trip.specs.Words.{Null}
use Rattle.query_cases.specs.case_index.Codes.{number_in}
use Rattle.query_cases.proofs.case_index.codes.held_number.Goals as goal

pub returns-in-None : goal.returns-in-None
returns-in-None c = c.number_in-in-None.ensures ∙ ap (λ found. number_in c.args.column.now.numbers (unwrap_or found Null)) c.in-None.ensures.item
