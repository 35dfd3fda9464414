use Rattle.std.proofs.Common.{◌∙◌, ap}
use Rattle.round_trip.specs.Words.{Tables, rows_in}
use Rattle.delta_plan.proofs.Gathered.{rows_more}
use Rattle.delta_plan.proofs.gathering.put.Goals as goal

pub returns-clause-more : goal.returns-clause-more
returns-clause-more c = λ t rows is.
    ap (λ (tables : Tables). rows_in tables t) c.in_ok-insert.ensures.ok ∙ rows_more c.args.tables.now c.args.one c.requires t rows is
