use Rattle.std.proofs.Common.{Option, unwrap_or, ap, ◌∙◌}
use Rattle.round_trip.specs.Words.{Value, Null}
use Rattle.update_views.specs.region_table.Digits.{position_in}
use Rattle.update_views.proofs.region_table.telling.ValueTest.digit.Goals as goal

-- the entity has no value there
pub returns-in-None-clause-digit : goal.returns-in-None-clause-digit
returns-in-None-clause-digit c =
    c.position-in-None.ensures.position ∙ ap (λ (found : Option Value). position_in c.args.self.now (unwrap_or found Null)) c.in-None.ensures.item
