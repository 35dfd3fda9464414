use Rattle.condition_logic.specs.Readings.{of_entity, of_row}
use Rattle.condition_logic.proofs.Meaning.{is_meaning}
use Rattle.condition_logic.proofs.laws.expressions_mean_their_parts.Goals as goal

pub returns : goal.returns
returns c = record { entities = λ model entity. is_meaning (of_entity model entity); rows = λ row. is_meaning (of_row row) }
