use Rattle.schema_laws.proofs.sound_demand.Kept.{tables_one}
use Rattle.schema_laws.proofs.sound_demand.tables_are_one_up_to_order.Goals as goal

pub returns : goal.returns
returns c = record { same = tables_one }
