use Rattle.schema_laws.proofs.sound_forests.Whole.{sound_holds}
use Rattle.probe.proofs.conditions.put_holding.Goals as goal

pub holds_entity-requires-clause-whole : goal.holds_entity-requires-clause-whole
holds_entity-requires-clause-whole c = sound_holds c.args.model.now c.requires
