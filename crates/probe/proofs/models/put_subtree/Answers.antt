use Rattle.schema_laws.proofs.sound_forests.Whole.{sound_holds}
use Rattle.probe.proofs.models.put_subtree.Goals as goal

pub subtree-requires-clause-whole : goal.subtree-requires-clause-whole
subtree-requires-clause-whole c = sound_holds c.args.model.now c.requires
