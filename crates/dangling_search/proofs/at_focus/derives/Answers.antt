use Rattle.schema_laws.proofs.sound_forests.Whole.{sound_holds}
use Rattle.dangling_search.proofs.at_focus.derives.Goals as goal

pub is_of-requires-clause-whole : goal.is_of-requires-clause-whole
is_of-requires-clause-whole c = sound_holds c.args.model.now c.requires
