use Rattle.std.proofs.lemmas.Bool.Decides.{same_from_decides}
use Rattle.schema_laws.specs.sound_demand.Deriving.{derives}
use Rattle.schema_laws.proofs.sound_demand.Deriving.{decides_types}
use Rattle.schema_laws.proofs.sound_forests.Whole.{sound_holds}
use Rattle.symbolic_rows.proofs.selects.derives.Goals as goal

pub is_of-requires-clause-whole : goal.is_of-requires-clause-whole
is_of-requires-clause-whole c = sound_holds c.args.model.now c.requires

pub returns : goal.returns
returns c =
    let model = c.args.model.now in
    same_from_decides c.is_of.result (derives model c.args.ty c.args.other) c.is_of.ensures ((decides_types model c.requires).tells c.args.ty c.args.other)
