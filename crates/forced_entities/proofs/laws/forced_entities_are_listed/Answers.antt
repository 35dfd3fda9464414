use Rattle.std.proofs.Common.{arith}
use Rattle.forced_entities.proofs.Listed.{forced_listed}
use Rattle.forced_entities.proofs.laws.forced_entities_are_listed.Goals as goal

pub returns : goal.returns
returns c basis is_basis limits = forced_listed basis is_basis (record { sound = is_basis.sound.model; few = limits.model.0; row = omega arith })
