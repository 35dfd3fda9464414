use Rattle.dangling_keys.proofs.told.Told.{dangling_told}
use Rattle.dangling_keys.proofs.failing.Placed.{has_place}
use Rattle.dangling_keys.proofs.failing.Whole.{keys_decided, told_shown}
use Rattle.dangling_keys.proofs.laws.dangling_keys_are_decided.Goals as goal

pub returns-clause-decided : goal.returns-clause-decided
returns-clause-decided c = keys_decided

pub returns-clause-told : goal.returns-clause-told
returns-clause-told c basis given = dangling_told basis given.sound.is_basis given.sound.limits given.none

pub returns-clause-fails : goal.returns-clause-fails
returns-clause-fails c = told_shown

pub returns-clause-placed : goal.returns-clause-placed
returns-clause-placed c = has_place
