-- A conflict at some set, or at the links of some association.
-- Source: this project's.
use Rattle.std.specs.Prelude.{◌⊎◌}
use Rattle.round_trip.specs.Words.{AssocId, SetId}
use Rattle.round_trip.specs.declared.FailKind.{FailKind}
use Rattle.regions.specs.Basis.{Basis}
use Rattle.region_states.specs.conflicts.Conflicts.{IsConflictAt, IsLinkConflictAt}
use Rattle.region_states.specs.declared.conflicts.conflict.Conflict.{Conflict}
use Rattle.failure_laws.specs.Facts.{IsSo}

-- a conflict of the kind at a set, or at an association's links, and what it tells is so
abbrev pub IsSomeConflict : Basis → FailKind → Conflict → Type 0
IsSomeConflict basis kind one = ((s : SetId) × IsConflictAt basis s kind one × IsSo basis one) ⊎ ((a : AssocId) × IsLinkConflictAt basis a kind one × IsSo basis one)
