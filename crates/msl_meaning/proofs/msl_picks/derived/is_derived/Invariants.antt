use Rattle.std.proofs.Common.{◌↔◌, MatchOption}
use Rattle.edm_types.specs.Forest.{type_numbered}
use Rattle.edm_types.specs.IsA.{IsA}
use Rattle.schema_names.proofs.Inherits.{types_left}
use Rattle.msl_meaning.proofs.msl_picks.derived.is_derived.Given as goal

-- the type is derived from the other where what was reached above it is
abbrev pub invariant-loop-next : goal.invariant-loop-next
invariant-loop-next l =
    IsA l.names.model.now (type_numbered l.ty) l.other ↔ MatchOption l.next ⊥ (λ t. IsA l.names.model.now (type_numbered t) l.other)

-- how many types are left
abbrev pub decreases-loop-next : goal.decreases-loop-next
decreases-loop-next l = types_left l.names.model.now l.names.inherits l.next
