use Rattle.std.proofs.Common.{◌≡◌, map, take}
use Rattle.query_views.specs.Lent.{lent_entity}
use Rattle.query_views.proofs.state_of.copied_set.Given as goal

-- the entities so far are copied
abbrev pub invariant-loop-one : goal.invariant-loop-one
invariant-loop-one l = l.entities ≡ map lent_entity (take l.one-index l.lent)
