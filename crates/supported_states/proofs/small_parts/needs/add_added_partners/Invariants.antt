use Rattle.std.proofs.Common.{◌≡◌, ◌++◌, take}
use Rattle.supported_states.specs.small_parts.Sides.{added_partners}
use Rattle.supported_states.proofs.small_parts.needs.add_added_partners.Given as goal

-- the partners of the entities so far have come
abbrev pub invariant-loop-entity : goal.invariant-loop-entity
invariant-loop-entity l = l.needs ≡ l.initial.needs ++ added_partners l.seat l.side.first l.side.id l.side.assoc.now (take l.entity-index l.entity-items)
