use Rattle.std.proofs.Common.{◌≡◌, ◌++◌, take}
use Rattle.supported_states.specs.small_parts.Sides.{given_partners}
use Rattle.supported_states.proofs.small_parts.needs.add_given_partners.Given as goal

-- the partners by the links so far have come
abbrev pub invariant-loop-placed : goal.invariant-loop-placed
invariant-loop-placed l = l.needs ≡ l.initial.needs ++ given_partners l.side.first l.side.id l.side.assoc.now l.key (take l.placed-index l.links)
