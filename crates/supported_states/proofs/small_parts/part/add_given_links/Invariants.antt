use Rattle.std.proofs.Common.{◌≡◌, ◌++◌, take}
use Rattle.supported_states.specs.small_parts.Parts.{given_links}
use Rattle.supported_states.proofs.small_parts.part.add_given_links.Given as goal

-- the links so far have come
abbrev pub invariant-loop-placed : goal.invariant-loop-placed
invariant-loop-placed l = l.links ≡ l.initial.links ++ given_links l.sought l.id l.assoc (take l.placed-index l.placed-items)
