use Rattle.std.proofs.Common.{◌≡◌}
use Rattle.forced_entities.specs.Forced.{part_beside}
use Rattle.dangling_search.proofs.fitting.part_beside.Given as goal

-- it stands beside the property in what is left
abbrev pub invariant-loop-other : goal.invariant-loop-other
invariant-loop-other l = part_beside l.prop l.other-iterator.a.rest.now l.other-iterator.b.rest.now ≡ part_beside l.prop l.props l.parts
