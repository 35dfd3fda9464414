use Rattle.std.proofs.Common.{◌≡◌, map, take}
use Rattle.keyed_rows.specs.row_groups.Shown.{shown_cells}
use Rattle.query_views.specs.Lent.{link_of}
use Rattle.query_views.proofs.state_of.copied_assoc.Given as goal

-- the links so far are copied
abbrev pub invariant-loop-both : goal.invariant-loop-both
invariant-loop-both l = l.links ≡ map (λ group. link_of l.lent.first_len (shown_cells group.key)) (take l.both-index l.both-items)
