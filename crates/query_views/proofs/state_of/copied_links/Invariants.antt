use Rattle.std.proofs.Common.{◌≡◌, map, take}
use Rattle.query_views.specs.Lent.{shown_links}
use Rattle.query_views.proofs.state_of.copied_links.Given as goal

-- the links of the associations so far are copied
abbrev pub invariant-loop-of_assoc : goal.invariant-loop-of_assoc
invariant-loop-of_assoc l = l.lists.items ≡ map shown_links (take l.of_assoc-index l.lent)
