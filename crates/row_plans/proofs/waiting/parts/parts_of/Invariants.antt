use Rattle.std.proofs.Common.{◌≡◌, map, take}
use Rattle.std.specs.List.{enumerate_from, flat_map}
use Rattle.keyed_rows.specs.row_groups.Shown.{shown_keyed}
use Rattle.row_plans.specs.Roles.{parts_at}
use Rattle.row_plans.proofs.waiting.parts.parts_of.Given as goal

-- the parts of the alterations so far
abbrev pub invariant-loop-place : goal.invariant-loop-place
invariant-loop-place l = map shown_keyed l.parts.items ≡ flat_map (λ entry. parts_at l.key entry.0 entry.1) (take l.place (enumerate_from 0 l.alterations))
