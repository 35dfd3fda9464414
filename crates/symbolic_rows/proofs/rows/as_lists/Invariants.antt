use Rattle.std.proofs.Common.{◌≡◌, map}
use Rattle.symbolic_rows.proofs.rows.as_lists.Given as goal

-- the lists so far have come
abbrev pub invariant-loop-own : goal.invariant-loop-own
invariant-loop-own l = l.lists ≡ map (λ own. own.items) l.yielded
