use Rattle.std.proofs.Common.{◌≡◌, [], length, All}
use Rattle.entity_changes.proofs.making.fates.Fates.none.Given as goal

-- so many empty lists
abbrev pub invariant-loop : goal.invariant-loop
invariant-loop g l = (length l.behind.items ≡ l.counter) × All (λ list. list.items ≡ []) l.behind.items
