use Rattle.std.proofs.Common.{◌≡◌, [], map, take}
use Rattle.entity_state.proofs.state.empty_lists.Given as goal

-- an empty list for each item that was passed
abbrev pub invariant-loop : goal.invariant-loop
invariant-loop g l = l.lists.items ≡ map (λ _. []) (take l.index l.declared)
