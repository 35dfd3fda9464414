use Rattle.std.proofs.Common.{◌≡◌, map, take}
use Rattle.entity_state.proofs.breach_order.in_order.lent.Given as goal

-- the keys that were passed are lent
abbrev pub invariant-loop-key : goal.invariant-loop-key
invariant-loop-key g l = map (λ key. key.now) l.all.items ≡ take l.key-index l.keys
