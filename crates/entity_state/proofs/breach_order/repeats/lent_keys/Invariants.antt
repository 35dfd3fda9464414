use Rattle.std.proofs.Common.{◌≡◌, take}
use Rattle.entity_state.proofs.breach_order.repeats.lent_keys.Given as goal

-- the keys that were passed are lent
abbrev pub invariant-loop-key : goal.invariant-loop-key
invariant-loop-key l = l.lent.items ≡ take l.key-index l.keys
