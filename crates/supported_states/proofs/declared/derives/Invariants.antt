use Rattle.std.proofs.Common.{◌≡◌, ◌-◌}
use Rattle.schema_laws.specs.sound_demand.Deriving.{derives, is_under}
use Rattle.supported_states.proofs.declared.derives.Given as goal

-- the answer is that of the type to which the walk has come
abbrev pub invariant-loop : goal.invariant-loop
invariant-loop l = derives l.fn.model l.fn.t l.fn.u ≡ is_under l.model (l.end - l.counter) l.at l.u
