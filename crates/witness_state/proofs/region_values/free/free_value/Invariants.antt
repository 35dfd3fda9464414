use Rattle.std.proofs.Common.{◌≡◌, drop}
use Rattle.region_states.specs.defaults.Candidates.{candidates}
use Rattle.witness_state.proofs.region_values.Among.{free_among}
use Rattle.witness_state.proofs.region_values.free.free_value.Given as goal

-- what is looked for is what is left of it behind the candidates so far
abbrev pub invariant-loop-place : goal.invariant-loop-place
invariant-loop-place l = free_among l.kind l.constants (candidates l.kind) l.before ≡ free_among l.kind l.constants (drop l.place (candidates l.kind)) l.left
