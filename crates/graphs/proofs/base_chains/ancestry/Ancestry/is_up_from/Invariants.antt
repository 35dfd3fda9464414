use Rattle.std.proofs.Common.{◌<◌, ◌↔◌, length, slice_index}
use Rattle.graphs.specs.base_chains.Chains.{base_at, IsUpFrom}
use Rattle.graphs.proofs.base_chains.ancestry.Ancestry.is_up_from.Given as goal

-- from the place that was reached the answer is the same
abbrev pub invariant-loop-self : goal.invariant-loop-self
invariant-loop-self l = (l.place < length l.self-inside.bases.now)
    × (IsUpFrom (base_at l.self-inside.bases.now) l.lower l.upper ↔ IsUpFrom (base_at l.self-inside.bases.now) l.place l.upper)

-- how deep it stands
abbrev pub decreases-loop-self : goal.decreases-loop-self
decreases-loop-self l = slice_index l.self-inside.depths.items l.place
