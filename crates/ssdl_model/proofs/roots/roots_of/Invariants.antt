use Rattle.std.proofs.Common.{◌≡◌, length, map}
use Rattle.std.specs.List.{range_with_len}
use Rattle.graphs.specs.base_chains.Chains.{root}
use Rattle.csdl_meaning.specs.Meaning.{base_in}
use Rattle.ssdl_model.proofs.roots.roots_of.Given as goal

-- the tops of the types that were passed
abbrev pub invariant-loop-place : goal.invariant-loop-place
invariant-loop-place l = l.roots.items ≡ map (root (base_in l.store) (length l.store.types)) (range_with_len 0 l.place)
