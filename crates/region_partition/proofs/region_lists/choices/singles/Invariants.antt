use Rattle.std.proofs.Common.{◌≡◌, [], ◌∷◌, map, take}
use Rattle.region_partition.proofs.region_lists.choices.singles.Given as goal

-- those of the atoms so far have come
abbrev pub invariant-loop-atom : goal.invariant-loop-atom
invariant-loop-atom l = l.lists ≡ map (λ atom. atom ∷ []) (take l.atom-index l.atoms)
