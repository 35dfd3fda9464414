use Rattle.std.proofs.Common.{◌≡◌, ◌≤◌, filter, length, take}
use Rattle.regions.specs.Fitting.{fits}
use Rattle.region_partition.proofs.region_lists.atoms.count_fitting.Given as goal

-- the number of those among the constants so far
abbrev pub invariant-loop-value : goal.invariant-loop-value
invariant-loop-value l = (l.count ≡ length (filter (λ value. fits value l.kind) (take l.value-index l.value-items))) × (l.count ≤ l.value-index)
