use Rattle.std.proofs.Common.{◌≡◌, ◌++◌, filter, map, take}
use Rattle.condition_logic.specs.declared.atoms.Atom.TheVariants.{Is}
use Rattle.regions.specs.Fitting.{fits}
use Rattle.region_partition.specs.region_lists.Listing.{told_atoms}
use Rattle.region_partition.proofs.region_lists.atoms.add_fitting.Given as goal

-- those of the constants so far have come
abbrev pub invariant-loop-value : goal.invariant-loop-value
invariant-loop-value l = l.atoms ≡ l.initial.atoms ++ told_atoms l.property (map (λ value. Is value) (filter (λ value. fits value l.kind) (take l.value-index l.constants)))
