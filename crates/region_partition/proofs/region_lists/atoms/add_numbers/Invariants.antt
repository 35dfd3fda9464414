use Rattle.std.proofs.Common.{◌≡◌, ◌++◌, map, take}
use Rattle.round_trip.specs.Words.{Whole}
use Rattle.condition_logic.specs.declared.atoms.Atom.TheVariants.{Is}
use Rattle.region_partition.specs.region_lists.Listing.{told_atoms}
use Rattle.region_partition.proofs.region_lists.atoms.add_numbers.Given as goal

-- those of the numbers so far have come
abbrev pub invariant-loop-number : goal.invariant-loop-number
invariant-loop-number l = l.atoms ≡ l.initial.atoms ++ told_atoms l.property (map (λ number. Is (Whole number)) (take l.number-index l.numbers))
