-- The atom that one with a lent value shows.
use Rattle.condition_logic.specs.declared.atoms.Atom.{Atom}
use Rattle.condition_logic.specs.declared.atoms.Atom.TheVariants as atom
use Rattle.region_partition.specs.declared.region_search.atoms.Lent.{Lent}
use Rattle.region_partition.specs.declared.region_search.atoms.Lent.TheVariants as lent

-- the same atom, with the value itself
abbrev pub shown_atom : Lent → Atom
shown_atom lent.Null = atom.Null
shown_atom (lent.Is value) = atom.Is value.now
shown_atom lent.Other = atom.Other
