use Rattle.std.proofs.Common.{◌≡◌, All, None, find, take}
use Rattle.regions.specs.Settled.{clashes}
use Rattle.containment.proofs.clashes.clash_in_cell.Given as goal

-- the symbols so far clash with none
abbrev pub invariant-loop-one : goal.invariant-loop-one
invariant-loop-one l = All (λ one. find (clashes l.model l.atoms one) l.cell ≡ None) (take l.one-index l.cell)
