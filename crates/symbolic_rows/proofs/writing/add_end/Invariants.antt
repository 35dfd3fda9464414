use Rattle.std.proofs.Common.{◌≡◌, ◌++◌, take}
use Rattle.regions.specs.Symbols.{end_symbols}
use Rattle.symbolic_rows.proofs.writing.add_end.Given as goal

-- the parts of the pairs so far have come
abbrev pub invariant-loop-pair : goal.invariant-loop-pair
invariant-loop-pair l = l.cells ≡ l.initial.cells ++ end_symbols l.assoc l.first l.hosts (take l.pair-index l.pairs)
