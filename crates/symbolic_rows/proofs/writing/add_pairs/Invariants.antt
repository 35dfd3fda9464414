use Rattle.std.proofs.Common.{◌≡◌, ◌++◌, map, take}
use Rattle.regions.specs.declared.pattern.Symbol.TheVariants as symbol
use Rattle.symbolic_rows.proofs.writing.add_pairs.Given as goal

-- the properties of the pairs so far have come
abbrev pub invariant-loop-pair : goal.invariant-loop-pair
invariant-loop-pair l = l.cells ≡ l.initial.cells ++ map (λ pair. (pair.col, symbol.Prop pair.prop)) (take l.pair-index l.pairs)
