use Rattle.std.proofs.Common.{◌≡◌, ◌++◌, take}
use Rattle.regions.specs.Symbols.{conds_symbols}
use Rattle.symbolic_rows.proofs.writing.add_conds.Given as goal

-- what the conditions so far write has come
abbrev pub invariant-loop-cond : goal.invariant-loop-cond
invariant-loop-cond l = l.cells ≡ l.initial.cells ++ conds_symbols (take l.cond-index l.conds)
