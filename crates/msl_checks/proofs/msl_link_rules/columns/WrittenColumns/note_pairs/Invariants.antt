use Rattle.std.proofs.Common.{◌≡◌, List, ℕ, take}
use Rattle.msl_checks.specs.msl_link_rules.WrittenColumns.{end_in, noted_where, writes}
use Rattle.msl_checks.proofs.msl_link_rules.columns.WrittenColumns.note_pairs.Given as goal

-- the columns of the pairs that were passed are noted
abbrev pub invariant-loop-pair : goal.invariant-loop-pair
invariant-loop-pair l = (col : List ℕ) → end_in l.self col ≡ noted_where (writes col (take l.pair-index l.pairs)) l.end (end_in l.initial.self col)
