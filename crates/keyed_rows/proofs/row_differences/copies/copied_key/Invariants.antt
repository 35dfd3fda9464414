use Rattle.std.proofs.Common.{◌≡◌, map, take}
use Rattle.keyed_rows.proofs.row_differences.copies.copied_key.Given as goal

-- the values so far are copied
abbrev pub invariant-loop-value : goal.invariant-loop-value
invariant-loop-value l = l.copy ≡ map (λ cell. cell.now) (take l.value-index l.key)
