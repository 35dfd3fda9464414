use Rattle.std.proofs.Common.{length, ◌+◌, ◌≤◌}
use Rattle.std.specs.Io.Take.{take_limit}
use Rattle.emc_files.proofs.disk_files.read_at_most.Given as goal

-- what was taken and what may still be taken are together at most the most
abbrev pub invariant-loop : goal.invariant-loop
invariant-loop g l = length l.bytes.items + take_limit l.file ≤ l.fn.most
