use Rattle.std.proofs.Common.{take}
use Rattle.msl_checks.specs.barred_members.Added.{Adds, Each, IsColumn}
use Rattle.msl_checks.proofs.barred_members.barred.Barred.add_columns.Given as goal

-- those so far are added
abbrev pub invariant-loop-pair : goal.invariant-loop-pair
invariant-loop-pair l = Adds (Each (IsColumn l.table) (take l.pair-index l.pairs)) l.initial.self l.self
