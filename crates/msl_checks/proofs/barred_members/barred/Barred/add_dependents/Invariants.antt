use Rattle.std.proofs.Common.{take}
use Rattle.msl_checks.specs.barred_members.Added.{Adds, Each, Constrains}
use Rattle.msl_checks.proofs.barred_members.barred.Barred.add_dependents.Given as goal

-- those so far are added
abbrev pub invariant-loop-assoc : goal.invariant-loop-assoc
invariant-loop-assoc l = Adds (Each Constrains (take l.assoc-index l.assocs)) l.initial.self l.self
