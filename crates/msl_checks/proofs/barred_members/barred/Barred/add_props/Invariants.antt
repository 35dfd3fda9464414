use Rattle.std.proofs.Common.{take}
use Rattle.msl_checks.specs.barred_members.Added.{Adds, Each, IsProp}
use Rattle.msl_checks.proofs.barred_members.barred.Barred.add_props.Given as goal

-- those so far are added
abbrev pub invariant-loop-property : goal.invariant-loop-property
invariant-loop-property l = Adds (Each IsProp (take l.property-index l.properties)) l.initial.self l.self
