use Rattle.std.proofs.Common.{take}
use Rattle.round_trip.specs.Words.{EntityModel, Mapping}
use Rattle.round_trip.specs.Between.{schema_of}
use Rattle.msl_checks.specs.barred_members.Added.{Adds, Each, Hosts}
use Rattle.msl_checks.proofs.barred_members.barred.Barred.add_partners.Given as goal

-- those so far are added
abbrev pub invariant-loop-fragment : goal.invariant-loop-fragment
invariant-loop-fragment l = (model : EntityModel) (mapping : Mapping) → Adds (Each (Hosts (schema_of model l.store mapping)) (take l.fragment-index l.links)) l.initial.self l.self
