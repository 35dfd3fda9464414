use Rattle.std.proofs.Common.{ℕ, ◌<◌}
use Rattle.emc_base.specs.Lists.{At}
use Rattle.csdl_names.specs.declared.csdl_lists.raw.RawSetEnd.{RawSetEnd}
use Rattle.csdl_names.specs.csdl_lists.References.{names_in}
use Rattle.csdl_associations.specs.csdl_association_sets.SetEnds.{HasOtherType}
use Rattle.csdl_associations.proofs.csdl_association_sets.set_ends.SetEnds.has_other_end.Given as goal

-- none of the ends that were passed is of another type
abbrev pub invariant-loop-end : goal.invariant-loop-end
invariant-loop-end l = (k : ℕ) (end : RawSetEnd) → k < l.end-index → At l.ends k end → ¬ HasOtherType (names_in l.self) l.self l.association end
