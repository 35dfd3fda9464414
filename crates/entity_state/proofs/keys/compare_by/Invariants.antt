use Rattle.std.proofs.Common.{◌≡◌, drop}
use Rattle.std.specs.Cmp.Lexicographic.{slice_cmp}
use Rattle.emc_base.specs.Order.{value_cmp}
use Rattle.round_trip.specs.Words.{values_of}
use Rattle.entity_state.proofs.keys.compare_by.Given as goal

-- the entities are alike in the properties that were passed
abbrev pub invariant-loop-i : goal.invariant-loop-i
invariant-loop-i l = slice_cmp value_cmp (values_of l.model l.one l.props) (values_of l.model l.two l.others)
    ≡ slice_cmp value_cmp (values_of l.model l.one (drop l.i l.props)) (values_of l.model l.two (drop l.i l.others))
