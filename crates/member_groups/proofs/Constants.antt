-- The constants of what is joined are the same.
use Rattle.std.proofs.Common.{inl, inr}
use Rattle.round_trip.specs.Words.{Schema, Value}
use Rattle.round_trip.specs.soundness.mappings.Joined.{Joined, Member, prop}
use Rattle.round_trip.specs.soundness.mappings.Joined as joined
use Rattle.member_groups.specs.Tested.{IsConstant}

pub joined_constant : (schema : Schema) (one other : Member) → Joined schema other one → (v : Value) → IsConstant schema one v → IsConstant schema other v
joined_constant schema one other joins v (inl (third, to, compared)) = inl (third, joined.chain other one third joins to, compared)
joined_constant schema one other joins v (inr ((third, to, makes), (r, enumeration, n, to_r, of_enum, among, is))) =
    inr ((third, joined.chain other one third joins to, makes), (r, enumeration, n, joined.chain other one (prop r) joins to_r, of_enum, among, is))
