use Rattle.std.proofs.Common.{ℕ, ◌+◌, List, sym, subst}
use Rattle.std.proofs.Math.Nat.{le_antisymm}
use Rattle.std.specs.BTreeSet.{BTreeSet, IsEmpty}
use Rattle.round_trip.specs.Words.{Value}
use Rattle.member_groups.specs.group_constants.Constants.{AreEmpty}
use Rattle.member_groups.proofs.group_numbers.Holding.{holds_more}
use Rattle.member_groups.proofs.group_constants.constants.empty_sets.Goals as goal

pub loop-preserved : goal.loop-preserved
loop-preserved c =
    let Empty : List (BTreeSet Value) → Type 0 = AreEmpty (c.loop.counter + 1) in
    subst Empty (sym c.in_ok-push.ensures.items) (holds_more (λ i values. IsEmpty values) c.loop.counter c.loop.sets.items c.new.result c.loop.invariant c.new.ensures.empty)

pub returns : goal.returns
returns c = let Empty : ℕ → Type 0 = λ count. AreEmpty count c.loop.sets.items in subst Empty (le_antisymm c.loop.auto.counter-end c.loop-test.false) c.loop.invariant
