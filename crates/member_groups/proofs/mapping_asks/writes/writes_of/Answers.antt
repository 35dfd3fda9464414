use Rattle.std.proofs.Common.{ℕ, List, Contains, refl, sym, subst}
use Rattle.std.proofs.lemmas.List.{take_all}
use Rattle.std.proofs.lemmas.Option.{slice_get_read}
use Rattle.emc_base.proofs.Members.{contains_nil}
use Rattle.round_trip.specs.Words.{Fragment, Pair}
use Rattle.member_groups.specs.declared.mapping_asks.member.MemberId.{MemberId}
use Rattle.member_groups.specs.mapping_asks.Adding.{Adds, Each, Tells}
use Rattle.member_groups.specs.mapping_asks.Writes.{IsWriteBy, WritesBy}
use Rattle.member_groups.proofs.mapping_asks.Adding.{adds_next, tells_added}
use Rattle.member_groups.proofs.mapping_asks.writes.writes_of.Goals as goal

pub loop-fragment-preserved : goal.loop-fragment-preserved
loop-fragment-preserved c =
    let n = c.loop-fragment.fragment-index in
    let x = c.fragment-item.result in
    let so_far = c.loop-fragment.writes.items in
    let after = c.add_pairs.new.writes.items in
    let Comes : List Pair → Type 0 = λ pairs. Adds (Each (IsWriteBy x.table) pairs) (Contains so_far) (Contains after) in
    adds_next WritesBy c.args.fragments.now n x (Contains c.new-writes.result.items) (Contains so_far) (Contains after)
    (slice_get_read _ _ n _ refl c.loop-fragment-test.true c.fragment-item.is) c.loop-fragment.invariant (subst Comes c.as_slice.ensures.items c.in_ok-add_pairs.ensures)

pub returns : goal.returns
returns c =
    let writes = c.loop-fragment.writes.items in
    let none : List (ℕ × MemberId) → Type 0 = λ empty. (write : ℕ × MemberId) → ¬ Contains empty write in
    let Told : List Fragment → Type 0 = λ fragments. Tells (Contains writes) (Each WritesBy fragments) in
    subst Told (take_all c.loop-fragment.fragment-index c.args.fragments.now c.loop-fragment-test.false)
    (tells_added (Each WritesBy _) (Contains c.new-writes.result.items) (Contains writes) (subst none (sym c.new-writes.ensures.items) contains_nil) c.loop-fragment.invariant)
