use Rattle.std.proofs.Common.{ℕ, List, Contains, get_or, sym, subst}
use Rattle.std.proofs.lemmas.Option.{slice_get-get_or}
use Rattle.round_trip.specs.Words.{Pair}
use Rattle.member_groups.specs.declared.mapping_asks.member.MemberId.{MemberId}
use Rattle.member_groups.specs.declared.mapping_asks.member.MemberId.TheVariants.{Column}
use Rattle.member_groups.specs.mapping_asks.Adding.{Adds}
use Rattle.member_groups.specs.mapping_asks.Writes.{IsWriteBy}
use Rattle.member_groups.proofs.mapping_asks.Adding.{adds_last, adds_next}
use Rattle.member_groups.proofs.mapping_asks.writes.add_pairs.Goals as goal

pub loop-pair-preserved : goal.loop-pair-preserved
loop-pair-preserved c =
    let pairs = c.args.pairs.now in
    let n = c.loop-pair.pair-index in
    let nil : Pair = record { prop = record { index = 0 }; col = record { index = 0 } } in
    let x : Pair = get_or pairs n nil in
    let so_far = c.loop-pair.writes.items in
    let write : ℕ × MemberId = (x.prop.index, Column c.args.table x.col) in
    let Comes : List (ℕ × MemberId) → Type 0 = λ writes. Adds (IsWriteBy c.args.table x) (Contains so_far) (Contains writes) in
    adds_next (IsWriteBy c.args.table) pairs n x (Contains c.args.writes.now.items) (Contains so_far) (Contains c.push.new.self.items)
    (slice_get-get_or pairs n nil c.loop-pair-test.true) c.loop-pair.invariant
    (subst Comes (sym c.in_ok-push.ensures.items) (adds_last so_far write))
