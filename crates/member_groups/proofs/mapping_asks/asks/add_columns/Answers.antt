use Rattle.std.proofs.Common.{List, Contains, None, get_or, sym, subst}
use Rattle.std.proofs.lemmas.Option.{slice_get-get_or}
use Rattle.round_trip.specs.Words.{Pair}
use Rattle.member_groups.specs.declared.mapping_asks.asks.Ask.{Ask}
use Rattle.member_groups.specs.declared.mapping_asks.member.MemberId.TheVariants.{Column}
use Rattle.member_groups.specs.mapping_asks.Adding.{Adds}
use Rattle.member_groups.specs.mapping_asks.Asks.{IsImpliedBy}
use Rattle.member_groups.proofs.mapping_asks.Adding.{adds_last, adds_next}
use Rattle.member_groups.proofs.mapping_asks.asks.add_columns.Goals as goal

pub loop-pair-preserved : goal.loop-pair-preserved
loop-pair-preserved c =
    let pairs = c.args.pairs.now in
    let n = c.loop-pair.pair-index in
    let nil : Pair = record { prop = record { index = 0 }; col = record { index = 0 } } in
    let x : Pair = get_or pairs n nil in
    let so_far = c.loop-pair.asks.items in
    let ask : Ask = record { on = Column c.args.table x.col; constant = None } in
    let Comes : List Ask → Type 0 = λ asks. Adds (IsImpliedBy c.args.table x) (Contains so_far) (Contains asks) in
    adds_next (IsImpliedBy c.args.table) pairs n x (Contains c.args.asks.now.items) (Contains so_far) (Contains c.push.new.self.items)
    (slice_get-get_or pairs n nil c.loop-pair-test.true) c.loop-pair.invariant
    (subst Comes (sym c.in_ok-push.ensures.items) (adds_last so_far ask))
