use Rattle.std.proofs.Common.{get_or, List, subst}
use Rattle.std.proofs.lemmas.List.{take_all}
use Rattle.std.proofs.lemmas.Option.{slice_get-get_or}
use Rattle.round_trip.specs.Words.{Pair}
use Rattle.table_owners.specs.Clearing.{Clears, Each, IsPairOn}
use Rattle.table_owners.proofs.columns.Cleared.{clears_next}
use Rattle.table_owners.proofs.clearing.clear_pairs.Goals as goal

pub loop-pair-preserved : goal.loop-pair-preserved
loop-pair-preserved c =
    let pairs = c.args.pairs.now in
    let n = c.loop-pair.pair-index in
    let nil : Pair = record { prop = record { index = 0 }; col = record { index = 0 } } in
    clears_next (IsPairOn c.args.table) pairs n (get_or pairs n nil) c.args.free.now.items c.loop-pair.free.items c.clear.new.free.items
    (slice_get-get_or pairs n nil c.loop-pair-test.true) c.loop-pair.invariant c.clear.ensures

pub returns : goal.returns
returns c =
    let Passed : List Pair → Type 0 = λ some. Clears (Each (IsPairOn c.args.table) some) c.args.free.now.items c.loop-pair.free.items in
    subst Passed (take_all c.loop-pair.pair-index c.args.pairs.now c.loop-pair-test.false) c.loop-pair.invariant
