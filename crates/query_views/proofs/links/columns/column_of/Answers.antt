use Rattle.std.proofs.Common.{◌≢◌, All, subst}
use Rattle.std.proofs.lemmas.List.{take_all}
use Rattle.std.proofs.lemmas.List.Elements.{All-contains}
use Rattle.emc_base.proofs.Numbered.{map_contains}
use Rattle.round_trip.specs.Words.{Pair}
use Rattle.query_views.proofs.links.columns.column_of.Goals as goal

pub unreachable-requires : goal.unreachable-requires
unreachable-requires c =
    let pairs = c.args.pairs.now in
    let Other : Pair → Type 0 = λ pair. pair.prop ≢ c.args.prop in
    let found = map_contains (λ (pair : Pair). pair.prop) pairs c.args.prop c.requires in
    All-contains Other pairs found.0 (subst (All Other) (take_all c.loop-pair.pair-index pairs c.loop-pair-test.false) c.loop-pair.invariant) found.1 found.2
