use borrow.Author.Tests.{tests}
use Rattle.std.proofs.Common.{rules, ◌≡◌, ℕ, Bool, length, ◌<◌, subst}
use Rattle.std.specs.Bool.{MatchBool}
use Rattle.std.specs.List.{AllWithin, HoldsAt}
use Rattle.std.proofs.lemmas.Iterator.{cases_from_any, YieldsList-from_slice}
use Rattle.std.proofs.lemmas.Iterator.Search.{true_from_Any}
use Rattle.emc_base.proofs.Numbered.{map_contains}
use Rattle.round_trip.specs.Words.{ColId, Pair}
use Rattle.table_owners.proofs.link_places.Columns.{column_at}
use Rattle.table_owners.proofs.link_places.placed.is_written.Goals as goal

pub returns : goal.returns
returns c =
    let pairs = c.args.pairs.now in
    let column : Pair → ColId = λ p. p.col in
    let Held : Pair → Type 0 = λ p. p.col ≡ c.args.col in
    let Lacking : Pair → Type 0 = λ p. ¬ Held p in
    let Told : Bool → Type 0 = λ r. MatchBool r ((k : ℕ) × (k < length pairs) × HoldsAt Held pairs k) (AllWithin Lacking pairs 0 (length pairs)) in
    let told : Told c.any.result = cases_from_any _ _ _ Held Lacking c.any.ensures.ran (YieldsList-from_slice pairs cc) (λ x q k. search (rules, tests)) (λ x q k. search (rules, tests)) in (
      λ is.
          (let found = subst Told is told in
          column_at pairs c.args.col found.0 found.1 found.2),
      λ has.
          (let pair = map_contains column pairs c.args.col has in
          true_from_Any Held Lacking c.any.result pairs (λ p yes never. never yes) told pair.0 pair.1 pair.2),
    )
