use borrow.Author.Tests.{tests}
use Rattle.std.proofs.Common.{rules, ℕ, Bool, length, ◌<◌, Contains, subst, arith}
use Rattle.std.specs.Bool.{MatchBool}
use Rattle.std.specs.List.{AllWithin, HoldsAt}
use Rattle.std.proofs.lemmas.Iterator.{cases_from_all, YieldsList-from_slice}
use Rattle.std.proofs.lemmas.Iterator.Search.{true_from_All}
use Rattle.edm_types.specs.declared.mapping.Pair.{Pair}
use Rattle.table_owners.proofs.table_writers.pairings.are_among.Goals as goal

pub returns : goal.returns
returns c =
    let pairs = c.args.pairs.now in
    let Held : Pair → Type 0 = Contains c.args.others.now in
    let Lacking : Pair → Type 0 = λ p. ¬ Held p in
    let Told : Bool → Type 0 = λ r. MatchBool r (AllWithin Held pairs 0 (length pairs)) ((k : ℕ) × (k < length pairs) × HoldsAt Lacking pairs k) in
    let told : Told c.all.result = cases_from_all _ _ _ Held Lacking c.all.ensures.ran (YieldsList-from_slice pairs cc) (λ x q k. search (rules, tests)) (λ x q k. search (rules, tests)) in (
      λ is k d within. subst Told is told k d (omega arith) within,
      λ all. true_from_All Held Lacking c.all.result pairs (λ x has never. never has) told all,
    )
