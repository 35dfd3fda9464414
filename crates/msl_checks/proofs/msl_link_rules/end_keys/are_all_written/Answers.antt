use borrow.Author.Tests.{tests}
use Rattle.std.proofs.Common.{rules, ℕ, Bool, length, ◌<◌, Contains, map, subst, arith}
use Rattle.std.specs.Bool.{MatchBool}
use Rattle.std.specs.List.{AllWithin, HoldsAt}
use Rattle.std.proofs.lemmas.Iterator.{cases_from_all, YieldsList-from_slice}
use Rattle.std.proofs.lemmas.Iterator.Search.{true_from_All}
use Rattle.round_trip.specs.Words.{PropId}
use Rattle.msl_checks.proofs.msl_link_rules.KeyProps.{prop}
use Rattle.msl_checks.proofs.msl_link_rules.end_keys.are_all_written.Goals as goal

pub returns : goal.returns
returns c =
    let key = c.args.key.now in
    let Held : PropId → Type 0 = Contains (map prop c.args.pairs.now) in
    let Lacking : PropId → Type 0 = λ p. ¬ Held p in
    let Told : Bool → Type 0 = λ r. MatchBool r (AllWithin Held key 0 (length key)) ((k : ℕ) × (k < length key) × HoldsAt Lacking key k) in
    let told : Told c.all.result = cases_from_all _ _ _ Held Lacking c.all.ensures.ran (YieldsList-from_slice key cc) (λ x q k. search (rules, tests)) (λ x q k. search (rules, tests)) in (
      λ is k d within. subst Told is told k d (omega arith) within,
      λ all. true_from_All Held Lacking c.all.result key (λ x has never. never has) told all,
    )
