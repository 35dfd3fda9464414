use Rattle.std.proofs.Common.{Contains}
use Rattle.std.proofs.lemmas.Bool.{both_ways}
use Rattle.std.proofs.lemmas.List.Elements.{All-map}
use Rattle.round_trip.specs.Words.{PropId}
use Rattle.msl_checks.proofs.msl_link_rules.KeyProps.{all_of_pairs, prop}
use Rattle.msl_checks.proofs.msl_link_rules.end_keys.writes_just.Goals as goal

pub returns-then-are_all_written : goal.returns-then-are_all_written
returns-then-are_all_written c =
    let Within : PropId → Type 0 = Contains c.args.key.now in (
      λ is. record { all = c.are_all_written.ensures.0 c.if-are_all_written.true; only = All-map Within prop c.args.pairs.now (c.are_all_within.ensures.0 is) },
      λ just. c.are_all_within.ensures.1 (all_of_pairs Within c.args.pairs.now just.only),
    )

pub returns-else-are_all_written : goal.returns-else-are_all_written
returns-else-are_all_written c = (
  λ is. absurd (both_ways c.are_all_written.result c.if-are_all_written.false is),
  λ just. absurd (both_ways c.are_all_written.result c.if-are_all_written.false (c.are_all_written.ensures.1 just.all)),
)
