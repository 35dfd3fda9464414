use Rattle.std.proofs.Common.{Contains}
use Rattle.std.proofs.lemmas.List.Elements.{All-append}
use Rattle.round_trip.specs.Words.{Pair}
use Rattle.table_owners.proofs.link_places.Columns.{all_first, all_second}
use Rattle.table_owners.proofs.link_places.placed.are_both_within.Goals as goal

pub returns-then-are_within : goal.returns-then-are_within
returns-then-are_within c =
    let one = c.args.one.now in
    let other = c.args.other.now in
    let Held : Pair → Type 0 = λ p. Contains c.args.cols.now p.col in (
      λ is. All-append Held one other (c.are_within.ensures.0 c.if-are_within.true) (c.are_within-then-are_within.ensures.0 is),
      λ all. c.are_within-then-are_within.ensures.1 (all_second Held one other all),
    )

pub returns-else-are_within : goal.returns-else-are_within
returns-else-are_within c =
    let Held : Pair → Type 0 = λ p. Contains c.args.cols.now p.col in (
      λ is. absurd cc,
      λ all. c.are_within.ensures.1 (all_first Held c.args.one.now c.args.other.now all),
    )
