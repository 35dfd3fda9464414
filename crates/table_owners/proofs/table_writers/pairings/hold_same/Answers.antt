use Rattle.std.proofs.Common.{true≢false, sym, ◌∙◌}
use Rattle.table_owners.proofs.table_writers.Pairs.{told_same}
use Rattle.table_owners.proofs.table_writers.pairings.hold_same.Goals as goal

pub returns-then-are_among : goal.returns-then-are_among
returns-then-are_among c =
    let back = c.are_among-then-are_among in
    told_same back.result c.args.one.now c.args.other.now (λ is. (c.are_among.ensures.0 c.if-are_among.true, back.ensures.0 is), λ same. back.ensures.1 same.1)

pub returns-else-are_among : goal.returns-else-are_among
returns-else-are_among c =
    told_same c.are_among.result c.args.one.now c.args.other.now (
      λ is. absurd (true≢false (sym is ∙ c.if-are_among.false)),
      λ same. c.are_among.ensures.1 same.0,
    )
