use Rattle.std.proofs.Common.{inl, inr}
use Rattle.table_owners.proofs.link_places.Columns.{either_column, second_column}
use Rattle.table_owners.proofs.link_places.placed.is_written_in.Goals as goal

pub returns-else-is_written : goal.returns-else-is_written
returns-else-is_written c =
    let one = c.args.one.now in
    let other = c.args.other.now in (
      λ is. second_column one other c.args.col (c.is_written-else-is_written.ensures.0 is),
      λ has. elim (either_column one other c.args.col has) [
        | inl first ↦ absurd (let yes = c.is_written.ensures.1 first in cc)
        | inr second ↦ c.is_written-else-is_written.ensures.1 second
      ],
    )
