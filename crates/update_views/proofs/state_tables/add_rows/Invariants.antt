use Rattle.std.proofs.Common.{◌≡◌, length}
use Rattle.update_views.specs.Placed.{with_rows}
use Rattle.update_views.proofs.state_tables.add_rows.Given as goal

-- the rows so far are added
abbrev pub invariant-loop-placed : goal.invariant-loop-placed
invariant-loop-placed l = (length l.tables ≡ length l.initial.tables) × (l.tables ≡ with_rows l.initial.tables l.yielded)
