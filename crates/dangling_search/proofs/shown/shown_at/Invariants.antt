use Rattle.std.proofs.Common.{◌≡◌}
use Rattle.std.specs.Option.{option_map_or}
use Rattle.round_trip.specs.Words.{Null}
use Rattle.regions.specs.Settled.{known}
use Rattle.region_states.specs.region_basis.BasisOf.{basis_of}
use Rattle.dangling_keys.specs.Showing.{cell_at, col_beside, shown_at}
use Rattle.dangling_search.proofs.shown.shown_at.Given as goal

-- what stands beside the column in what is left is what does in all
abbrev pub invariant-loop-to : goal.invariant-loop-to
invariant-loop-to l =
    option_map_or (cell_at (basis_of l.parts) l.look.of.now l.key.from) (col_beside l.col l.to-iterator.a.rest.now l.to-iterator.b.rest.now) (known Null)
    ≡ shown_at (basis_of l.parts) l.look.of.now l.key l.col
