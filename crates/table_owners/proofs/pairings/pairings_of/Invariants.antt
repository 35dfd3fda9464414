use Rattle.std.proofs.Common.{◌≡◌}
use Rattle.round_trip.specs.Words.{Table}
use Rattle.table_owners.specs.Made.{Made}
use Rattle.table_owners.specs.Sources.{pairs_at, props_beside}
use Rattle.table_owners.proofs.pairings.pairings_of.Given as goal

-- what is written beside the keys so far
abbrev pub invariant-loop-place : goal.invariant-loop-place
invariant-loop-place l = Made (λ t (table : Table) pairing. pairing ≡ props_beside table.key (pairs_at l.mapping l.sources.items t)) l.store.tables l.place l.pairings
