use Rattle.std.specs.BTreeMap.{get}
use Rattle.table_owners.specs.table_writers.Ownerships.{ownership_of}
use Rattle.table_owners.specs.declared.table_writers.ownership.Ownership.{Ownership}
use Rattle.table_owners.proofs.table_writers.Orders.{ownership_cmp}
use Rattle.table_owners.proofs.table_writers.Writing.{SameKey}
use Rattle.table_owners.proofs.table_writers.FirstOfKey.{Knows}
use Rattle.table_owners.proofs.table_writers.pairings.first_other_pairing.Given as goal

-- the first writer of each table and owner is noted, and those that were passed pair the key as the first of theirs
abbrev pub invariant-loop-place : goal.invariant-loop-place
invariant-loop-place l = (q : Ownership) → Knows ownership_of SameKey l.writers l.place q (get ownership_cmp l.firsts q)
