use Rattle.std.proofs.Common.{ℕ}
use Rattle.std.specs.BTreeMap.{get}
use Rattle.std.specs.Ordering.{nat_cmp}
use Rattle.table_owners.proofs.table_writers.Writing.{table_of, SameOwner}
use Rattle.table_owners.proofs.table_writers.FirstOfKey.{Knows}
use Rattle.table_owners.proofs.table_writers.owners.first_other_owner.Given as goal

-- the first writer of each table is noted, and those that were passed have the owner of the first of their table
abbrev pub invariant-loop-place : goal.invariant-loop-place
invariant-loop-place l = (q : ℕ) → Knows table_of SameOwner l.writers l.place q (get nat_cmp l.firsts q)
