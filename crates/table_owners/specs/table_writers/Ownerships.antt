-- A table and its owner by numbers, for the map in which they are looked up.
use Rattle.std.specs.Prelude.{ℕ}
use Rattle.table_owners.specs.declared.table_writers.writer.Owner.{Owner}
use Rattle.table_owners.specs.declared.table_writers.writer.Owner.TheVariants.{Set, Assoc}
use Rattle.table_owners.specs.declared.table_writers.writer.Writer.{Writer}
use Rattle.table_owners.specs.declared.table_writers.ownership.Ownership.{Ownership}
use Rattle.table_owners.specs.declared.table_writers.ownership.Ownership.TheVariants.{BySet, ByAssoc}

-- a table with the number of its owner
abbrev pub owned_by : ℕ → Owner → Ownership
owned_by table (Set owner) = BySet table owner.index
owned_by table (Assoc owner) = ByAssoc table owner.index

-- the table that is written, and its owner
abbrev pub ownership_of : Writer → Ownership
ownership_of writer = owned_by writer.table.index writer.owner
