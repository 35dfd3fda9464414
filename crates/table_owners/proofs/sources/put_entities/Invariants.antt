use Rattle.table_owners.specs.Puts.{Puts}
use Rattle.table_owners.specs.Sources.{IsEntitySource, writes_to}
use Rattle.table_owners.proofs.sources.put_entities.Given as goal

-- the fragments so far are put
abbrev pub invariant-loop-number : goal.invariant-loop-number
invariant-loop-number l = Puts writes_to IsEntitySource l.mapping.fragments l.number l.initial.sources.items l.sources.items
