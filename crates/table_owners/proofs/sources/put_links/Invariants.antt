use Rattle.std.proofs.Common.{◌≡◌, length}
use Rattle.round_trip.specs.Words.{EntityModel}
use Rattle.round_trip.specs.Between.{schema_of}
use Rattle.table_owners.specs.Puts.{Puts}
use Rattle.table_owners.specs.Sources.{IsLinkSource, links_to}
use Rattle.table_owners.proofs.sources.put_links.Given as goal

-- the fragments so far are put
abbrev pub invariant-loop-number : goal.invariant-loop-number
invariant-loop-number l = (length l.sources.items ≡ length l.initial.sources.items)
    × ((model : EntityModel) → Puts links_to (IsLinkSource (schema_of model l.store l.mapping)) l.mapping.links l.number l.initial.sources.items l.sources.items)
