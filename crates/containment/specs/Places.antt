-- What is found at links by where they stand alone: partners of any number, and links that nothing maps.
-- Source: this project's; CSDL version 3, Multiplicity; MSL version 3, AssociationSetMapping.
use Rattle.std.specs.Prelude.{Option, None, Some}
use Rattle.edm_types.specs.declared.model.Mult.TheVariants.{Many}
use Rattle.round_trip.specs.Words.{AssocId, Mult}
use Rattle.round_trip.specs.declared.FailKind.{FailKind}
use Rattle.round_trip.specs.declared.FailKind.TheVariants as kind
use Rattle.region_states.specs.declared.conflicts.conflict.Conflict.{Conflict}
use Rattle.region_states.specs.declared.conflicts.conflict.Conflict.TheVariants as conflict

-- of an association that is hosted with such partners
abbrev pub many_found : FailKind → AssocId → Mult → Option Conflict
many_found kind.Clash a Many = Some (conflict.ManyLinks a)
many_found _ a _ = None

-- of one that nothing maps
abbrev pub unmapped_found : FailKind → AssocId → Option Conflict
unmapped_found kind.Same a = Some (conflict.Unmapped a)
unmapped_found _ a = None
