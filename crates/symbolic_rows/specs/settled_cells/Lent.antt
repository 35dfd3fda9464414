-- What is lent of a symbol: what it can be.
-- Source: this project's.
use Rattle.round_trip.specs.Words.{Null}
use Rattle.regions.specs.Settled.{Possible, single, multi}
use Rattle.symbolic_rows.specs.declared.settled_cells.settled.CanBe.{CanBe}
use Rattle.symbolic_rows.specs.declared.settled_cells.settled.CanBe.TheVariants as can_be

-- the same, with the value itself
abbrev pub shown_possible : CanBe → Possible
shown_possible can_be.Null = single Null
shown_possible (can_be.One value) = single value.now
shown_possible (can_be.Several nullable) = multi nullable
