-- What is lent: what a cell holds, and a focus with its pattern.
-- Source: this project's.
use Rattle.std.specs.Prelude.{◌≡◌}
use Rattle.round_trip.specs.Words.{Null}
use Rattle.regions.specs.Basis.{Basis}
use Rattle.regions.specs.Patterns.{pattern_of}
use Rattle.regions.specs.Settled.{Settled, free, known}
use Rattle.dangling_search.specs.declared.shown.Look.{Look}
use Rattle.dangling_search.specs.declared.shown.Shown.{Shown}
use Rattle.dangling_search.specs.declared.shown.Shown.TheVariants as shown

-- the same, with the value or the symbol itself
abbrev pub settled_of : Shown → Settled
settled_of shown.Nothing = known Null
settled_of (shown.Known value) = known value.now
settled_of (shown.Symbol one nullable) = free one.now nullable

-- the pattern is the focus's
abbrev pub IsLook : Basis → Look → Type 0
IsLook basis look = look.pattern.now ≡ pattern_of basis look.of.now
