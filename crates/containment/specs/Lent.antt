-- What is lent: of a cell by what it is null, and whom a pattern tells of.
-- Source: this project's.
use Rattle.regions.specs.declared.pattern.Symbol.{Symbol}
use Rattle.regions.specs.declared.pattern.Symbol.TheVariants as symbol
use Rattle.containment.specs.declared.nulls.Lack.{Lack}
use Rattle.containment.specs.declared.nulls.Lack.TheVariants as lack
use Rattle.regions.specs.declared.pattern.Focus.{Focus}
use Rattle.regions.specs.declared.pattern.Focus.TheVariants as focus
use Rattle.containment.specs.declared.lent.FocusRef.{FocusRef}
use Rattle.containment.specs.declared.lent.FocusRef.TheVariants as lent

-- the symbol that stands for null
abbrev pub symbol_of : Lack → Symbol
symbol_of lack.Nothing = symbol.Null
symbol_of (lack.By one) = one.now

-- the focus
abbrev pub focus_in : FocusRef → Focus
focus_in (lent.Entity region) = focus.Entity region.now
focus_in (lent.Link a) = focus.Link a
