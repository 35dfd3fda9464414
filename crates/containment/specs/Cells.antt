-- What is wrong with the cells of a row.
-- Source: this project's; the round-trip criterion of Melnik, Adya and Bernstein, SIGMOD 2007, part by part.
use Rattle.std.specs.Prelude.{◌≡◌, ◌&&◌, List, Bool, false, IsTrue}
use Rattle.round_trip.specs.Words.{ColId, EntityModel}
use Rattle.condition_logic.specs.declared.atoms.AtomOf.{AtomOf}
use Rattle.regions.specs.Basis.{Basis}
use Rattle.regions.specs.Settled.{clashes}
use Rattle.regions.specs.Shown.{cell_in}
use Rattle.regions.specs.declared.pattern.Focus.{Focus}
use Rattle.regions.specs.declared.pattern.PatternRow.{PatternRow}
use Rattle.regions.specs.declared.pattern.Symbol.{Symbol}
use Rattle.region_states.specs.conflicts.Facts.{is_required, lists, stands_for_null}
use Rattle.containment.specs.declared.clashes.Clash.{Clash}
use Rattle.containment.specs.declared.nulls.Gap.{Gap}
use Rattle.containment.specs.Lent.{symbol_of}

-- whether a cell lists the two symbols, and they can differ
abbrev pub are_apart : EntityModel → List AtomOf → List Symbol → Symbol → Symbol → Bool
are_apart model atoms cell one two = lists cell one && lists cell two && clashes model atoms one two

-- whether a symbol stands for null in a column of a row, and this isn't nullable
abbrev pub lacks : Basis → Focus → PatternRow → ColId → Symbol → Bool
lacks basis of row col one = is_required basis.schema.store row.table col && stands_for_null basis of (cell_in row col) one

-- a clash is one in the row
abbrev pub ClashesIn : EntityModel → List AtomOf → Clash → PatternRow → Type 0
ClashesIn model atoms clash row = (row.table ≡ clash.table) × IsTrue (are_apart model atoms (cell_in row clash.col) clash.one.now clash.two.now)

-- the row has no clash
abbrev pub HasNoClash : EntityModel → List AtomOf → PatternRow → Type 0
HasNoClash model atoms row = (col : ColId) (one two : Symbol) → are_apart model atoms (cell_in row col) one two ≡ false

-- a gap is one in the row
abbrev pub GapsIn : Basis → Focus → Gap → PatternRow → Type 0
GapsIn basis of gap row = (row.table ≡ gap.table) × IsTrue (lacks basis of row gap.col (symbol_of gap.lack))

-- the row has no gap
abbrev pub HasNoGap : Basis → Focus → PatternRow → Type 0
HasNoGap basis of row = (col : ColId) (one : Symbol) → lacks basis of row col one ≡ false
