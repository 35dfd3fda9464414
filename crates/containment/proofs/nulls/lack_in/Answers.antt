use Rattle.std.proofs.Common.{◌≡◌, ◌==◌, List, Option, false, true≢false, length, ap, sym, subst, ◌∙◌}
use Rattle.std.specs.Option.{IfNone}
use Rattle.region_states.specs.region_basis.BasisOf.{basis_of}
use Rattle.regions.specs.declared.pattern.Symbol.{Symbol}
use Rattle.region_states.specs.conflicts.Facts.{stands_for_null}
use Rattle.containment.specs.declared.nulls.Lack.{Lack}
use Rattle.containment.proofs.Lacking.{none_stands, symbol_stands}
use Rattle.containment.specs.Lent.{focus_in}
use Rattle.containment.proofs.nulls.lack_in.Goals as goal

pub returns-in_err-symbol-clause-none : goal.returns-in_err-symbol-clause-none
returns-in_err-symbol-clause-none c =
    let basis = basis_of c.args.parts.now in
    let of = focus_in c.args.of in
    let cell = c.args.cell.now in
    let P : Option Lack → Type 0 = λ found. IfNone found ((one : Symbol) → stands_for_null basis of cell one ≡ false) in
    subst P (sym c.from_residual.ensures)
    (none_stands basis of cell
    (λ empty. true≢false (ap (λ (list : List Symbol). length list == 0) (sym empty) ∙ sym c.is_empty.ensures ∙ c.if-is_empty.false))
    (sym c.in_err-symbol.ensures))

pub returns-clause-found : goal.returns-clause-found
returns-clause-found c = symbol_stands (basis_of c.args.parts.now) (focus_in c.args.of) c.args.cell.now c.in_ok-symbol.symbol.now (sym c.in_ok-symbol.ensures)
