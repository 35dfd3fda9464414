use Rattle.std.proofs.Common.{◌≡◌, List, true, false, refl, sym, subst}
use Rattle.std.proofs.lemmas.Option.{slice_get_read}
use Rattle.emc_base.specs.Lists.{At}
use Rattle.round_trip.specs.Words.{Column}
use Rattle.regions.specs.declared.pattern.Symbol.{Symbol}
use Rattle.region_states.specs.conflicts.Facts.{stands_for_null}
use Rattle.region_states.specs.region_basis.BasisOf.{basis_of}
use Rattle.containment.specs.Lent.{focus_in, symbol_of}
use Rattle.containment.proofs.Lacking.{lack_there, none_further}
use Rattle.containment.proofs.nulls.gap_in_row.Goals as goal

pub loop-index-preserved : goal.loop-index-preserved
loop-index-preserved c =
    let basis = basis_of c.args.parts.now in
    let of = focus_in c.args.of in
    none_further basis of c.args.row.now c.loop-index.index c.loop-index.invariant
    (λ one. subst (λ (cell : List Symbol). stands_for_null basis of cell one ≡ false) c.cell_in.ensures (c.in_default.ensures.none one))

pub returns-in-Some-clause-found : goal.returns-in-Some-clause-found
returns-in-Some-clause-found c =
    let basis = basis_of c.args.parts.now in
    let of = focus_in c.args.of in
    let i = c.loop-index.index in
    let one = symbol_of c.in-Some.lack in
    let table = c.in_ok-table.table.now in
    let here : At table.cols i c.column-item.result = subst (λ (list : List Column). At list i c.column-item.result) c.as_slice-column-items.ensures.items
    (slice_get_read _ _ i _ refl c.loop-index-test.true c.column-item.is) in (
      refl,
      lack_there basis of c.args.row.now (record { index = i }) one table c.column-item.result (sym c.in_ok-table.ensures.item) here c.if-column.false
          (subst (λ (cell : List Symbol). stands_for_null basis of cell one ≡ true) c.cell_in.ensures c.in-Some.ensures.found),
    )
