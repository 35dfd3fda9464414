use Rattle.std.proofs.Common.{◌≤◌, List, length, true, false, refl, sym, subst}
use Rattle.std.proofs.lemmas.Option.{slice_get_read}
use Rattle.emc_base.specs.Lists.{At}
use Rattle.regions.specs.declared.pattern.Symbol.{Symbol}
use Rattle.witness_state.proofs.region_values.Faced.{faces_at, told_at}
use Rattle.witness_state.proofs.region_values.Passed.{none_more, none_there, one_there}
use Rattle.witness_state.proofs.region_values.facing.faces_null_in.Goals as goal

pub returns-then-faces_null_at : goal.returns-then-faces_null_at
returns-then-faces_null_at c = λ basis is.
    (let rival = c.args.rival.now in
    let row = c.args.row.now in
    let i = c.loop-index.index in
    let cell : List Symbol = c.as_slice.result.now in
    let item : At row.cells i c.cell-item.result = subst (λ (list : List (List Symbol)). At list i c.cell-item.result) c.as_slice-cell-items.ensures.items
    (slice_get_read _ _ i _ refl c.loop-index-test.true c.cell-item.is) in
    let here : At row.cells i cell = subst (λ (one : List Symbol). At row.cells i one) (sym c.as_slice.ensures.items) item in
    one_there (faces_at basis rival.other.now c.args.property row) row.cells i cell here
    (told_at basis rival is c.args.property row (i, cell) true (c.if-faces_null_at.ensures basis.schema.model)))

pub loop-index-preserved : goal.loop-index-preserved
loop-index-preserved c = λ basis is.
    (let rival = c.args.rival.now in
    let row = c.args.row.now in
    let i = c.loop-index.index in
    let cell : List Symbol = c.as_slice.result.now in
    let item : At row.cells i c.cell-item.result = subst (λ (list : List (List Symbol)). At list i c.cell-item.result) c.as_slice-cell-items.ensures.items
    (slice_get_read _ _ i _ refl c.loop-index-test.true c.cell-item.is) in
    let here : At row.cells i cell = subst (λ (one : List Symbol). At row.cells i one) (sym c.as_slice.ensures.items) item in
    none_more (faces_at basis rival.other.now c.args.property row) row.cells i cell here (c.loop-index.invariant basis is)
    (told_at basis rival is c.args.property row (i, cell) false (c.if-faces_null_at.ensures basis.schema.model)))

pub returns : goal.returns
returns c = λ basis is.
    (let row = c.args.row.now in
    let end : length row.cells ≤ c.loop-index.index =
    subst (λ (list : List (List Symbol)). length list ≤ c.loop-index.index) c.as_slice-cell-items.ensures.items c.loop-index-test.false in
    none_there (faces_at basis c.args.rival.now.other.now c.args.property row) row.cells c.loop-index.index end (c.loop-index.invariant basis is))
