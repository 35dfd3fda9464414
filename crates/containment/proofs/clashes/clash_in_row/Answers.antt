use Rattle.std.proofs.Common.{◌≤◌, List, length, refl, subst}
use Rattle.std.proofs.lemmas.Option.{slice_get_read}
use Rattle.emc_base.specs.Lists.{At}
use Rattle.regions.specs.declared.pattern.Symbol.{Symbol}
use Rattle.containment.proofs.Clashing.{all_apart, one_more_apart}
use Rattle.containment.proofs.clashes.clash_in_row.Goals as goal

pub loop-index-preserved : goal.loop-index-preserved
loop-index-preserved c =
    let i = c.loop-index.index in
    let cell : List Symbol = c.cell-item.result in
    let here = subst (λ (list : List (List Symbol)). At list i cell) c.as_slice-cell-items.ensures.items (slice_get_read _ _ i _ refl c.loop-index-test.true c.cell-item.is) in
    one_more_apart c.args.model.now c.args.atoms.now c.args.row.now i cell c.as_slice.result.now here c.as_slice.ensures.items c.loop-index.invariant c.in_default.ensures.none

pub returns-clause-none : goal.returns-clause-none
returns-clause-none c =
    let i = c.loop-index.index in
    all_apart c.args.model.now c.args.atoms.now c.args.row.now i
    (subst (λ (list : List (List Symbol)). length list ≤ i) c.as_slice-cell-items.ensures.items c.loop-index-test.false) c.loop-index.invariant
