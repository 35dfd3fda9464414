use Rattle.std.proofs.Common.{◌≡◌, ◌<◌, ℕ, ◌++◌, ◌∷◌, [], List, length, get_or, map, take, sym, ap, subst, ◌∙◌}
use Rattle.std.specs.List.{enumerate_from}
use Rattle.emc_base.proofs.Loops.{take-enumerated}
use Rattle.regions.specs.declared.pattern.Symbol.{Symbol}
use Rattle.region_states.specs.region_basis.BasisOf.{basis_of}
use Rattle.containment.specs.same_conflicts.Forms.{held_at}
use Rattle.containment.specs.declared.same_conflicts.forms.Held.{Held}
use Rattle.containment.proofs.same_conflicts.Lists.{map_more}
use Rattle.containment.proofs.same_conflicts.forms.row_form.Goals as goal

pub loop-index-preserved : goal.loop-index-preserved
loop-index-preserved c =
    let f : ℕ × List Symbol → Held = held_at (basis_of c.args.parts.now) c.args.row.now.table c.args.atoms.now in
    let cells = c.args.row.now.cells in
    let i = c.loop-index.index in
    let cell = c.cell-item.result in
    let here : cell ≡ get_or cells i cell = subst (λ list. cell ≡ get_or list i cell) c.as_slice-cell-items.ensures.items c.cell-item.is in
    let within : i < length cells = subst (λ list. i < length list) c.as_slice-cell-items.ensures.items c.loop-index-test.true in
    let made = c.in_ok-held_at.ensures ∙ ap (λ listed. f (i, listed)) c.as_slice.ensures.items in
    let added = c.in_ok-push.ensures.items in
    added ∙ ap (λ last. c.loop-index.cells.items ++ last ∷ []) made ∙ map_more f cells i cell within here c.loop-index.cells.items c.loop-index.invariant

pub returns : goal.returns
returns c =
    let f : ℕ × List Symbol → Held = held_at (basis_of c.args.parts.now) c.args.row.now.table c.args.atoms.now in
    let items = c.as_slice-cell-items.result.now in
    let cells = c.args.row.now.cells in
    let same = c.as_slice-cell-items.ensures.items in
    let is = c.loop-index.invariant
    ∙ ap (λ list. map f (take c.loop-index.index (enumerate_from 0 list))) (sym same)
    ∙ ap (map f) (take-enumerated items c.loop-index.index c.loop-index-test.false)
    ∙ ap (λ list. map f (enumerate_from 0 list)) same in
    λ k. (c.args.row.now.table.index, is k)
