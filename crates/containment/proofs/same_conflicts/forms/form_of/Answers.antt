use Rattle.std.proofs.Common.{List, [], ◌∷◌, ◌++◌, map, take, refl, sym, ap, subst, ◌∙◌, Contains}
use Rattle.std.proofs.lemmas.List.{map-append}
use Rattle.std.proofs.lemmas.Option.{slice_get_read}
use Rattle.emc_base.specs.Lists.{At}
use Rattle.emc_base.proofs.Loops.{take_item}
use Rattle.emc_base.proofs.Mapped.{contains_at}
use Rattle.regions.specs.declared.pattern.PatternRow.{PatternRow}
use Rattle.regions.specs.declared.pattern.Pattern.{Pattern}
use Rattle.region_states.specs.region_basis.BasisOf.{basis_of}
use Rattle.containment.specs.same_conflicts.Forms.{row_form, shown_row}
use Rattle.containment.proofs.same_conflicts.Certain.{columns_there}
use Rattle.containment.proofs.same_conflicts.forms.form_of.Goals as goal

pub row_form-requires-clause-columns : goal.row_form-requires-clause-columns
row_form-requires-clause-columns c =
    let rows = c.as_slice-row-items.result.now in
    let row = c.row-item.result in
    let i = c.loop-row.row-index in
    let there : Contains rows row = contains_at rows i row (slice_get_read _ _ i _ refl c.loop-row-test.true c.row-item.is) in
    let among : Contains c.args.one.now.pattern.rows row = subst (λ list. Contains list row) c.as_slice-row-items.ensures.items there in
    columns_there (basis_of c.args.parts.now) c.args.one.now.region.now row
    (subst (λ (pattern : Pattern). Contains pattern.rows row) c.requires.written among)

pub loop-row-preserved : goal.loop-row-preserved
loop-row-preserved c =
    let form = row_form (basis_of c.args.parts.now) c.as_slice-atoms.result.now in
    let rows : List PatternRow = c.args.one.now.pattern.rows in
    let row = c.row-item.result in
    let i = c.loop-row.row-index in
    let made = c.in_ok-row_form.field-0 in
    let here : At rows i row = subst (λ (list : List PatternRow). At list i row) c.as_slice-row-items.ensures.items
    (slice_get_read _ _ i _ refl c.loop-row-test.true c.row-item.is) in
    ap (map shown_row) c.in_ok-push.ensures.items ∙ map-append shown_row c.loop-row.rows.items (made ∷ [])
    ∙ (λ k. c.loop-row.invariant k ++ c.in_ok-row_form.ensures k ∷ [])
    ∙ sym (ap (map form) (take_item rows i row here) ∙ map-append form (take i rows) (row ∷ []))
