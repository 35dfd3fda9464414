use Rattle.std.proofs.Common.{◌≤◌, ◌++◌, List, length, refl, ap, subst, ◌∙◌}
use Rattle.std.specs.List.{flat_map}
use Rattle.std.proofs.lemmas.List.{take_all}
use Rattle.std.proofs.lemmas.Option.{slice_get_read}
use Rattle.emc_base.specs.Lists.{At}
use Rattle.emc_base.proofs.Turns.{flat_more}
use Rattle.case_laws.specs.declared.region_cases.case.CaseCell.{CaseCell}
use Rattle.case_laws.specs.declared.region_cases.case.CaseRow.{CaseRow}
use Rattle.query_cases.specs.case_index.Codes.{row_code, told_number}
use Rattle.query_cases.proofs.case_index.codes.case_code.Goals as goal

pub loop-row-preserved : goal.loop-row-preserved
loop-row-preserved c =
    let telling = c.args.telling.now in
    let rows : List CaseRow = c.args.case.now.rows in
    let row : CaseRow = c.row-item.result in
    let i = c.loop-row.row-index in
    let before = c.loop-row.code.items in
    let here : At rows i row = subst (λ (list : List CaseRow). At list i row) c.as_slice-row-items.ensures.items
    (slice_get_read _ _ i _ refl c.loop-row-test.true c.row-item.is) in
    c.in_ok-add_told.ensures
    ∙ ap (λ (cells : List CaseCell). before ++ row_code telling row.table (told_number cells)) c.as_slice.ensures.items
    ∙ flat_more (λ (one : CaseRow). row_code telling one.table (told_number one.cells)) rows i row before c.loop-row.invariant here

pub returns : goal.returns
returns c =
    let rows : List CaseRow = c.args.case.now.rows in
    let i = c.loop-row.row-index in
    let past : length rows ≤ i = subst (λ (list : List CaseRow). length list ≤ i) c.as_slice-row-items.ensures.items c.loop-row-test.false in
    c.loop-row.invariant ∙ ap (flat_map (λ (one : CaseRow). row_code c.args.telling.now one.table (told_number one.cells))) (take_all i rows past)
