use Rattle.std.proofs.Common.{◌++◌, ◌∙◌, ℕ, List, length, flat_map, refl, sym, ap}
use Rattle.std.proofs.lemmas.List.{take_all}
use Rattle.std.proofs.lemmas.Option.{slice_get_read}
use Rattle.texts.specs.change_texts.Texts.{row_change_text}
use Rattle.mapping_run.proofs.answers.Saving.{passed_item}
use Rattle.mapping_run.proofs.answers.save.lines.Goals as goal

pub loop-change-preserved : goal.loop-change-preserved
loop-change-preserved c =
    let changes = c.args.changes.now in
    let f = row_change_text c.args.schema.now.store in
    let here = slice_get_read changes (length changes) c.loop-change.change-index c.change-item.result refl c.loop-change-test.true c.change-item.is in
    c.in_ok-extend_from_slice.ensures.items
    ∙ ap (λ (more : List ℕ). c.loop-change.text.items ++ more) (c.as_bytes.ensures.value ∙ c.as_str.ensures.text ∙ c.in_ok-line.ensures)
    ∙ ap (λ (done : List ℕ). done ++ f c.change-item.result) c.loop-change.invariant
    ∙ sym (passed_item f changes c.loop-change.change-index c.change-item.result here)

pub returns : goal.returns
returns c =
    c.from_vec.ensures ∙ c.loop-change.invariant
    ∙ ap (flat_map (row_change_text c.args.schema.now.store)) (take_all c.loop-change.change-index c.args.changes.now c.loop-change-test.false)
