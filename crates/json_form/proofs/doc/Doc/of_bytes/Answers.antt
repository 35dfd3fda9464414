use Rattle.std.proofs.Common.{ap, sym, ◌∙◌, true≢false}
use Rattle.json_form.specs.TreeParts.{tree_at}
use Rattle.json_form.proofs.Views.{tree_at-None, tree_at-text}
use Rattle.json_form.proofs.doc.Doc.of_bytes.Goals as goal

pub returns-in-Ok : goal.returns-in-Ok
returns-in-Ok c = ap tree_at (sym c.as_slice.ensures.bytes) ∙ tree_at-text _ c.in-Ok.ensures.ok.0 ∙ c.in-Ok.ensures.ok.1

pub returns-in-Err-2 : goal.returns-in-Err-2
returns-in-Err-2 c =
    ap tree_at (sym c.as_slice.ensures.bytes)
    ∙ tree_at-None _ (c.in-Err.ensures.err (λ memory. true≢false (sym (c.is_memory.ensures.1 memory) ∙ c.if-is_memory.false)))
