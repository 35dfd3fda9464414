use Rattle.std.proofs.Common.{◌≡◌, ◌∷◌, [], ◌++◌, ◌∙◌, ℕ, List, map, string_bytes, sym, ap, append_assoc, append-nil}
use Rattle.std.proofs.lemmas.List.{nil_from_length}
use Rattle.std.specs.Vec.Iter.{into_iter_items}
use Rattle.mapping_run.proofs.arguments.each_text.Goals as goal

pub loop-argument-preserved : goal.loop-argument-preserved
loop-argument-preserved c =
    let before = c.loop-argument.texts in
    let rest = map string_bytes (into_iter_items c.next.new.self) in
    let pushed : c.push.new.self ≡ before ++ string_bytes c.in-Some.argument ∷ [] = c.in_ok-push.ensures.ok ∙ ap (λ (text : List ℕ). before ++ text ∷ []) c.from_string.ensures in
    ap (λ (texts : List (List ℕ)). texts ++ rest) pushed
    ∙ append_assoc before (string_bytes c.in-Some.argument ∷ []) rest
    ∙ ap (λ items. before ++ map string_bytes items) (sym c.in-Some.ensures.steps.0)
    ∙ c.loop-argument.invariant

pub returns : goal.returns
returns c =
    let before = c.loop-argument.texts in
    let none : into_iter_items c.loop-argument.argument-iterator ≡ [] = nil_from_length _ (sym c.loop-argument.argument-iterator.rest.ok.0 ∙ c.in-None.ensures.steps.0) in
    sym (append-nil before) ∙ ap (λ items. before ++ map string_bytes items) (sym none) ∙ c.loop-argument.invariant
