use Rattle.std.proofs.Common.{◌≡◌, ◌+◌, ◌++◌, ◌∷◌, [], ℕ, List, sym, subst, ◌∙◌, ap, arith}
use Rattle.row_plans.specs.Waits.{AreEnds}
use Rattle.row_plans.proofs.waiting.Listed.{no_places, one_place}
use Rattle.row_plans.proofs.waiting.ends.no_ends.Goals as goal

pub loop-place-init : goal.loop-place-init
loop-place-init c = no_places c.new-ends.result.items c.new-ends.ensures.items

pub loop-place-preserved : goal.loop-place-preserved
loop-place-preserved c =
    let P : List (List ℕ) → Type 0 = λ xs. AreEnds (c.loop-place._place + 1) [] xs in
    let added : c.push.new.self.items ≡ c.loop-place.ends.items ++ [] ∷ [] =
    c.in_ok-push.ensures.items ∙ ap (λ (xs : List ℕ). c.loop-place.ends.items ++ xs ∷ []) c.empty.ensures in
    subst P (sym added) (one_place c.loop-place._place c.loop-place.ends.items c.loop-place.invariant)

pub returns : goal.returns
returns c =
    let P : ℕ → Type 0 = λ n. AreEnds n [] c.loop-place.ends.items in
    let same : c.loop-place._place ≡ c.args.count = omega arith in
    subst P same c.loop-place.invariant
