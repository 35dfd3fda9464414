use Rattle.std.proofs.Common.{arith}
use Rattle.std.proofs.lemmas.Grind.{common_steps}
use Rattle.std.proofs.Common.{◌+◌, ℕ, List, sym, subst}
use Rattle.csdl_meaning.proofs.csdl_making.Below.{AreBelow, children_more}
use Rattle.csdl_meaning.proofs.csdl_making.forest.children_in.Goals as goal

pub loop-place-preserved : goal.loop-place-preserved
loop-place-preserved c =
    let raw = c.args.lookups.now.model.now in
    let P : List (List ℕ) → Type 0 = λ lists. AreBelow raw (c.loop-place.place + 1) lists in
    subst P (sym c.in_ok-put_at.ensures) (children_more raw c.loop-place.place c.loop-place.children.items c.base.result (sym c.base.ensures) c.loop-place.invariant)

pub returns : goal.returns
returns c = grind (arith, common_steps)
