use Rattle.std.proofs.Common.{ℕ, ◌<◌, List, All, length, sym, subst, ◌∙◌}
use Rattle.csdl_meaning.specs.Meaning.{is_top}
use Rattle.csdl_meaning.proofs.csdl_making.Below.{types_inside}
use Rattle.csdl_meaning.proofs.csdl_making.forest.forest_in.Goals as goal

pub nodes_at-requires-clause-inside : goal.nodes_at-requires-clause-inside
nodes_at-requires-clause-inside c =
    let raw = c.args.lookups.now.model.now in
    let P : List ℕ → Type 0 = λ places. All (λ i. i < length raw.types) places in
    subst P (sym (c.as_slice-2.ensures.items ∙ c.in_ok-tops.ensures)) (types_inside raw (is_top raw))
