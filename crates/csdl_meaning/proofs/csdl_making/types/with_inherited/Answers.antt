use Rattle.std.proofs.Common.{ℕ, List, length, Option, sym, ap, ◌∙◌}
use Rattle.graphs.specs.base_chains.Chains.{base_at}
use Rattle.csdl_meaning.proofs.csdl_making.Numbered.{inherited_by}
use Rattle.csdl_meaning.proofs.csdl_making.types.with_inherited.Goals as goal

pub inherited-requires-clause-alike : goal.inherited-requires-clause-alike
inherited-requires-clause-alike c = c.requires.alike ∙ sym c.args.lookups.now.counted ∙ ap (λ (bases : List (Option ℕ)). length bases) (sym c.as_slice.ensures.items)

pub returns : goal.returns
returns c each are =
    inherited_by c.args.lookups.now.model.now each c.args.own.items c.in_ok-lists.lists.items c.as_slice.result.now (ap base_at c.as_slice.ensures.items ∙ c.args.lookups.now.based)
    (ap (λ (bases : List (Option ℕ)). length bases) c.as_slice.ensures.items ∙ c.args.lookups.now.counted) are c.in_ok-lists.ensures
