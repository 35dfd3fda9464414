use Rattle.std.proofs.Common.{sym, ◌∙◌, true≢false}
use Rattle.layouts.proofs.Walks.{leaf_faultless}
use Rattle.layouts.proofs.walk.fault_of_leaf.Goals as goal

pub returns : goal.returns
returns c = leaf_faultless c.args.leaf _ c.requires (λ set. true≢false (sym (c.is_set.ensures.1 set) ∙ c.if-is_set.false))
