use Rattle.std.proofs.Common.{length, All, take}
use Rattle.table_owners.proofs.key_matching.Taking.{Takes}
use Rattle.table_owners.proofs.key_matching.matching.+completes.Given as goal

-- each call has one property less
abbrev pub decreases-completes : goal.decreases-completes
decreases-completes l = length l.props.now

-- none of the columns that were passed can be taken
abbrev pub invariant-loop-col : goal.invariant-loop-col
invariant-loop-col l = All (λ col. ¬ Takes l.prop l.others l.cols l.taken l.pairs col) (take l.col-index l.cols)
