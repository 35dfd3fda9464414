use Rattle.std.proofs.Common.{◌≡◌, map, take}
use Rattle.witness_state.specs.SmallLinks.{plain_end, root_at}
use Rattle.witness_state.proofs.small_links.supporting.roots_at.Given as goal

-- the keys at the ends so far have come
abbrev pub invariant-loop-one : goal.invariant-loop-one
invariant-loop-one l = l.roots ≡ map (λ one. root_at l.model l.row (plain_end one)) (take l.one-index l.ends)
