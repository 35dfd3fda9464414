use Rattle.std.proofs.Common.{◌≡◌, map, take}
use Rattle.population.specs.LinkStates.{placed_at}
use Rattle.witness_state.specs.SmallLinks.{plain_end}
use Rattle.witness_state.proofs.small_links.supporting.given_at.Given as goal

-- the entities at the ends so far have come
abbrev pub invariant-loop-one : goal.invariant-loop-one
invariant-loop-one l = l.given ≡ map (λ one. placed_at l.model l.row (plain_end one)) (take l.one-index l.ends)
