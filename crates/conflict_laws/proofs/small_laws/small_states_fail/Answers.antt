use Rattle.conflict_laws.proofs.Exact.{small_states}
use Rattle.conflict_laws.proofs.same.lost.LeftOut.{absent_fails}
use Rattle.conflict_laws.proofs.same.lost.Lost.{lost_fails}
use Rattle.conflict_laws.proofs.same.rivals.RivalsFail.{rivals_fail}
use Rattle.conflict_laws.proofs.small_laws.small_states_fail.Goals as goal

pub returns-clause-rivals : goal.returns-clause-rivals
returns-clause-rivals c basis is limits clear = rivals_fail basis (small_states basis is limits clear)

pub returns-clause-lost : goal.returns-clause-lost
returns-clause-lost c basis is limits clear = lost_fails basis (small_states basis is limits clear)

pub returns-clause-absent : goal.returns-clause-absent
returns-clause-absent c basis is limits clear = absent_fails basis (small_states basis is limits clear)
