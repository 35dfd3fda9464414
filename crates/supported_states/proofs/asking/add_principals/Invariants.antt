use Rattle.std.proofs.Common.{◌≡◌, ◌++◌, take}
use Rattle.supported_states.proofs.Asked.{asked_over}
use Rattle.supported_states.proofs.asking.add_principals.Given as goal

-- the principals by the associations so far have come
abbrev pub invariant-loop-assoc : goal.invariant-loop-assoc
invariant-loop-assoc l = l.keys ≡ l.initial.keys ++ asked_over l.model l.set l.entity (take l.assoc-index l.assoc-items)
