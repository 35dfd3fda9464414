use Rattle.std.proofs.Common.{◌≡◌, ◌++◌, flat_map, take}
use Rattle.std.specs.List.{enumerate_from}
use Rattle.supported_states.specs.small_parts.Sides.{partners_of_assoc}
use Rattle.supported_states.proofs.small_parts.needs.add_partners.Given as goal

-- the partners by the associations so far have come
abbrev pub invariant-loop-index : goal.invariant-loop-index
invariant-loop-index l = l.needs ≡ l.initial.needs ++ flat_map (partners_of_assoc l.seat) (take l.index (enumerate_from 0 l.assoc-items))
