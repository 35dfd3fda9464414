use Rattle.std.proofs.Common.{◌≡◌, ◌++◌, ◌==◌, ◌&&◌, filter, map, take}
use Rattle.region_states.specs.region_basis.BasisOf.{basis_of}
use Rattle.regions.specs.Symbols.{fragment_writing, selects_region}
use Rattle.symbolic_rows.specs.Written.{in_symbols}
use Rattle.symbolic_rows.proofs.writings.add_entities.Given as goal

-- what the fragments so far write has come
abbrev pub invariant-loop-fragment : goal.invariant-loop-fragment
invariant-loop-fragment l = map in_symbols l.writings.items ≡ map in_symbols l.initial.writings.items
    ++ map fragment_writing (filter (λ fragment. (fragment.set.index == l.region.set.index) && selects_region (basis_of l.parts) l.region fragment)
    (take l.fragment-index l.parts.mapping.now.fragments))
