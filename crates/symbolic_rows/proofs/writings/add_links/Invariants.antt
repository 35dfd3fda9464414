use Rattle.std.proofs.Common.{◌≡◌, ◌++◌, ◌==◌, filter, map, take, false}
use Rattle.regions.specs.Symbols.{link_fragment_writing}
use Rattle.symbolic_rows.specs.Written.{in_symbols}
use Rattle.symbolic_rows.proofs.writings.add_links.Given as goal

-- what the fragments so far write has come
abbrev pub invariant-loop-fragment : goal.invariant-loop-fragment
invariant-loop-fragment l = map in_symbols l.writings.items ≡ map in_symbols l.initial.writings.items
    ++ map (link_fragment_writing false false) (filter (λ fragment. fragment.assoc.index == l.assoc.index) (take l.fragment-index l.parts.mapping.now.links))
