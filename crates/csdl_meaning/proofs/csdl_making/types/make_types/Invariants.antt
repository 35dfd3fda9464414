use Rattle.std.proofs.Common.{◌≡◌, ◌≤◌, ℕ, map, take}
use Rattle.std.specs.List.{enumerate_from}
use Rattle.csdl_meaning.specs.Meaning.{type_of}
use Rattle.csdl_meaning.specs.csdl_making.Making.{list_at}
use Rattle.csdl_meaning.proofs.csdl_making.types.make_types.Given as goal

-- the types that were passed; what the others inherit is still there
abbrev pub invariant-loop-place : goal.invariant-loop-place
invariant-loop-place l =
    (l.types ≡ map (λ place. type_of l.lookups.model.now place.0 place.1) (take l.place (enumerate_from 0 l.lookups.model.now.types)))
    × ((i : ℕ) → l.place ≤ i → list_at l.keys.items i ≡ list_at l.initial.keys.items i)
    × ((i : ℕ) → l.place ≤ i → list_at l.props.items i ≡ list_at l.initial.props.items i)
