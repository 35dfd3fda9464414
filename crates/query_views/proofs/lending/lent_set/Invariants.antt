use Rattle.std.proofs.Common.{◌≡◌, ◌++◌, length}
use Rattle.std.specs.List.{AllZip}
use Rattle.std.specs.Vec.Iter.{into_iter_items, into_iter_len}
use Rattle.cells.specs.Cells.{is_free_in}
use Rattle.region_states.specs.region_basis.BasisOf.{basis_of}
use Rattle.query_views.proofs.Lent.{IsLentBy}
use Rattle.query_views.proofs.lending.lent_set.Given as goal

-- the entities of the groups so far are lent; behind these groups come the ones that are left
abbrev pub invariant-loop-group : goal.invariant-loop-group
invariant-loop-group l = AllZip (IsLentBy (basis_of l.parts) (is_free_in l.parts.cells.now) l.tables l.set) l.yielded l.entities.items
    × (into_iter_items l.initial.group-iterator ≡ l.yielded ++ into_iter_items l.group-iterator)
    × (into_iter_len l.group-iterator ≡ length (into_iter_items l.group-iterator))
