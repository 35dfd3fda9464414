use Rattle.std.proofs.Common.{◌≡◌, ◌++◌, Bool, map}
use Rattle.std.specs.Global.{Vec}
use Rattle.std.specs.Vec.Iter.{into_iter_items}
use Rattle.table_owners.proofs.free_columns.as_lists.Given as goal

-- the lists so far, and those that are left
abbrev pub invariant-loop-columns : goal.invariant-loop-columns
invariant-loop-columns l = goal.iterator-loop-columns.can_next l.columns-iterator
    × goal.iterator-loop-columns.is_finite l.columns-iterator
    × (l.lists ++ map (λ (columns : Vec Bool). columns.items) (into_iter_items l.columns-iterator) ≡ map (λ (columns : Vec Bool). columns.items) l.fn.free.items)
