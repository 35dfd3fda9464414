use Rattle.std.proofs.Common.{◌≡◌, ◌++◌, take}
use Rattle.csdl_meaning.proofs.csdl_making.lists.put_all.Given as goal

-- the items that were passed stand behind the others
abbrev pub invariant-loop-item : goal.invariant-loop-item
invariant-loop-item l = l.list ≡ l.initial.list ++ take l.item-index l.item-items
