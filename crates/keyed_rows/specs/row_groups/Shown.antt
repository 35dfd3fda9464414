-- What lent keys show, and groups by them.
-- Source: this project's.
use Rattle.std.specs.Prelude.{List, map}
use Rattle.std.specs.Borrow.{Bor}
use Rattle.std.specs.Global.{Vec}
use Rattle.edm_types.specs.Types.{Value}
use Rattle.keyed_rows.specs.declared.row_groups.groups.KeyGroup.{KeyGroup}

-- the cells that are lent
abbrev pub shown_cells : Vec (Bor Value) → List Value
shown_cells cells = map (λ cell. cell.now) cells.items

-- an item with its key
abbrev pub shown_keyed : {X : Type 0} → Vec (Bor Value) × X → List Value × X
shown_keyed keyed = (shown_cells keyed.0, keyed.1)

-- a group: its key and its items
abbrev pub shown_group : {X : Type 0} → KeyGroup X → List Value × List X
shown_group group = (shown_cells group.key, group.items.items)
