-- Changes that are of one of some lists.
-- Source: this project's.
use Rattle.std.specs.Prelude.{◌<◌, ℕ}
use Rattle.entity_changes.specs.declared.change.Change.{Change}
use Rattle.entity_changes.specs.declared.change.Change.TheVariants as change

-- there are so many entity sets and association sets, and the change is of one of them
abbrev pub HasPlace : ℕ → ℕ → Change → Type 0
HasPlace sets assocs (change.Insert s entity) = s.index < sets
HasPlace sets assocs (change.Update s entity) = s.index < sets
HasPlace sets assocs (change.Delete s key) = s.index < sets
HasPlace sets assocs (change.Link a link) = a.index < assocs
HasPlace sets assocs (change.Unlink a link) = a.index < assocs
