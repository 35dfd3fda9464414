use Rattle.std.proofs.Common.{◌≡◌, ◌++◌, List}
use Rattle.entity_changes.specs.declared.change.Change.{Change}
use Rattle.entity_changes.specs.making.Fates.{Foretells, HasSize}
use Rattle.entity_changes.proofs.making.foretold.Foretold.of.Given as goal

-- what the changes behind those that are left do is told
abbrev pub invariant-loop-change : goal.invariant-loop-change
invariant-loop-change l = HasSize l.sets l.assocs l.told × (later : List Change) × (l.changes ≡ l.change-iterator.iter.rest.now ++ later)
    × Foretells l.model later l.told
