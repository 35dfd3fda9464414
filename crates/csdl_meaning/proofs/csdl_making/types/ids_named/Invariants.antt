use Rattle.std.proofs.Common.{◌≡◌, take}
use Rattle.std.specs.List.{filter_map}
use Rattle.csdl_meaning.specs.Meaning.{prop_named}
use Rattle.csdl_meaning.proofs.csdl_making.types.ids_named.Given as goal

-- the ids of the names that were passed
abbrev pub invariant-loop-name : goal.invariant-loop-name
invariant-loop-name l = l.ids ≡ filter_map (prop_named l.lookups.model.now l.place) (take l.name-index l.name-items)
