use Rattle.std.proofs.Common.{◌≡◌, take}
use Rattle.std.specs.List.{filter_map}
use Rattle.csdl_meaning.specs.ModelMeaning.{prop_id}
use Rattle.csdl_meaning.proofs.csdl_making.associations.ids_of_type.Given as goal

-- the ids of the names that were passed
abbrev pub invariant-loop-name : goal.invariant-loop-name
invariant-loop-name l = l.ids ≡ filter_map (prop_id l.lookups.model.now l.place) (take l.name-index l.name-items)
