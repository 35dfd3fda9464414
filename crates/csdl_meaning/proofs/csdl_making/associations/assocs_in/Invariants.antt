use Rattle.std.proofs.Common.{◌≡◌, take}
use Rattle.std.specs.List.{filter_map}
use Rattle.csdl_meaning.specs.ModelMeaning.{assoc_of}
use Rattle.csdl_meaning.proofs.csdl_making.associations.assocs_in.Given as goal

-- what was found of the sets that were passed
abbrev pub invariant-loop-set : goal.invariant-loop-set
invariant-loop-set l = l.assocs ≡ filter_map (assoc_of l.lookups.model.now) (take l.set-index l.set-items)
