use Rattle.std.proofs.Common.{◌≡◌, map, take}
use Rattle.csdl_meaning.specs.ModelMeaning.{set_of}
use Rattle.csdl_meaning.proofs.csdl_making.sets.sets_in.Given as goal

-- the sets that were passed
abbrev pub invariant-loop-set : goal.invariant-loop-set
invariant-loop-set l = l.sets ≡ map (set_of l.lookups.model.now) (take l.set-index l.set-items)
