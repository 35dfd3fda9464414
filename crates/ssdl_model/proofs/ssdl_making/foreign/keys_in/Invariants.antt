use Rattle.std.proofs.Common.{◌≡◌, take}
use Rattle.std.specs.List.{filter_map}
use Rattle.ssdl_model.specs.ssdl_making.StoreMeaning.{key_of_association}
use Rattle.ssdl_model.proofs.ssdl_making.foreign.keys_in.Given as goal

-- the foreign keys of the associations that were passed
abbrev pub invariant-loop-association : goal.invariant-loop-association
invariant-loop-association l = l.keys ≡ filter_map (key_of_association l.lookups.model.now) (take l.association-index l.association-items)
