use Rattle.std.proofs.Common.{◌≡◌, map, take}
use Rattle.csdl_meaning.specs.Kinds.{enum_kind}
use Rattle.csdl_meaning.proofs.csdl_making.kinds.enum_kinds.Given as goal

-- the kinds of the enumerations that were passed
abbrev pub invariant-loop-enumeration : goal.invariant-loop-enumeration
invariant-loop-enumeration l = l.kinds ≡ map enum_kind (take l.enumeration-index l.enumeration-items)
