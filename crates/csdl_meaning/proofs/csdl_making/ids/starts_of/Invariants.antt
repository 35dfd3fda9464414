use Rattle.std.proofs.Common.{◌≡◌, map}
use Rattle.std.specs.List.{range_with_len}
use Rattle.csdl_meaning.specs.Meaning.{declared_before}
use Rattle.csdl_meaning.proofs.csdl_making.ids.starts_of.Given as goal

-- where the types that were passed begin, and where the next one does
abbrev pub invariant-loop-ty : goal.invariant-loop-ty
invariant-loop-ty l = (l.starts ≡ map (declared_before l.model) (range_with_len 0 l.ty-index)) × (l.before ≡ declared_before l.model l.ty-index)
