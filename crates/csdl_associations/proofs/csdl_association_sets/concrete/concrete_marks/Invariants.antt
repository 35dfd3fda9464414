use Rattle.std.proofs.Common.{◌≡◌, map, not, take}
use Rattle.csdl_associations.proofs.csdl_association_sets.concrete.concrete_marks.Given as goal

-- the marks of the types that were passed
abbrev pub invariant-loop-ty : goal.invariant-loop-ty
invariant-loop-ty l = l.marks.items ≡ map (λ type. not type.is_abstract) (take l.ty-index l.ty-items)
