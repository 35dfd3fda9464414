use Rattle.std.proofs.Common.{◌≡◌, map, take}
use Rattle.std.specs.Option.{option_and_then}
use Rattle.csdl_names.specs.csdl_lists.Scopes.{names_of}
use Rattle.csdl_names.proofs.csdl_lists.bases.bases_of.Given as goal

-- the bases of the types that were passed
abbrev pub invariant-loop-ty : goal.invariant-loop-ty
invariant-loop-ty l = l.bases ≡ map (λ type. option_and_then (names_of l.scope).type_named type.base) (take l.ty-index l.ty-items)
