use Rattle.std.proofs.Common.{List, ap, map, not, ◌∙◌}
use Rattle.std.proofs.lemmas.List.{take_all}
use Rattle.csdl_names.specs.declared.csdl_lists.raw.RawType.{RawType}
use Rattle.csdl_associations.proofs.csdl_association_sets.concrete.concrete_marks.Goals as goal

pub returns : goal.returns
returns c = c.loop-ty.invariant ∙ ap (λ (types : List RawType). map (λ type. not type.is_abstract) types)
    (take_all c.loop-ty.ty-index c.as_slice-ty-items.result.now c.loop-ty-test.false ∙ c.as_slice-ty-items.ensures.items)
