use Rattle.std.proofs.Common.{◌∙◌}
use Rattle.std.specs.Option.{option_and_then}
use Rattle.csdl_names.specs.declared.csdl_lists.raw.RawProp.{RawProp}
use Rattle.csdl_associations.proofs.csdl_constraints.sides.Sides.type_of_prop.Goals as goal

pub returns : goal.returns
returns g c =
    let typing = g.T.Typing.types c.args.typing.now in
    c.type_named.ensures ∙ (λ k. typing (c.as_str.ensures.text k)) ∙ (λ k. option_and_then (λ (other : RawProp). typing other.kind) (c.in_ok-prop.ensures k))
