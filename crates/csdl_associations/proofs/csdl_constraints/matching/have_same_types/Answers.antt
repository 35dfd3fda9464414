use Rattle.std.proofs.Common.{◌≡◌, ◌↔◌, IsTrue, List, Option, subst₂}
use Rattle.csdl_names.specs.csdl_lists.References.{names_in}
use Rattle.csdl_types.specs.declared.simple.PropType.{PropType}
use Rattle.csdl_associations.specs.csdl_constraints.Sides.{types_in, types_of_side}
use Rattle.csdl_associations.proofs.csdl_constraints.matching.have_same_types.Goals as goal

pub returns : goal.returns
returns g c =
    let model = c.args.sides.now.lookups.now.model.now in
    let typing = g.T.Typing.types c.args.typing.now in
    let association = c.args.association.now in
    let constraint = c.args.constraint.now in
    let P : List (Option PropType) → List (Option PropType) → Type 0 = λ one other. IsTrue c.match_types.result ↔ (one ≡ other) in
    let principal : types_in model typing c.type_of_role-one.result c.as_slice.result.now ≡ types_of_side (names_in model) model typing association constraint.principal =
    λ k. types_in model typing (c.type_of_role-one.ensures k) (c.as_slice.ensures.items k) in
    let dependent : types_in model typing c.type_of_role-other.result c.as_slice-2.result.now ≡ types_of_side (names_in model) model typing association constraint.dependent =
    λ k. types_in model typing (c.type_of_role-other.ensures k) (c.as_slice-2.ensures.items k) in
    subst₂ P principal dependent c.match_types.ensures
