use Rattle.std.proofs.Common.{◌≡◌, ◌<◌, ℕ, List}
use Rattle.emc_base.specs.Lists.{At}
use Rattle.csdl_names.specs.csdl_lists.References.{names_in}
use Rattle.csdl_associations.specs.csdl_constraints.Sides.{type_in}
use Rattle.csdl_associations.proofs.csdl_constraints.matching.match_types.Given as goal

-- those that were passed name the same
abbrev pub invariant-loop-place : goal.invariant-loop-place
invariant-loop-place g l =
    let model = l.sides.lookups.now.model.now in
    (j : ℕ) (x y : List ℕ) → At l.ones j x → At l.others j y → j < l.place → type_in (names_in model) model (g.T.Typing.types l.typing) l.one x ≡ type_in (names_in model) model (g.T.Typing.types l.typing) l.other y
