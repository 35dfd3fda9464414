use Rattle.std.proofs.Common.{◌≡◌, ◌+◌, length, sum_by, take}
use Rattle.csdl_names.specs.csdl_lists.References.{names_in}
use Rattle.csdl_names.specs.Climbs.{steps_upto}
use Rattle.csdl_names.proofs.climbs.left_by_names.Given as goal

-- what is left, and the steps to the names that were passed
abbrev pub invariant-loop-name : goal.invariant-loop-name
invariant-loop-name l =
    let model = l.lookups.model.now in
    l.left + sum_by (steps_upto (names_in model) model (length model.types) l.ty) (take l.name-index l.name-items) ≡ l.most
