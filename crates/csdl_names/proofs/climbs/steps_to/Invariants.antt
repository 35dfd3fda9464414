use Rattle.std.proofs.Common.{◌≡◌, ◌+◌, ℕ, length}
use Rattle.csdl_names.specs.csdl_lists.References.{names_in}
use Rattle.csdl_names.specs.Climbs.{steps_upto}
use Rattle.csdl_names.proofs.climbs.steps_to.Given as goal

-- the steps that were taken and those that are left from the place that was climbed to are all
abbrev pub invariant-loop-steps : goal.invariant-loop-steps
invariant-loop-steps l =
    let model = l.lookups.model.now in
    (left : ℕ) × (left + l.steps ≡ length model.types) × (l.count ≡ length model.types)
    × (l.steps + steps_upto (names_in model) model left l.place l.name ≡ steps_upto (names_in model) model (length model.types) l.ty l.name)
