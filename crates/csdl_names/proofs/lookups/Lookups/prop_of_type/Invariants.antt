use Rattle.std.proofs.Common.{◌≡◌, ◌+◌, ℕ, length}
use Rattle.csdl_names.specs.csdl_lists.References.{names_in}
use Rattle.csdl_names.specs.PropPlaces.{prop_of_type, prop_upto}
use Rattle.csdl_names.proofs.lookups.Lookups.prop_of_type.Given as goal

-- what is asked of the type is asked of the place that was climbed to, with a type less for each step
abbrev pub invariant-loop : goal.invariant-loop
invariant-loop l =
    let model = l.self.model.now in
    (left : ℕ) × (left + l.counter ≡ length model.types) × (l.end ≡ length model.types)
    × (prop_upto (names_in model) model left l.place l.name ≡ prop_of_type (names_in model) model l.ty l.name)
