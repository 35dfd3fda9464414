use Rattle.std.proofs.Common.{◌≡◌, ◌↔◌, ℕ, ◌+◌, length}
use Rattle.csdl_names.specs.csdl_lists.References.{base_of, names_in}
use Rattle.csdl_names.specs.Unresolved.{LacksProp}
use Rattle.graphs.proofs.base_chains.Depths.{HasDepth}
use Rattle.csdl_names.proofs.lookups.Lookups.lacks_prop.Given as goal

-- the type lacks what the place lacks that was climbed to, by a step for each count
abbrev pub invariant-loop : goal.invariant-loop
invariant-loop l =
    let model = l.self.model.now in
    (LacksProp (names_in model) model l.name l.ty ↔ LacksProp (names_in model) model l.name l.place)
    × ((n : ℕ) → HasDepth (base_of (names_in model) model) n l.ty → (m : ℕ) × HasDepth (base_of (names_in model) model) m l.place × (n ≡ m + l.counter))
    × (l.end ≡ length model.types)
