-- The table of a name, as it is found.
use Rattle.std.proofs.Common.{◌≡◌, ℕ, List, Any, Contains, Bool, bytes_eq, find, Some, None}
use Rattle.std.proofs.lemmas.Slice.Eq.{bytes_eq-Decides}
use Rattle.round_trip.specs.Words.{Table}
use Rattle.regions.proofs.region_laws.pattern.Choices.{found_passes, none_passes}
use Rattle.schema_laws.proofs.state_demand.lists.Lists.{of_any}

module _ (name : List ℕ) (tables : List Table) where
  abbrev has_name : Table → Bool
  has_name table = bytes_eq table.name name

  -- what is found is one of the tables, and has the name
  pub found_named : (table : Table) → find (λ one. bytes_eq one.name name) tables ≡ Some table → Contains tables table × (table.name ≡ name)
  found_named table found =
      let passes = found_passes has_name tables table found in
      (passes.0, (bytes_eq-Decides table.name name).0 passes.1)

  -- where one has it, one is found
  pub one_named : Any (λ table. table.name ≡ name) tables → find (λ one. bytes_eq one.name name) tables ≡ None → ⊥
  one_named any none =
      let one = of_any (λ (table : Table). table.name ≡ name) tables any in
      none_passes has_name tables one.0 none one.1 ((bytes_eq-Decides one.0.name name).1 one.2)
