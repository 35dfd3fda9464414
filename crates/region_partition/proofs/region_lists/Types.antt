-- The concrete types of a set, while a loop passes the types of the model.
use Rattle.std.proofs.Common.{◌≡◌, ℕ, ◌+◌, ◌≤◌, List, [], ◌∷◌, ◌++◌, map, filter, take, length, Bool, true, false, not, ◌&&◌, ap, ◌∙◌}
use Rattle.std.specs.List.{enumerate_from}
use Rattle.std.proofs.lemmas.List.{map-append}
use Rattle.emc_base.specs.Lists.{At}
use Rattle.emc_base.proofs.Loops.{take-enumerated}
use Rattle.emc_base.proofs.Numbered.{filter_kept, filter_left, numbered_at}
use Rattle.round_trip.specs.Words.{TypeId, EntitySet, EntityType}
use Rattle.schema_laws.specs.sound_demand.Deriving.{derives}
use Rattle.cells.specs.declared.parts.Parts.{Parts}
use Rattle.regions.specs.Regions.{types_of}
use Rattle.region_states.specs.region_basis.BasisOf.{basis_of}

module _ (parts : Parts) (entry : EntitySet) where
  abbrev pub is_listed : ℕ × EntityType → Bool
  is_listed placed = not placed.1.is_abstract && derives parts.model.now (record { index = placed.0 }) entry.element

  -- those among the types so far
  abbrev pub types_before : ℕ → List TypeId
  types_before i = map (λ placed. record { index = placed.0 }) (filter is_listed (take i (enumerate_from 0 parts.model.now.types)))

  module _ (i : ℕ) (declared : EntityType) (here : At parts.model.now.types i declared) where
    pub type_listed : is_listed (i, declared) ≡ true → types_before (i + 1) ≡ types_before i ++ record { index = i } ∷ []
    type_listed is =
        ap (map (λ (placed : ℕ × EntityType). record { index = placed.0 })) (filter_kept is_listed (enumerate_from 0 parts.model.now.types) i (i, declared)
        (numbered_at parts.model.now.types i declared here) is)
        ∙ map-append (λ (placed : ℕ × EntityType). record { index = placed.0 }) (filter is_listed (take i (enumerate_from 0 parts.model.now.types))) ((i, declared) ∷ [])

    pub type_left : is_listed (i, declared) ≡ false → types_before (i + 1) ≡ types_before i
    type_left is = ap (map (λ (placed : ℕ × EntityType). record { index = placed.0 })) (filter_left is_listed (enumerate_from 0 parts.model.now.types) i (i, declared)
        (numbered_at parts.model.now.types i declared here) is)

  pub types_whole : (i : ℕ) → length parts.model.now.types ≤ i → types_before i ≡ types_of (basis_of parts) entry
  types_whole i end = ap (λ (entries : List (ℕ × EntityType)). map (λ placed. record { index = placed.0 }) (filter is_listed entries)) (take-enumerated parts.model.now.types i end)
