-- Supports of the same wanted keys, where the given entities have the same keys, are one.
use Rattle.std.proofs.Common.{◌≡◌, ◌==◌, ℕ, zero, suc, List, [], ◌∷◌, ◌++◌, map, filter, flat_map, length, not, Bool, refl, sym, ap, ◌∙◌, if◌then◌else◌}
use Rattle.std.specs.List.{list_any}
use Rattle.round_trip.specs.Words.{SetId, Value, EntityModel, key_of}
use Rattle.schema_laws.specs.short_values.Numbers.{numbers_from}
use Rattle.schema_laws.specs.state_demand.MadeTables.{distinct}
use Rattle.schema_laws.specs.state_demand.Selecting.{same_key}
use Rattle.population.specs.Numbered.{number_count, numbered_key}
use Rattle.population.specs.declared.placed.PlacedKey.{PlacedKey}
use Rattle.population.specs.Support.{free_keys, is_taken, levels, same_placed, steps, support}
use Rattle.population.specs.Supported.{given_in}
use Rattle.population.specs.declared.placed.Placed.{Placed}

-- filters by the same test
filter_agree : {X : Type 0} (p q : X → Bool) → ((x : X) → p x ≡ q x) → (xs : List X) → filter p xs ≡ filter q xs
filter_agree p q same [] = refl
filter_agree p q same (x ∷ xs) = λ i. if same x i then (x ∷ filter_agree p q same xs i) else filter_agree p q same xs i

-- the given entities of each set have the same keys
abbrev pub HaveSameKeys : EntityModel → List Placed → List Placed → Type 0
HaveSameKeys model given others = (u : SetId) → map (key_of model) (given_in given u) ≡ map (key_of model) (given_in others u)

module _ (model : EntityModel) (outer : ℕ) (given others : List Placed) (same_keys : HaveSameKeys model given others) where
  taken_agree : (placed : PlacedKey) → is_taken model outer given placed ≡ is_taken model outer others placed
  taken_agree placed = ap (λ keys. list_any (same_key placed.key) (map (numbered_key model outer placed.set) (numbers_from 0 (number_count model)) ++ keys)) (same_keys placed.set)

  free_agree : (keys : List PlacedKey) → free_keys model outer given keys ≡ free_keys model outer others keys
  free_agree keys = filter_agree (λ placed. not (is_taken model outer given placed)) (λ placed. not (is_taken model outer others placed)) (λ placed. ap not (taken_agree placed)) keys

  levels_agree : (n : ℕ) (keys : List PlacedKey) → levels model outer given n keys ≡ levels model outer others n keys
  levels_agree zero keys = refl
  levels_agree (suc n) keys =
      ap (λ rest. keys ++ rest) (levels_agree n (free_keys model outer given (flat_map (steps model outer) keys)) ∙ ap (levels model outer others n) (free_agree (flat_map (steps model outer) keys)))

  pub support_agree : (wanted : List PlacedKey) → support model outer given wanted ≡ support model outer others wanted
  support_agree wanted =
      ap (distinct same_placed) (levels_agree (length model.sets) (free_keys model outer given wanted) ∙ ap (levels model outer others (length model.sets)) (free_agree wanted))
