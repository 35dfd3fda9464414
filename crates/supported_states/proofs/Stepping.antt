-- Levels of steps that hold each key once: they hold together what all levels hold.
use Rattle.std.proofs.Common.{◌≡◌, ℕ, zero, suc, List, ◌++◌, append_assoc, flat_map, not, sym, ap, ◌∙◌}
use Rattle.round_trip.specs.Words.{EntityModel}
use Rattle.schema_laws.specs.state_demand.MadeTables.{distinct}
use Rattle.population.specs.Support.{free_keys, is_taken, levels, same_placed, step_count, steps, support}
use Rattle.population.specs.declared.placed.Placed.{Placed}
use Rattle.population.specs.declared.placed.PlacedKey.{PlacedKey}
use Rattle.population.proofs.plain.Placed.{Decides-placed}
use Rattle.supported_states.proofs.Once.{behind, both_once, filter_once, flat_once, once_once}

module _ (model : EntityModel) (outer : ℕ) (given : List Placed) where
  abbrev once : List PlacedKey → List PlacedKey
  once keys = distinct same_placed keys

  abbrev free : List PlacedKey → List PlacedKey
  free keys = free_keys model outer given keys

  abbrev next : List PlacedKey → List PlacedKey
  next keys = free (flat_map (steps model outer) keys)

  -- free keys, once, and the next level of keys, once
  free_once : (keys : List PlacedKey) → once (free keys) ≡ free (once keys)
  free_once keys = filter_once same_placed Decides-placed (λ placed. not (is_taken model outer given placed)) keys

  next_once : (keys others : List PlacedKey) → once keys ≡ once others → once (next keys) ≡ once (next others)
  next_once keys others is =
      let found : once (flat_map (steps model outer) keys) ≡ once (flat_map (steps model outer) others) =
      flat_once same_placed Decides-placed (steps model outer) keys ∙ ap (λ list. once (flat_map (steps model outer) list)) is ∙ sym (flat_once same_placed Decides-placed (steps model outer) others) in
      free_once (flat_map (steps model outer) keys) ∙ ap free found ∙ sym (free_once (flat_map (steps model outer) others))

  -- free keys of keys once are the free ones
  free_same : (keys : List PlacedKey) → once (free keys) ≡ once (free (once keys))
  free_same keys = free_once keys ∙ ap free (sym (once_once same_placed Decides-placed keys)) ∙ sym (free_once (once keys))

  -- levels from the same keys hold the same
  levels_same : (n : ℕ) (keys others : List PlacedKey) → once keys ≡ once others → once (levels model outer given n keys) ≡ once (levels model outer given n others)
  levels_same zero keys others is = is
  levels_same (suc n) keys others is =
      both_once same_placed Decides-placed keys others (levels model outer given n (next keys)) (levels model outer given n (next others)) is
      (levels_same n (next keys) (next others) (next_once keys others is))

  -- the first level
  pub first_turn : (wanted level : List PlacedKey) → level ≡ free (once wanted) → support model outer given wanted ≡ once (levels model outer given (step_count model outer) level)
  first_turn wanted level is =
      levels_same (step_count model outer) (free wanted) (free (once wanted)) (free_same wanted) ∙ ap (λ keys. once (levels model outer given (step_count model outer) keys)) (sym is)

  -- one level more
  pub next_turn : (n left : ℕ) → left ≡ suc n → (all level more : List PlacedKey) → more ≡ free (once (flat_map (steps model outer) level))
      → once (all ++ levels model outer given left level) ≡ once ((all ++ level) ++ levels model outer given n more)
  next_turn n left one all level more is =
      ap (λ k. once (all ++ levels model outer given k level)) one
      ∙ ap once (sym (append_assoc all level (levels model outer given n (next level))))
      ∙ behind same_placed Decides-placed (all ++ level) (levels model outer given n (next level)) (levels model outer given n more)
      (levels_same n (next level) more (free_same (flat_map (steps model outer) level) ∙ ap once (sym is)))
