-- The small parts of states with links of an association: what the entities at their ends need, and nothing else.
-- Source: this project's choice of the states that it shows.
use Rattle.std.specs.Prelude.{ℕ, List, [], ◌∷◌, map, Bool, not}
use Rattle.round_trip.specs.Words.{AssocId, Assoc, EntityModel, State}
use Rattle.population.specs.Kept.{part_of}
use Rattle.population.specs.LinkStates.{PlainEnd, at_first, at_second, key_at, link_state, other_at, two_links_state, unlinked_state}
use Rattle.population.specs.declared.placed.PlacedKey.{PlacedKey}

module _ (model : EntityModel) (outer : ℕ) where
  -- the keys of the entities at these ends
  abbrev pub roots_at : List PlainEnd → List PlacedKey
  roots_at ends = map (λ one. record { set = one.end.set; key = key_at model outer one }) ends

  module _ (a : AssocId) (assoc : Assoc) where
    -- both ends of the association
    abbrev pub both_ends : List PlainEnd
    both_ends = at_first model outer assoc ∷ (at_second model outer assoc ∷ [])

    -- what they need where they are linked
    abbrev pub small_link : State
    small_link = part_of model (link_state model outer a assoc ∷ []) (roots_at both_ends) (link_state model outer a assoc)

    -- the same with the link and without it: what they need in either state
    abbrev pub part_in_either : State → State
    part_in_either state = part_of model (link_state model outer a assoc ∷ (unlinked_state model outer a assoc ∷ [])) (roots_at both_ends) state

    abbrev pub small_pair : State × State
    small_pair = (part_in_either (link_state model outer a assoc), part_in_either (unlinked_state model outer a assoc))

    -- what they and a second partner of the entity at this end need
    abbrev pub small_shared : Bool → State
    small_shared first = part_of model (two_links_state model outer a first assoc ∷ [])
        (roots_at (at_first model outer assoc ∷ (at_second model outer assoc ∷ (other_at model outer (not first) assoc ∷ [])))) (two_links_state model outer a first assoc)
