-- The small states are those of what they are made of.
use Rattle.std.proofs.Common.{◌≡◌, ℕ, List, [], ◌∷◌, Bool}
use Rattle.round_trip.specs.Words.{AssocId, Assoc, EntityModel, State}
use Rattle.failure_laws.specs.SmallLinks.{roots_at, small_link, small_pair, small_shared}
use Rattle.population.specs.Kept.{part_of}
use Rattle.population.specs.Made.{state_of}
use Rattle.population.specs.declared.placed.PlacedKey.{PlacedKey}
use Rattle.population.specs.declared.placed.Supporting.{Supporting}
use Rattle.witness_state.specs.SmallLinks.{linked, shared, three_ends, two_ends, unlinked}

module _ (model : EntityModel) (outer : ℕ) (roots : List PlacedKey) where
  -- the part of one state, and that of one of two
  abbrev pub part : Supporting → State
  part one = part_of model (state_of model outer one ∷ []) roots (state_of model outer one)

  abbrev pub part_beside : Supporting → Supporting → Supporting → State
  part_beside one two own = part_of model (state_of model outer one ∷ (state_of model outer two ∷ [])) roots (state_of model outer own)

module _ (model : EntityModel) (outer : ℕ) (a : AssocId) (assoc : Assoc) (roots : List PlacedKey) where
  module _ (at : roots ≡ roots_at model outer (two_ends model outer assoc)) (one : Supporting) (is : one ≡ linked model outer a assoc) where
    pub link_is : part model outer roots one ≡ small_link model outer a assoc
    link_is = λ k. part model outer (at k) (is k)

    module _ (two : Supporting) (other : two ≡ unlinked model outer assoc) where
      pub one_is : part_beside model outer roots one two one ≡ (small_pair model outer a assoc).0
      one_is = λ k. part_beside model outer (at k) (is k) (other k) (is k)

      pub two_is : part_beside model outer roots one two two ≡ (small_pair model outer a assoc).1
      two_is = λ k. part_beside model outer (at k) (is k) (other k) (other k)

  module _ (first : Bool) (at : roots ≡ roots_at model outer (three_ends model outer first assoc)) (one : Supporting) (is : one ≡ shared model outer a assoc first) where
    pub shared_is : part model outer roots one ≡ small_shared model outer a assoc first
    shared_is = λ k. part model outer (at k) (is k)
