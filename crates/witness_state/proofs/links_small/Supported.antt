-- What the states with links of an association are made of is supported.
use Rattle.std.proofs.Common.{◌≡◌, ◌≢◌, ℕ, ◌≤◌, ⊎_elim, List, [], ◌∷◌, AllPairs, Contains, Bool, true, false, not, refl, sym, subst, arith}
use Rattle.emc_base.proofs.Mapped.{contains_at}
use Rattle.emc_base.proofs.Members.{contains_cons_cases, contains_nil}
use Rattle.edm_types.specs.declared.model.Mult.TheVariants.{Many}
use Rattle.round_trip.specs.Words.{AssocId, Assoc, EntityModel}
use Rattle.round_trip.specs.soundness.models.Constraints.{IsSoundEnd}
use Rattle.population.specs.LinkStates.{PlainEnd, at_first, at_second, other_at}
use Rattle.population.specs.Made.{AreWhole}
use Rattle.population.specs.Numbered.{end_of}
use Rattle.population.proofs.made.Picked.{whole_keys}
use Rattle.population.proofs.plain.Numbered.{sound_end}
use Rattle.population.proofs.plain.Pairs.{pairs_three, pairs_two}
use Rattle.population.proofs.supporting.Ends.{are_keys}
use Rattle.population.proofs.supporting.LinkStates.{link_holds, links_differ, two_hold}
use Rattle.population.specs.declared.placed.PlacedLink.{PlacedLink}
use Rattle.supported_states.specs.small_parts.Small.{IsSupported}
use Rattle.witness_state.specs.Small.{IsLinkable}
use Rattle.witness_state.specs.SmallLinks.{linked, shared, supporting, three_ends, two_ends, unlinked}

module _ (model : EntityModel) (outer : ℕ) (a : AssocId) (assoc : Assoc) (is : IsLinkable model outer a assoc) where
  -- an end of the association, with a small index
  record IsOfAssoc (one : PlainEnd) : Type 0 where
    side : Bool
    at : one.end ≡ end_of side assoc
    small : one.index ≤ 1900

  first_of : IsOfAssoc (at_first model outer assoc)
  first_of = record { side = true; at = refl; small = omega arith }

  second_of : IsOfAssoc (at_second model outer assoc)
  second_of = record { side = false; at = refl; small = omega arith }

  other_of : (side : Bool) → IsOfAssoc (other_at model outer side assoc)
  other_of side = record { side = side; at = refl; small = omega arith }

  module _ (ends : List PlainEnd) (each : (one : PlainEnd) → Contains ends one → IsOfAssoc one) (apart : AllPairs (λ one two. one.index ≢ two.index) ends) where
    sound : (one : PlainEnd) → Contains ends one → IsSoundEnd model one.end
    sound one there = let of = each one there in
        subst (IsSoundEnd model) (sym of.at) (sound_end model is.numbers.sound assoc (contains_at model.assocs a.index assoc is.here) of.side)

    -- the keys of what supports these ends are whole
    ends_whole : (links : List PlacedLink) → AreWhole model (supporting model outer ends links).keys
    ends_whole links = whole_keys model outer (supporting model outer ends links).given (supporting model outer ends links).keys
        (are_keys model outer is.numbers ends sound (λ one there. (each one there).small) apart)

  -- both ends, and three
  both_of : (one : PlainEnd) → Contains (two_ends model outer assoc) one → IsOfAssoc one
  both_of one there = ⊎_elim
      (λ (here : one ≡ at_first model outer assoc). subst IsOfAssoc (sym here) first_of)
      (λ (later : Contains (at_second model outer assoc ∷ []) one). ⊎_elim
      (λ (here : one ≡ at_second model outer assoc). subst IsOfAssoc (sym here) second_of)
      (λ (never : Contains [] one). absurd (contains_nil one never))
      (contains_cons_cases (at_second model outer assoc) [] one later))
      (contains_cons_cases (at_first model outer assoc) (at_second model outer assoc ∷ []) one there)

  both_apart : AllPairs (λ one two. one.index ≢ two.index) (two_ends model outer assoc)
  both_apart = pairs_two (λ (one two : PlainEnd). one.index ≢ two.index) (at_first model outer assoc) (at_second model outer assoc) (λ equal. absurd (omega (arith, equal)))

  pub linked_supported : IsSupported model outer (linked model outer a assoc)
  linked_supported = record {
    numbers = is.numbers;
    whole = ends_whole (two_ends model outer assoc) both_of both_apart (linked model outer a assoc).links;
    legal = (link_holds model outer is.numbers a assoc is.here is.independent).legal;
  }

  pub unlinked_supported : IsSupported model outer (unlinked model outer assoc)
  unlinked_supported = record {
    numbers = is.numbers;
    whole = ends_whole (two_ends model outer assoc) both_of both_apart [];
    legal = (links_differ model outer is.numbers a assoc is.here is.independent).legal;
  }

  module _ (first : Bool) (many : (end_of (not first) assoc).mult ≡ Many) where
    abbrev other : PlainEnd
    other = other_at model outer (not first) assoc

    three_of : (one : PlainEnd) → Contains (three_ends model outer first assoc) one → IsOfAssoc one
    three_of one there = ⊎_elim
        (λ (here : one ≡ at_first model outer assoc). subst IsOfAssoc (sym here) first_of)
        (λ (later : Contains (at_second model outer assoc ∷ (other ∷ [])) one). ⊎_elim
        (λ (here : one ≡ at_second model outer assoc). subst IsOfAssoc (sym here) second_of)
        (λ (last : Contains (other ∷ []) one). ⊎_elim
        (λ (here : one ≡ other). subst IsOfAssoc (sym here) (other_of (not first)))
        (λ (never : Contains [] one). absurd (contains_nil one never))
        (contains_cons_cases other [] one last))
        (contains_cons_cases (at_second model outer assoc) (other ∷ []) one later))
        (contains_cons_cases (at_first model outer assoc) (at_second model outer assoc ∷ (other ∷ [])) one there)

    three_apart : AllPairs (λ one two. one.index ≢ two.index) (three_ends model outer first assoc)
    three_apart = pairs_three (λ (one two : PlainEnd). one.index ≢ two.index) (at_first model outer assoc) (at_second model outer assoc) other
        (λ equal. absurd (omega (arith, equal))) (λ equal. absurd (omega (arith, equal))) (λ equal. absurd (omega (arith, equal)))

    pub shared_supported : IsSupported model outer (shared model outer a assoc first)
    shared_supported = record {
      numbers = is.numbers;
      whole = ends_whole (three_ends model outer first assoc) three_of three_apart (shared model outer a assoc first).links;
      legal = (two_hold model outer is.numbers a assoc is.here is.independent first many).one.legal;
    }
