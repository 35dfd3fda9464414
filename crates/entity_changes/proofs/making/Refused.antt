-- The first change that is refused, as they are passed.
use Rattle.std.proofs.Common.{◌≡◌, ◌<◌, ◌≤◌, ◌+◌, ◌⊎◌, ⊎_elim, inl, inr, ℕ, List, [], ◌∷◌, ◌++◌, take, drop, length, Contains, Some, arith, None, refl, sym, ap, subst, subst₂, ◌∙◌}
use Rattle.std.proofs.lemmas.List.{length-take-le, take-append-drop, append_assoc}
use Rattle.std.proofs.lemmas.List.Elements.{All-contains}
use Rattle.std.proofs.lemmas.Option.{slice_get_within}
use Rattle.emc_base.specs.Lists.{At}
use Rattle.emc_base.proofs.Loops.{take_item}
use Rattle.emc_base.proofs.Mapped.{contains_at}
use Rattle.round_trip.specs.Words.{EntityModel, State}
use Rattle.entity_changes.specs.declared.change.Change.{Change}
use Rattle.entity_changes.specs.declared.change.Change.TheVariants as change
use Rattle.entity_changes.specs.declared.change.Reason.{Reason}
use Rattle.entity_changes.specs.declared.making.standing.Standing.{Standing}
use Rattle.entity_changes.specs.Applying.{AreGoodChanges}
use Rattle.entity_changes.specs.Changes.{after, IsChange}
use Rattle.entity_changes.specs.Refusals.{AreAccepted, IsRefusal, IsRefused}
use Rattle.entity_changes.specs.making.Places.{HasPlace}
use Rattle.entity_changes.specs.making.Standing.{HasList, Takes, TellsStanding}
use Rattle.entity_changes.proofs.Afterwards.{after_more, lengths_entities, lengths_links}

module _ (model : EntityModel) where
  -- a change of the model is of one of its lists
  pub has_place : (one : Change) → IsChange model one → HasPlace (length model.sets) (length model.assocs) one
  has_place (change.Insert s entity) is = is.0
  has_place (change.Update s entity) is = is.0
  has_place (change.Delete s key) is = is
  has_place (change.Link a link) is = slice_get_within model.assocs a.index is.0 is.1
  has_place (change.Unlink a link) is = slice_get_within model.assocs a.index is.0 is.1

  module _ (state : State) (changes : List Change) (good : AreGoodChanges model state changes) where
    -- so each of some changes is of one of the state's lists
    pub place_of_each : (one : Change) → Contains changes one → HasPlace (length state.entities) (length state.links) one
    place_of_each one has =
        let P : ℕ → ℕ → Type 0 = λ sets assocs. HasPlace sets assocs one in
        subst₂ P (sym good.is_state.sets) (sym good.is_state.assocs) (has_place one (All-contains (IsChange model) changes one good.are_changes has))

    -- whatever changes came before
    pub list_of_each : (before : List Change) (one : Change) → Contains changes one → HasList (after model state before) one
    list_of_each before one has =
        let P : ℕ → ℕ → Type 0 = λ sets assocs. HasPlace sets assocs one in
        subst₂ P (sym (lengths_entities model before state)) (sym (lengths_links model before state)) (place_of_each one has)

-- an item that stands in a list with one more at its end stands before that, or is it
split_push : {X : Type 0} (xs : List X) (x : X) (before : List X) (one : X) (later : List X) → (xs ++ x ∷ []) ≡ (before ++ one ∷ later)
    → ((before ≡ xs) × (one ≡ x)) ⊎ ((rest : List X) × (xs ≡ before ++ one ∷ rest))
split_push [] x [] one later is = inl (refl, cc)
split_push [] x (b ∷ []) one later is = cc
split_push [] x (b ∷ d ∷ before) one later is = cc
split_push (y ∷ xs) x [] one later is = let same : y ≡ one = cc in inr (xs, ap (λ z. z ∷ xs) same)
split_push (y ∷ xs) x (b ∷ before) one later is =
    let first : y ≡ b = cc in
    let rest : (xs ++ x ∷ []) ≡ (before ++ one ∷ later) = cc in
    ⊎_elim
    (λ (last : (before ≡ xs) × (one ≡ x)). inl ((λ i. sym first i ∷ last.0 i), last.1))
    (λ (inside : (rest : List _) × (xs ≡ before ++ one ∷ rest)). inr (inside.0, λ i. first i ∷ inside.1 i))
    (split_push xs x before one later rest)

module _ (model : EntityModel) (state : State) where
  -- one change more is accepted
  accepted_more : (before : List Change) (one : Change) → AreAccepted model state before → ((why : Reason) → ¬ IsRefused model (after model state before) one why)
      → AreAccepted model state (before ++ one ∷ [])
  accepted_more before one accepted goes front later other why is refused = ⊎_elim
      (λ (last : (front ≡ before) × (other ≡ one)).
      let P : List Change → Change → Type 0 = λ changes it. IsRefused model (after model state changes) it why in
      goes why (subst₂ P last.0 last.1 refused))
      (λ (inside : (rest : List Change) × (before ≡ front ++ other ∷ rest)). accepted front inside.0 other why inside.1 refused)
      (split_push before one front other later is)

  module _ (changes : List Change) (i : ℕ) (one : Change) (here : At changes i one) (good : AreGoodChanges model state changes) (old new : Standing)
      (before : AreAccepted model state (take i changes) × TellsStanding model (after model state (take i changes)) old) where
    -- a change that is taken
    pub taken : Takes model one old new None
        → AreAccepted model state (take (i + 1) changes) × TellsStanding model (after model state (take (i + 1) changes)) new
    taken takes =
        let told = takes (after model state (take i changes)) (list_of_each model state changes good (take i changes) one (contains_at changes i one here)) before.1 in
        let P : List Change → Type 0 = λ list. AreAccepted model state list × TellsStanding model (after model state list) new in
        subst P (sym (take_item changes i one here)) (
          accepted_more (take i changes) one before.0 told.0,
          subst (λ (state : State). TellsStanding model state new) (sym (after_more model (take i changes) state one)) told.1,
        )

    -- and one that is refused
    pub refused : (why : Reason) → Takes model one old new (Some why) → IsRefusal model state changes i why
    refused why takes = record {
      before = take i changes;
      one = one;
      later = drop (i + 1) changes;
      here = sym (take-append-drop (i + 1) changes) ∙ ap (λ list. list ++ drop (i + 1) changes) (take_item changes i one here)
          ∙ append_assoc (take i changes) (one ∷ []) (drop (i + 1) changes);
      place = sym (length-take-le i changes (below i (length changes) (slice_get_within changes i one here)));
      first = before.0;
      refused = takes (after model state (take i changes)) (list_of_each model state changes good (take i changes) one (contains_at changes i one here)) before.1;
    }
      where
        below : (j n : ℕ) → j < n → j ≤ n
        below j n less = omega (arith, less)
