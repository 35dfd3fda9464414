-- A class that is moved to another: two places that had the two numbers have one, and the lists of places still tell each number.
use Rattle.std.proofs.Common.{◌≡◌, ◌≢◌, inl, inr, ℕ, ◌<◌, List, [], ◌++◌, length, set, Contains, None, Some, refl, slice_get, sym, subst, ◌∙◌, arith}
use Rattle.std.proofs.lemmas.Bool.{cases_eq}
use Rattle.std.proofs.lemmas.List.Elements.{Contains-append_cases, Contains-append_left, Contains-append_right}
use Rattle.std.proofs.lemmas.Option.{slice_get_within}
use Rattle.emc_base.specs.Lists.{At}
use Rattle.emc_base.proofs.Lists.{at_once, item_at}
use Rattle.groupings.specs.linked_places.Joinings.{AreListed, AreNumbered, AreTogether, IsListed, Joins, Moves}
use Rattle.groupings.proofs.linked_places.Linking.{turned}
use Rattle.groupings.proofs.linked_places.Lists.{at_before_set, at_set, at_set_other}

-- the two places that are joined may change places
pub joins_back : (one other : ℕ) (before after : List ℕ) → Joins one other before after → Joins other one before after
joins_back one other before after joins = record {
  size = joins.size;
  kept = joins.kept;
  joined = λ in_other in_one. turned after one other (joins.joined in_one in_other);
  only = λ a b here. elim (joins.only a b here) [
    | inl old ↦ inl old
    | inr (inl way) ↦ inr (inr way)
    | inr (inr way) ↦ inr (inl way)
  ];
}

-- two places with one number are joined
pub same_joins : (one other number : ℕ) (numbers : List ℕ) → At numbers one number → At numbers other number → Joins one other numbers numbers
same_joins one other number numbers at_one at_other = record {
  size = refl;
  kept = λ _ _ together. together;
  joined = λ _ _. (number, at_one, at_other);
  only = λ _ _ together. inl together;
}

-- a place that isn't there is joined to no other
pub outside_joins : (one other : ℕ) (numbers : List ℕ) → slice_get numbers one ≡ None → Joins one other numbers numbers
outside_joins one other numbers none = record {
  size = refl;
  kept = λ _ _ together. together;
  joined = λ inside _.
      let held = item_at numbers one inside in
      let both : Some held.0 ≡ None = sym held.1 ∙ none in
      absurd cc;
  only = λ _ _ together. inl together;
}

module _ (from to : ℕ) (apart : from ≢ to) (before after : List ℕ) (moves : Moves from to before after) where
  -- places that had one number have one
  kept_together : (a b : ℕ) → AreTogether before a b → AreTogether after a b
  kept_together a b (n, at_a, at_b) = elim (cases_eq n from) [
    | inl here ↦
        let P : ℕ → ℕ → Type 0 = λ p k. At before p k in
        (to, moves.moved a (subst (P a) here at_a), moves.moved b (subst (P b) here at_b))
    | inr other ↦ (n, moves.kept a n at_a other, moves.kept b n at_b other)
  ]

  -- two places that had the two numbers are joined
  pub moves_joins : (one other : ℕ) → At before one from → At before other to → Joins one other before after
  moves_joins one other at_one at_other = record {
    size = moves.size;
    kept = kept_together;
    joined = λ _ _. (to, moves.moved one at_one, moves.kept other to at_other (λ same. apart (sym same)));
    only = λ a b here.
        let P : ℕ → ℕ → Type 0 = λ p k. At before p k in
        let size : length after ≡ length before = moves.size in
        let in_a : a < length after = slice_get_within after a here.0 here.1 in
        let in_b : b < length after = slice_get_within after b here.0 here.2 in
        let of_a = item_at before a (omega arith) in
        let of_b = item_at before b (omega arith) in
        elim (cases_eq of_a.0 from) [
          | inl a_from ↦ elim (cases_eq of_b.0 from) [
            | inl b_from ↦ inl (from, subst (P a) a_from of_a.1, subst (P b) b_from of_b.1)
            | inr b_other ↦
                let at_a = moves.moved a (subst (P a) a_from of_a.1) in
                let is : of_b.0 ≡ to = at_once after b of_b.0 here.0 (moves.kept b of_b.0 of_b.1 b_other) here.2 ∙ at_once after a here.0 to here.1 at_a in
                inr (inl ((from, subst (P a) a_from of_a.1, at_one), (to, at_other, subst (P b) is of_b.1)))
          ]
          | inr a_other ↦ elim (cases_eq of_b.0 from) [
            | inl b_from ↦
                let at_b = moves.moved b (subst (P b) b_from of_b.1) in
                let is : of_a.0 ≡ to = at_once after a of_a.0 here.0 (moves.kept a of_a.0 of_a.1 a_other) here.1 ∙ at_once after b here.0 to here.2 at_b in
                inr (inr ((to, subst (P a) is of_a.1, at_other), (from, at_one, subst (P b) b_from of_b.1)))
            | inr b_other ↦
                let is : of_b.0 ≡ of_a.0 = at_once after b of_b.0 here.0 (moves.kept b of_b.0 of_b.1 b_other) here.2
                ∙ at_once after a here.0 of_a.0 here.1 (moves.kept a of_a.0 of_a.1 a_other) in
                inl (of_a.0, of_a.1, subst (P b) is of_b.1)
          ]
        ];
  }

module _ (from to : ℕ) (apart : from ≢ to) (before after : List ℕ) (members : List (List ℕ)) (listed : AreListed before members)
    (places others : List ℕ) (at_from : At members from places) (at_to : At members to others) (numbered : AreNumbered to places before after) where
  -- the places that were listed at the number have the other one
  pub numbered_moves : Moves from to before after
  numbered_moves = record {
    size = numbered.size;
    moved = λ place at.
        let mine = listed.each place from at in
        let P : List ℕ → Type 0 = λ xs. Contains xs place in
        numbered.each place (subst P (at_once members from mine.0 places mine.1 at_from) mine.2);
    kept = λ place number at other. numbered.kept place number at
        (λ has. other (at_once before place number from at (listed.only place from (places, at_from, has))));
  }

  -- the lists of places, once those of the one number are put behind those of the other
  abbrev now : List (List ℕ)
  now = set (set members from []) to (others ++ places)

  now_to : At now to (others ++ places)
  now_to = at_set (set members from []) to (others ++ places)
      (slice_get_within (set members from []) to others (at_set_other members from to [] others apart at_to))

  now_other : (number : ℕ) (own : List ℕ) → number ≢ from → number ≢ to → At members number own → At now number own
  now_other number own not_from not_to at =
      at_set_other (set members from []) to number (others ++ places) own (λ same. not_to (sym same))
      (at_set_other members from number [] own (λ same. not_from (sym same)) at)

  -- a place that wasn't moved is still listed
  still_listed : (place number : ℕ) → number ≢ from → IsListed members number place → IsListed now number place
  still_listed place number not_from (own, at, has) = elim (cases_eq number to) [
    | inl here ↦
        let P : ℕ → Type 0 = λ n. IsListed now n place in
        let Q : ℕ → Type 0 = λ n. At members n own in
        let R : List ℕ → Type 0 = λ xs. Contains xs place in
        let same : own ≡ others = at_once members to own others (subst Q here at) at_to in
        subst P (sym here) (others ++ places, now_to, Contains-append_left others places place (subst R same has))
    | inr other ↦ (own, now_other number own not_from other at, has)
  ]

  now_each : (place number : ℕ) → At after place number → IsListed now number place
  now_each place number at =
      let size : length after ≡ length before = numbered.size in
      let inside : place < length after = slice_get_within after place number at in
      let old = item_at before place (omega arith) in
      let P : ℕ → Type 0 = λ n. At before place n in
      let Q : ℕ → Type 0 = λ n. IsListed now n place in
      elim (cases_eq old.0 from) [
        | inl here ↦
            let mine = listed.each place from (subst P here old.1) in
            let R : List ℕ → Type 0 = λ xs. Contains xs place in
            let has : Contains places place = subst R (at_once members from mine.0 places mine.1 at_from) mine.2 in
            let is : to ≡ number = at_once after place to number (numbered.each place has) at in
            subst Q is (others ++ places, now_to, Contains-append_right others places place has)
        | inr other ↦
            let is : old.0 ≡ number = at_once after place old.0 number (numbered_moves.kept place old.0 old.1 other) at in
            subst Q is (still_listed place old.0 other (listed.each place old.0 old.1))
      ]

  now_only : (place number : ℕ) → IsListed now number place → At after place number
  now_only place number (own, at, has) = elim (cases_eq number to) [
    | inl here ↦
        let P : ℕ → Type 0 = λ n. At after place n in
        let Q : ℕ → Type 0 = λ n. At now n own in
        let R : List ℕ → Type 0 = λ xs. Contains xs place in
        let same : own ≡ others ++ places = at_once now to own (others ++ places) (subst Q here at) now_to in
        subst P (sym here) (elim (Contains-append_cases others places place (subst R same has)) [
          | inl old ↦ numbered_moves.kept place to (listed.only place to (others, at_to, old)) (λ is. apart (sym is))
          | inr new ↦ numbered.each place new
        ])
    | inr other ↦
        let at_emptied = at_before_set (set members from []) to number (others ++ places) own (λ is. other (sym is)) at in
        elim (cases_eq number from) [
          | inl here ↦
              let Q : ℕ → Type 0 = λ n. At (set members from []) n own in
              let R : List ℕ → Type 0 = λ xs. Contains xs place in
              let none : own ≡ [] = at_once (set members from []) from own [] (subst Q here at_emptied) (at_set members from [] (slice_get_within members from places at_from)) in
              let impossible : Contains [] place = subst R none has in
              absurd (let within : impossible.0 < 0 = impossible.1 in omega arith)
          | inr not_from ↦ numbered_moves.kept place number
              (listed.only place number (own, at_before_set members from number [] own (λ is. not_from (sym is)) at_emptied, has)) not_from
        ]
  ]

  -- they list exactly the places that have each number
  pub moved_listed : AreListed after now
  moved_listed = record { each = now_each; only = now_only }
