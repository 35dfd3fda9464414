-- Marks carried to bases, one place further back in an order in which each type follows its base.
use Rattle.std.proofs.Common.{◌≡◌, ◌≢◌, ⊎_elim, inl, inr, ℕ, ◌+◌, ◌<◌, ◌≤◌, Bool, true, List, [], ◌∷◌, ◌++◌, length, Option, Some, sym, subst, refl, ◌∙◌, arith}
use Rattle.std.proofs.lemmas.List.{length-append}
use Rattle.std.proofs.lemmas.Bool.{cases_eq}
use Rattle.std.proofs.lemmas.Option.{slice_get_within}
use Rattle.emc_base.specs.Lists.{At}
use Rattle.emc_base.proofs.Lists.{at_once, same_place}
use Rattle.graphs.specs.base_chains.Chains.{IsAncestor, direct}
use Rattle.graphs.specs.base_chains.MarksBelow.{HasMarkBelow, IsCarried, TellsMarksBelow}
use Rattle.graphs.specs.base_chains.Walks.{IsBasesFirst}
use Rattle.graphs.proofs.base_chains.Chains.{above_above, closed_ancestors}
use Rattle.emc_base.proofs.Members.{at_push_last, at_push_old}
use Rattle.graphs.proofs.base_chains.orders.Orders.{earlier_place, place_of_member}

module _ (base : ℕ → Option ℕ) (count : ℕ) (order : List ℕ) (marks : List Bool) where
  -- an order is left but for its last places, whose marks were carried up
  pub record IsPassed (left : List ℕ) (told : List Bool) : Type 0 where
    pub front : (k x : ℕ) → At left k x → At order k x
    pub size : length told ≡ count
    pub kept : (i : ℕ) → At marks i true → At told i true
    pub sound : (i : ℕ) → At told i true → HasMarkBelow base marks i
    pub carried : (m x j : ℕ) → length left ≤ m → At order m x → At told x true → base x ≡ Some j → At told j true

  pub passed_start : length marks ≡ count → IsPassed order marks
  passed_start alike = record {
    front = λ k x at. at;
    size = alike;
    kept = λ i is. is;
    sound = λ i is. (i, is, inl refl);
    carried = λ m x j past at. absurd (let within : m < length order = slice_get_within order m x at in omega (arith, within, past));
  }

  -- a mark below a place is one below its base
  mark_up : (x j : ℕ) → base x ≡ Some j → HasMarkBelow base marks x → HasMarkBelow base marks j
  mark_up x j is (i, marked, up) = (
    i,
    marked,
    inr (⊎_elim
        (λ (same : i ≡ x). direct i j (let P : ℕ → Type 0 = λ y. base y ≡ Some j in subst P (sym same) is))
        (λ (above : IsAncestor base i x). above_above base i x j above (direct x j is))
        up),
  )

  -- the next place is one of the order
  pub next_place : (rest : List ℕ) (place : ℕ) (told : List Bool) → IsPassed (rest ++ place ∷ []) told → At order (length rest) place
  next_place rest place told passed = passed.front (length rest) place (at_push_last rest place)

  module _ (based : IsBasesFirst base count order) where
    -- one place further
    pub passed_more : (rest : List ℕ) (place : ℕ) (before after : List Bool) → IsCarried place (base place) before after
        → IsPassed (rest ++ place ∷ []) before → IsPassed rest after
    passed_more rest place before after step passed = record {
      front = λ k x at. passed.front k x (at_push_old rest place k x at);
      size = step.size ∙ passed.size;
      kept = λ i is. step.kept i (passed.kept i is);
      sound = λ i is. ⊎_elim
          (λ (old : At before i true). passed.sound i old)
          (λ (new : (base place ≡ Some i) × At before place true). mark_up place i new.0 (passed.sound place new.1))
          (step.only i is);
      carried = λ m x j past at_x told is. ⊎_elim
          (λ (old : At before x true). ⊎_elim
          (λ (same : m ≡ length rest). here x j (let P : ℕ → Type 0 = λ k. At order k x in subst P same at_x) old is)
          (λ (other : m ≢ length rest). step.kept j (passed.carried m x j (later m past other) at_x old is))
          (cases_eq m (length rest)))
          (λ (new : (base place ≡ Some x) × At before place true). absurd (
          let first = earlier_place order (length rest) x (based.before (length rest) place x at new.0) in
          let same : first.0 ≡ m = same_place (λ (i : ℕ). i) order first.0 m x x based.once first.2 at_x refl in
          let less : first.0 < length rest = first.1 in
          omega (arith, same, less, past)))
          (step.only x told);
    }
      where
        at : At order (length rest) place
        at = next_place rest place before passed

        here : (x j : ℕ) → At order (length rest) x → At before x true → base x ≡ Some j → At after j true
        here x j at_x old is =
            let one : x ≡ place = at_once order (length rest) x place at_x at in
            let P : ℕ → Type 0 = λ y. At before y true in
            let Q : ℕ → Type 0 = λ y. base y ≡ Some j in
            step.carried j (subst Q one is) (subst P one old)

        later : (m : ℕ) → length rest ≤ m → m ≢ length rest → length (rest ++ place ∷ []) ≤ m
        later m past other = let longer : length (rest ++ place ∷ []) ≡ length rest + 1 = length-append rest (place ∷ []) in omega (arith, past, longer, other)

    -- after the first place
    pub passed_all : (left : List ℕ) (told : List Bool) → length left ≡ 0 → ((x j : ℕ) → base x ≡ Some j → x < count) → IsPassed left told
        → TellsMarksBelow base count marks told
    passed_all left told end based_inside passed = record {
      size = passed.size;
      each = λ i i_in. (passed.sound i, λ below. by i below);
    }
      where
        on : (x j : ℕ) → At told x true → base x ≡ Some j → At told j true
        on x j is next = let has = based.each x (based_inside x j next) in passed.carried has.0 x j (omega (arith, end)) (place_of_member order x has) is next

        by : (i : ℕ) → HasMarkBelow base marks i → At told i true
        by i (j, marked, up) = ⊎_elim
            (λ (same : j ≡ i). let P : ℕ → Type 0 = λ y. At told y true in subst P same (passed.kept j marked))
            (λ (above : IsAncestor base j i). closed_ancestors base (λ y. At told y true) on j i (λ y is. on j y (passed.kept j marked) is) above)
            up
