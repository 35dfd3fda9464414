-- An arrow lies on a cycle exactly where its two ends have one number.
use Rattle.std.proofs.Common.{◌≡◌, ◌⊎◌, inl, inr, ℕ, ◌<◌, ◌≤◌, List, length, Option, Some, None, sym, ap, subst, ◌∙◌, arith}
use Rattle.std.specs.Option.{option_and_then}
use Rattle.emc_base.specs.Lists.{At}
use Rattle.emc_base.proofs.Lists.{at_once}
use Rattle.graphs.specs.base_chains.Walks.{IsFirst}
use Rattle.graphs.proofs.base_chains.walks.Turns.{first_same}
use Rattle.graphs.specs.arrow_cycles.Arrows.{IsArrow, IsOnCycle, Leads, StayWithin, arrow, further}
use Rattle.graphs.specs.arrow_cycles.Ends.{EndWithin, GoesTo, IsEnds}
use Rattle.graphs.specs.arrow_cycles.Numbers.{AreComponents, IsInside, IsInsideAt, number_at, number_in}
use Rattle.graphs.specs.declared.arrow_cycles.arrow.Arrow.{Arrow}
use Rattle.graphs.specs.declared.arrow_cycles.search.Mark.{Mark}
use Rattle.graphs.specs.declared.arrow_cycles.search.Mark.TheVariants.{Closed}
use Rattle.graphs.proofs.arrow_cycles.Reaching.{leads_by}

number_is : (marks : List Mark) (v n : ℕ) → At marks v (Closed n) → number_at marks v ≡ Some n
number_is marks v n at = ap (λ (o : Option Mark). option_and_then number_in o) at

module _ (count : ℕ) (arrows : List (Option Arrow)) (ends : List (List ℕ)) (listed : IsEnds count arrows ends) (within : StayWithin count arrows) where
  pub ends_within : EndWithin ends
  ends_within from to goes =
      let inside : to < count = (within.each from to (listed.only from to goes)).1 in
      let size : length ends ≡ count = listed.size in
      omega (arith, inside, size)

  module _ (marks : List Mark) (components : AreComponents (GoesTo ends) (length ends) marks) where
    -- no way leads to a greater number
    lower_ways : (a b n : ℕ) → At marks a (Closed n) → Leads (GoesTo ends) a b → (m : ℕ) × At marks b (Closed m) × (m ≤ n)
    lower_ways a b n at (arrow _ _ is) = components.lower a n b at is
    lower_ways a b n at (further _ c _ is rest) =
        let next = components.lower a n c at is in
        let last = lower_ways c b next.0 next.1 rest in
        (last.0, last.1, (let one : next.0 ≤ n = next.2 in let more : last.0 ≤ next.0 = last.2 in omega (arith, one, more)))

    has_number : (v : ℕ) → v < count → (n : ℕ) × At marks v (Closed n)
    has_number v inside = let size : length ends ≡ count = listed.size in components.each v (omega (arith, inside, size))

    inside_on_cycle : (k : ℕ) (one : Option Arrow) → At arrows k one → IsInside marks one → IsOnCycle arrows k
    inside_on_cycle k None at inside = absurd inside
    inside_on_cycle k (Some one) at same =
        let bounds = within.each one.from one.to (k, at) in
        let from = has_number one.from bounds.0 in
        let to = has_number one.to bounds.1 in
        let equal : Some from.0 ≡ Some to.0 = sym (number_is marks one.from from.0 from.1) ∙ (same ∙ number_is marks one.to to.0 to.1) in
        let number : from.0 ≡ to.0 = cc in
        let P : ℕ → Type 0 = λ n. At marks one.from (Closed n) in (
          one.from,
          one.to,
          at,
          elim (components.joined one.to one.from to.0 to.1 (subst P number from.1)) [
            | inl same ↦ inl (sym same)
            | inr leads ↦ inr (leads_by (GoesTo ends) (IsArrow arrows) listed.only one.to one.from leads)
          ],
        )

    way_back : (from to : ℕ) → GoesTo ends from to → from < count → (from ≡ to) ⊎ Leads (IsArrow arrows) to from → number_at marks from ≡ number_at marks to
    way_back from to is inside way = elim way [
      | inl same ↦ ap (number_at marks) same
      | inr leads ↦
          let mine = has_number from inside in
          let next = components.lower from mine.0 to mine.1 is in
          let again = lower_ways to from next.0 next.1 (leads_by (IsArrow arrows) (GoesTo ends) listed.each to from leads) in
          let equal : Closed again.0 ≡ Closed mine.0 = at_once marks from (Closed again.0) (Closed mine.0) again.1 mine.1 in
          let number : again.0 ≡ mine.0 = cc in
          let one : next.0 ≤ mine.0 = next.2 in
          let more : again.0 ≤ next.0 = again.2 in
          let both : mine.0 ≡ next.0 = omega (arith, number, one, more) in
          number_is marks from mine.0 mine.1 ∙ (ap (λ (n : ℕ). Some n) both ∙ sym (number_is marks to next.0 next.1))
    ]

    on_cycle_inside : (k : ℕ) → IsOnCycle arrows k → IsInsideAt marks arrows k
    on_cycle_inside k on =
        let one : Arrow = record { from = on.0; to = on.1 } in
        let is : IsArrow arrows on.0 on.1 = (k, on.2) in
        (Some one, on.2, way_back on.0 on.1 (listed.each on.0 on.1 is) (within.each on.0 on.1 is).0 on.3)

    -- so the first such arrow is the first on a cycle
    pub first_is_on_cycle : (found : Option ℕ) → IsFirst (IsInsideAt marks arrows) found → IsFirst (IsOnCycle arrows) found
    first_is_on_cycle found first = first_same (IsInsideAt marks arrows) (IsOnCycle arrows) found
        (λ k inside. inside_on_cycle k inside.0 inside.1 inside.2) on_cycle_inside first
