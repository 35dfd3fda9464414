-- Where what pairs stand for rises, no property and no column is written twice.
use Rattle.std.proofs.Common.{◌≡◌, ◌≢◌, ⊎_elim, ℕ, zero, suc, ◌+◌, ◌<◌, List, [], length, map, codes, get_or, slice_get, Option, Some, None, ap, subst, ◌∙◌, arith}
use Rattle.std.proofs.lemmas.Bool.{cases_eq}
use Rattle.std.specs.Option.{option_and_then, option_map}
use Rattle.std.proofs.lemmas.Option.{slice_get-get_or, slice_get-map, slice_get_within}
use Rattle.emc_base.specs.Lists.{At}
use Rattle.groupings.specs.least_fault.Least.{IsLeast}
use Rattle.layouts.specs.declared.rule.Rule.TheVariants.{WrittenOnce}
use Rattle.layouts.specs.Faults.{fault_cmp}
use Rattle.layouts.specs.rule_places.Places.{InList, IsAt}
use Rattle.groupings.specs.name_places.GivenNames.{IsGivenBefore}
use Rattle.round_trip.specs.Words.{PropId, Pair}
use Rattle.msl_rules.specs.declared.msl_lists.raw.RawPair.{RawPair}
use Rattle.msl_rules.specs.Found.{col_numbered}
use Rattle.msl_rules.specs.FragmentRules.{IsWrittenBefore}
use Rattle.msl_checks.specs.msl_written.Rising.{IsRising, Rises}

rises_far : (one between other : Option Pair) → Rises one between → Rises between other → Rises one other
rises_far None between other first second = absurd first
rises_far (Some a) None other first second = absurd first
rises_far (Some a) (Some b) None first second = absurd second
rises_far (Some a) (Some b) (Some c) first second =
    let p1 : a.prop.index < b.prop.index = first.0 in
    let p2 : b.prop.index < c.prop.index = second.0 in
    let c1 : a.col.index < b.col.index = first.1 in
    let c2 : b.col.index < c.col.index = second.1 in
    ((omega arith), (omega arith))

module _ (each : List (Option Pair)) (rising : IsRising each) where
  -- with each that stands anywhere behind it
  pub rises_before : (i k : ℕ) (one other : Option Pair) → i < k → At each i one → At each k other → Rises one other
  rises_before i zero one other before here there = absurd (omega arith)
  rises_before i (suc j) one other before here there = ⊎_elim
      (λ (next : i ≡ j). rising i one other here (subst (λ (k : ℕ). At each k other) (let is : suc j ≡ i + 1 = omega arith in is) there))
      (λ (differ : i ≢ j).
      let within : suc j < length each = slice_get_within each (suc j) other there in
      let inside : j < length each = omega arith in
      let between = get_or each j None in
      let at : At each j between = slice_get-get_or each j None inside in
      rises_far one between other (rises_before i j one between (omega arith) here at)
      (rising j between other at (subst (λ (k : ℕ). At each k other) (let is : suc j ≡ j + 1 = omega arith in is) there)))
      (cases_eq i j)

module _ (named : List ℕ → Option PropId) (column : List ℕ → Option ℕ) where
  -- what two names stand for
  abbrev of_names : Option PropId → Option ℕ → Option Pair
  of_names prop col = option_and_then (λ p. option_map (λ c. record { prop = p; col = col_numbered c }) col) prop

  abbrev meant : RawPair → Option Pair
  meant pair = of_names (named pair.prop) (column pair.col)

  -- pairs of one property, or of one column, don't rise
  no_prop : (prop : Option PropId) (one other : Option ℕ) → ¬ Rises (of_names prop one) (of_names prop other)
  no_prop None one other rises = rises
  no_prop (Some p) None other rises = rises
  no_prop (Some p) (Some c) None rises = rises
  no_prop (Some p) (Some c) (Some d) rises = let less : p.index < p.index = rises.0 in absurd (omega arith)

  no_col : (one other : Option PropId) (col : Option ℕ) → ¬ Rises (of_names one col) (of_names other col)
  no_col None other col rises = rises
  no_col (Some p) None None rises = rises
  no_col (Some p) None (Some c) rises = rises
  no_col (Some p) (Some q) None rises = rises
  no_col (Some p) (Some q) (Some c) rises = let less : c < c = rises.1 in absurd (omega arith)

  -- so none is written twice
  pub none_again : (pairs : List RawPair) (each : List (Option Pair)) → each ≡ map meant pairs → IsRising each
      → IsLeast fault_cmp (InList (codes "ScalarProperty") (λ k pair inside. IsWrittenBefore pairs k pair × IsAt WrittenOnce [] inside) pairs) None
  none_again pairs each are rising fault some =
      let k = some.holds.i in
      let pair = some.holds.item in
      let at : (i : ℕ) (one : RawPair) → At pairs i one → At each i (meant one) = λ i one here. ap (λ ys. slice_get ys i) are ∙ slice_get-map meant pairs i ∙ ap (option_map meant) here in
      let there = at k pair some.holds.here in
      ⊎_elim
      (λ (given : IsGivenBefore (λ one. one.prop) pairs k pair).
      let Q : List ℕ → Type 0 = λ name. Rises (of_names (named name) (column given.other.col)) (meant pair) in
      no_prop (named pair.prop) (column given.other.col) (column pair.col)
      (subst Q given.same (rises_before each rising given.i k (meant given.other) (meant pair) given.before (at given.i given.other given.here) there)))
      (λ (given : IsGivenBefore (λ one. one.col) pairs k pair).
      let Q : List ℕ → Type 0 = λ name. Rises (of_names (named given.other.prop) (column name)) (meant pair) in
      no_col (named given.other.prop) (named pair.prop) (column pair.col)
      (subst Q given.same (rises_before each rising given.i k (meant given.other) (meant pair) given.before (at given.i given.other given.here) there)))
      some.holds.holds.holds.0
