-- Where the last place of the path waits for one that stands on it, a ring begins there.
use Rattle.std.proofs.Common.{◌≡◌, ◌≢◌, ℕ, suc, ◌+◌, ◌-◌, ◌<◌, List, drop, get_or, length, length-drop, subst, arith}
use Rattle.std.proofs.lemmas.Option.{slice_get-get_or, slice_get_within}
use Rattle.emc_base.specs.Lists.{At}
use Rattle.emc_base.proofs.Lists.{at_once}
use Rattle.graphs.proofs.arrow_cycles.Places.{at_dropped}
use Rattle.arrow_orders.specs.Orders.{IsRing, Waits}
use Rattle.arrow_orders.specs.Walks.{AreWalked}
use Rattle.arrow_orders.specs.declared.walk.Mark.{Mark}
use Rattle.arrow_orders.specs.declared.walk.Mark.TheVariants.{Open}

module _ (ends : List (List ℕ)) (marks : List Mark) (taken path line : List ℕ) (walked : AreWalked ends marks taken path line) (position top : ℕ) (at_top : At path position top)
    (last : length path ≡ suc position) (end : ℕ) (waits : Waits ends top end) (from : ℕ) (met : At marks end (Open from)) where
  at_end : At path from end
  at_end = walked.stands from end met

  pub from_within : from < length path
  from_within = slice_get_within path from end at_end

  size : length (drop from path) ≡ length path - from
  size = length-drop from path

  once : (i j d : ℕ) → i < j → j < length (drop from path) → get_or (drop from path) i d ≢ get_or (drop from path) j d
  once i j d below within same =
      let first = at_dropped from path i (get_or (drop from path) i d) (slice_get-get_or (drop from path) i d (omega (arith, below, within))) in
      let second = at_dropped from path j (get_or (drop from path) j d) (slice_get-get_or (drop from path) j d within) in
      let one = walked.placed (from + i) (get_or (drop from path) i d) first in
      let other = walked.placed (from + j) (get_or (drop from path) j d) second in
      let marked : Open (from + i) ≡ Open (from + j) = at_once marks (get_or (drop from path) j d) (Open (from + i)) (Open (from + j)) (subst (λ (v : ℕ). At marks v (Open (from + i))) same one) other in
      let places : from + i ≡ from + j = (let it : Open (from + i) ≡ Open (from + j) = marked in cc) in
      absurd (omega (arith, below, places))

  pub ring : IsRing ends (drop from path)
  ring = record {
    some = let within = from_within in let count = size in omega (arith, within, count);
    once = once;
    next = λ i v w at_v at_w. walked.linked (from + i) v w (at_dropped from path i v at_v)
        (subst (λ (n : ℕ). At path n w) (let same : from + suc i ≡ suc (from + i) = omega arith in same) (at_dropped from path (suc i) w at_w));
    closes = λ first final i at_first at_final count.
        (let is_first : end ≡ first = at_once path from end first at_end (subst (λ (n : ℕ). At path n first) (let same : from + 0 ≡ from = omega arith in same) (at_dropped from path 0 first at_first)) in
        let all = size in
        let within = from_within in
        let is_last : from + i ≡ position = omega (arith, count, all, last, within) in
        let is_top : top ≡ final = at_once path position top final at_top (subst (λ (n : ℕ). At path n final) is_last (at_dropped from path i final at_final)) in
        subst (λ (v : ℕ). Waits ends v first) is_top (subst (Waits ends top) is_first waits));
  }
