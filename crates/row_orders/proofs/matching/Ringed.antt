-- The changes round a ring of the alterations are a cycle.
use Rattle.std.proofs.Common.{◌≡◌, ◌≢◌, ⊎_elim, ℕ, zero, suc, ◌+◌, ◌-◌, ◌<◌, ◌≤◌, List, length, All, refl, subst, arith}
use Rattle.std.proofs.lemmas.Bool.{cases_lt}
use Rattle.std.proofs.lemmas.Option.{slice_get_within}
use Rattle.emc_base.specs.Lists.{At}
use Rattle.emc_base.proofs.Lists.{all_from_members, at_once, item_at}
use Rattle.round_trip.specs.Words.{StoreModel, Tables}
use Rattle.arrow_orders.specs.Orders.{IsRing, Waits}
use Rattle.arrow_orders.proofs.walking.Walked.{placed}
use Rattle.row_changes.specs.declared.change.RowChange.{RowChange}
use Rattle.row_changes.specs.Differences.{AreBothLegal, IsChange}
use Rattle.row_changes.specs.Orders.{IsCycle, MustPrecede}
use Rattle.row_orders.specs.declared.alteration.Alteration.{Alteration}
use Rattle.row_orders.specs.Alterations.{AreAlterations, AreChangesRound, change_of}
use Rattle.row_orders.specs.Waiting.{TellWaits}
use Rattle.row_orders.proofs.matching.Placed.{IsFrom, change_from, first_of, pairs_by_places, same_from}

module _ (store : StoreModel) (old new : Tables) (both : AreBothLegal store old new) (alterations : List Alteration) (are : AreAlterations store old new alterations)
    (ends : List (List ℕ)) (tell : TellWaits store.keys alterations ends) (places : List ℕ) (ring : IsRing ends places)
    (changes : List RowChange) (round : AreChangesRound store alterations places changes) where
  -- each place waits for one, and so is that of an alteration
  waiting : (v w : ℕ) → Waits ends v w → (alteration : Alteration) × At alterations v alteration
  waiting v w waits = let by = (tell.waits v w).0 waits in (by.one, by.at_one)

  alteration_at : (i v : ℕ) → At places i v → (alteration : Alteration) × At alterations v alteration
  alteration_at i v here =
      let within = slice_get_within places i v here in
      ⊎_elim
      (λ (more : suc i < length places). let next = item_at places (suc i) more in waiting v next.0 (ring.next i v next.0 here next.1))
      (λ (last : length places ≤ suc i).
      let first = item_at places zero (omega (arith, within)) in
      waiting v first.0 (ring.closes first.0 v i first.1 here (omega (arith, within, last))))
      (cases_lt (suc i) (length places))

  -- the change at a place of the round
  record IsRound (j : ℕ) (change : RowChange) : Type 0 where
    i : ℕ
    sum : i + suc j ≡ length places
    from : IsFrom store alterations places i change

  at_number : (i j : ℕ) (change : RowChange) → i + suc j ≡ length places → At changes j change → IsRound j change
  at_number i j change sum here =
      let place = item_at places i (omega (arith, sum)) in
      let alteration = alteration_at i place.0 place.1 in
      record {
        i = i;
        sum = sum;
        from = record {
          place = place.0;
          at_place = place.1;
          alteration = alteration.0;
          at_alteration = alteration.1;
          is = at_once changes j change (change_of store alteration.0) here (round.each i j place.0 alteration.0 sum place.1 alteration.1);
        };
      }

  from : (j : ℕ) (change : RowChange) → At changes j change → IsRound j change
  from j change here =
      let within = slice_get_within changes j change here in
      let size = round.size in
      at_number (length places - suc j) j change (omega (arith, within, size)) here

  two : 2 ≤ length changes
  two = ⊎_elim
      (λ (more : 1 < length places). let size = round.size in omega (arith, more, size))
      (λ (single : length places ≤ 1).
      let some = ring.some in
      let first = item_at places zero (omega (arith, some)) in
      let itself = (tell.waits first.0 first.0).0 (ring.closes first.0 first.0 zero first.1 first.1 (omega (arith, some, single))) in
      absurd (itself.apart refl))
      (cases_lt 1 (length places))

  next : (j : ℕ) (one other : RowChange) → At changes j one → At changes (suc j) other → MustPrecede store old new one other
  next j one other at_one at_other =
      let x = from j one at_one in
      let y = from (suc j) other at_other in
      let x_sum = x.sum in
      let y_sum = y.sum in
      let behind : x.i ≡ suc y.i = omega (arith, x_sum, y_sum) in
      let there : At places (suc y.i) x.from.place = subst (λ (n : ℕ). At places n x.from.place) behind x.from.at_place in
      first_of store old new both alterations are ends tell places y.i x.i other one y.from x.from (ring.next y.i y.from.place x.from.place y.from.at_place there)

  closes : (first last : RowChange) (j : ℕ) → At changes zero first → At changes j last → length changes ≡ suc j → MustPrecede store old new last first
  closes first last j at_first at_last end =
      let x = from zero first at_first in
      let y = from j last at_last in
      let x_sum = x.sum in
      let y_sum = y.sum in
      let size = round.size in
      let begins : y.i ≡ zero = omega (arith, y_sum, size, end) in
      let there : At places zero y.from.place = subst (λ (n : ℕ). At places n y.from.place) begins y.from.at_place in
      first_of store old new both alterations are ends tell places x.i y.i first last x.from y.from
      (ring.closes y.from.place x.from.place x.i there x.from.at_place (omega (arith, x_sum)))

  pub in_ring : IsCycle store old new changes × All (IsChange store old new) changes
  in_ring = (
    record {
      two = two;
      once = pairs_by_places (λ (x y : RowChange). x ≢ y) changes (λ i j one later at_i at_j below same.
          (let x = from i one at_i in
          let y = from j later at_j in
          let equal = same_from store old new both alterations are ends tell places ring.once x.i y.i one later x.from y.from same in
          let x_sum = x.sum in
          let y_sum = y.sum in
          absurd (omega (arith, below, equal, x_sum, y_sum))));
      next = next;
      closes = closes;
    },
    all_from_members (IsChange store old new) changes (λ change has.
        (let there = placed changes change has in
        let x = from there.0 change there.1 in
        change_from store old new both alterations are ends tell places x.i change x.from)),
  )
