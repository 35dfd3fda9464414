-- The changes along a line of the alterations are all changes, and keep all keys after each.
use Rattle.std.proofs.Common.{◌≡◌, ◌≢◌, ℕ, List, None, Some, Contains, refl, sym, ap, subst, ◌∙◌, arith}
use Rattle.std.proofs.lemmas.Option.{none-some, same_Some, slice_get_within}
use Rattle.emc_base.specs.Lists.{At}
use Rattle.emc_base.proofs.Lists.{all_from_members, at_once, item_at, same_place}
use Rattle.emc_base.proofs.Mapped.{contains_at}
use Rattle.round_trip.specs.Words.{StoreModel, Tables}
use Rattle.arrow_orders.specs.Orders.{IsLine}
use Rattle.arrow_orders.proofs.walking.Walked.{placed}
use Rattle.row_changes.specs.declared.change.RowChange.{RowChange}
use Rattle.row_changes.specs.declared.change.RowChange.TheVariants.{Insert, Update, Delete}
use Rattle.row_changes.specs.Changes.{key_in, key_of_change, table_of}
use Rattle.row_changes.specs.Differences.{AreBothLegal, AreDifference, IsChange}
use Rattle.row_changes.specs.Orders.{MustPrecede, Respects, StepLegal}
use Rattle.row_changes.proofs.leading.Stepping.{one_at}
use Rattle.row_changes.proofs.ordering.Ordered.{exactly}
use Rattle.row_orders.specs.declared.alteration.Alteration.{Alteration}
use Rattle.row_orders.specs.Alterations.{AreAlterations, AreChangesAt, change_of, new_row, old_row, whose}
use Rattle.row_orders.specs.Waiting.{TellWaits}
use Rattle.row_orders.proofs.matching.Altered.{is_change, table_of_change}
use Rattle.row_orders.proofs.matching.Placed.{IsFrom, change_from, pairs_by_places, same_from, waits_of}

module _ (store : StoreModel) (old new : Tables) (both : AreBothLegal store old new) (alterations : List Alteration) (are : AreAlterations store old new alterations)
    (ends : List (List ℕ)) (tell : TellWaits store.keys alterations ends) (places : List ℕ) (line : IsLine ends places)
    (changes : List RowChange) (at : AreChangesAt store alterations places changes) where
  from : (i : ℕ) (change : RowChange) → At changes i change → IsFrom store alterations places i change
  from i change here =
      let within = slice_get_within changes i change here in
      let size = at.size in
      let place = item_at places i (omega (arith, within, size)) in
      let inside = line.only place.0 (contains_at places i place.0 place.1) in
      let ends_size = tell.size in
      let alteration = item_at alterations place.0 (omega (arith, inside, ends_size)) in
      record {
        place = place.0;
        at_place = place.1;
        alteration = alteration.0;
        at_alteration = alteration.1;
        is = at_once changes i change (change_of store alteration.0) here (at.each i place.0 alteration.0 place.1 alteration.1);
      }

  -- whose row is changed is altered
  abbrev Altered : RowChange → Type 0
  Altered change = (alteration : Alteration) × Contains alterations alteration × (whose store alteration ≡ (table_of change, key_of_change store change))

  altered : (change : RowChange) → IsChange store old new change → Altered change
  altered (Insert t row) is = are.all t (key_in store t row) None (Some row) is.1 (is.0, refl) (λ same. none-some row same)
  altered (Update t row) is = are.all t (key_in store t row) (Some is.1.0) (Some row) is.1.1 (is.0, refl) (λ same. is.1.2 (same_Some is.1.0 row same))
  altered (Delete t key) is = are.all t key (Some is.0.0) None is.0.1 is.1 (λ same. none-some is.0.0 (sym same))

  all : (change : RowChange) → IsChange store old new change → Contains changes change
  all change is =
      let found = altered change is in
      let alteration : Alteration = found.0 in
      let place = placed alterations alteration found.1 in
      let inside = slice_get_within alterations place.0 alteration place.1 in
      let ends_size = tell.size in
      let number = placed places place.0 (line.all place.0 (omega (arith, inside, ends_size))) in
      let there : At changes number.0 (change_of store alteration) = at.each number.0 place.0 alteration number.1 place.1 in
      let tables : table_of (change_of store alteration) ≡ table_of change = table_of_change store alteration.table (old_row alteration) (new_row alteration) ∙ ap (λ p. p.0) found.2 in
      let keys : key_of_change store (change_of store alteration) ≡ key_of_change store change = ap (λ p. p.1) found.2 in
      let same : change_of store alteration ≡ change = one_at store old new both (change_of store alteration) change (is_change store old new alterations are place.0 alteration place.1) is tables keys in
      subst (Contains changes) same (contains_at changes number.0 (change_of store alteration) there)

  difference : AreDifference store old new changes
  difference = record {
    only = all_from_members (IsChange store old new) changes (λ change has.
        (let there = placed changes change has in change_from store old new both alterations are ends tell places there.0 change (from there.0 change there.1)));
    all = all;
    once = pairs_by_places (λ (x y : RowChange). x ≢ y) changes (λ i j one later at_i at_j below same.
        (let equal = same_from store old new both alterations are ends tell places line.once i j one later (from i one at_i) (from j later at_j) same in absurd (omega (arith, below, equal))));
  }

  respects : Respects store old new changes
  respects = pairs_by_places (λ (one later : RowChange). ¬ MustPrecede store old new later one) changes (λ i j one later at_i at_j below must.
      (let x = from i one at_i in
      let y = from j later at_j in
      let behind = line.behind i x.place y.place x.at_place (waits_of store old new both alterations are ends tell places i j one later x y must) in
      let equal = same_place (λ (v : ℕ). v) places behind.0 j y.place y.place line.once behind.1 y.at_place refl in
      let earlier = behind.2 in
      absurd (omega (arith, below, equal, earlier))))

  pub in_line : AreDifference store old new changes × StepLegal store changes old
  in_line = (difference, (exactly store old new both changes difference).1 respects)
