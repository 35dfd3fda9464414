-- One alteration waits for another exactly where the change of this has to come before its own.
use Rattle.std.proofs.Common.{◌≡◌, ◌⊎◌, ◌↔◌, ⊎_elim, inl, inr, ℕ, List, Option, Contains, refl, sym, ap, subst, ◌∙◌}
use Rattle.emc_base.specs.Lists.{At}
use Rattle.emc_base.proofs.Lists.{at_once}
use Rattle.round_trip.specs.Words.{ForeignKey, Row, StoreModel, TableId, Tables, Value}
use Rattle.row_changes.specs.declared.change.RowChange.TheVariants.{Insert, Delete}
use Rattle.row_changes.specs.Changes.{HasNoRow, HasRow, key_in, key_of_change, table_of}
use Rattle.row_changes.specs.Differences.{AreBothLegal}
use Rattle.row_changes.specs.Orders.{InsertsFor, LeavesFor, MustPrecede}
use Rattle.row_changes.proofs.leading.Primary.{legal_apart}
use Rattle.row_changes.proofs.ordering.Targets.{finds_target, one_key}
use Rattle.row_orders.specs.declared.alteration.Alteration.{Alteration}
use Rattle.row_orders.specs.Alterations.{AreAlterations, IsAlteration, IsRowThere, change_by, change_of, new_row, old_row}
use Rattle.row_orders.specs.Waiting.{WaitsFor, WaitsToGo, WaitsToRefer}
use Rattle.row_orders.proofs.matching.Altered.{is_alteration, of_delete, of_insert, same_altered, table_of_change, told_row}

module _ (store : StoreModel) (old new : Tables) (both : AreBothLegal store old new) where
  -- by one key
  module _ (one other : Alteration) (is_one : IsAlteration store old new one) (is_other : IsAlteration store old new other) (key : ForeignKey) (is_key : Contains store.keys key) where
    abbrev key_one : List Value
    key_one = key_of_change store (change_of store one)

    abbrev key_other : List Value
    key_other = key_of_change store (change_of store other)

    table_one : table_of (change_of store one) ≡ one.table
    table_one = table_of_change store one.table (old_row one) (new_row one)

    table_other : table_of (change_of store other) ≡ other.table
    table_other = table_of_change store other.table (old_row other) (new_row other)

    inserts : WaitsToRefer key one other → InsertsFor store old new key (change_of store other) (change_of store one)
    inserts waits =
        let is_insert : change_of store other ≡ Insert key.to waits.target = λ k. change_by store (waits.to k) (waits.missing k) (waits.comes k) in
        let none : HasNoRow store old key.to (key_in store key.to waits.target) =
        (let P : TableId × List Value × Option Row → Type 0 = λ p. IsRowThere store old p.0 p.1 p.2 in
        subst P (λ k. (waits.to k, key_of_change store (is_insert k), waits.missing k)) is_other.before) in
        record {
          target = waits.target;
          inserts = is_insert;
          from = table_one ∙ waits.from;
          row = waits.row;
          stands = (let P : TableId × Option Row → Type 0 = λ p. IsRowThere store new p.0 key_one p.1 in subst P (λ k. (waits.from k, waits.shows k)) is_one.afterwards);
          refers = waits.refers;
          did_not = λ before has refers. (let found = finds_target store old both.old_legal.keys key is_key before has.0 refers.0 in
              none found.0 (found.1, one_key store both.sound key is_key found.0 waits.target (found.2.1 ∙ sym refers.1)));
        }

    leaves : WaitsToGo key one other → LeavesFor store old new key (change_of store other) (change_of store one)
    leaves waits =
        let is_delete : change_of store one ≡ Delete key.to (key_in store key.to waits.target) = λ k. change_by store (waits.to k) (waits.stood k) (waits.gone k) in
        let none : HasNoRow store new key.to (key_in store key.to waits.target) =
        (let P : TableId × List Value × Option Row → Type 0 = λ p. IsRowThere store new p.0 p.1 p.2 in
        subst P (λ k. (waits.to k, key_of_change store (is_delete k), waits.gone k)) is_one.afterwards) in
        let held : HasRow store old key.to key_one waits.target =
        (let P : TableId × Option Row → Type 0 = λ p. IsRowThere store old p.0 key_one p.1 in subst P (λ k. (waits.to k, waits.stood k)) is_one.before) in
        record {
          target = waits.target;
          held = held.0;
          deletes = is_delete;
          from = table_other ∙ waits.from;
          row = waits.row;
          stood = (let P : TableId × Option Row → Type 0 = λ p. IsRowThere store old p.0 key_other p.1 in subst P (λ k. (waits.from k, waits.showed k)) is_other.before);
          refers = waits.refers;
          does_not = λ now has refers. (let found = finds_target store new both.new_legal.keys key is_key now has.0 refers.0 in
              none found.0 (found.1, one_key store both.sound key is_key found.0 waits.target (found.2.1 ∙ sym refers.1)));
        }

    refer : InsertsFor store old new key (change_of store other) (change_of store one) → WaitsToRefer key one other
    refer by =
        let told = of_insert store other.table (old_row other) (new_row other) key.to by.target by.inserts in
        let from : one.table ≡ key.from = sym table_one ∙ by.from in
        let P : TableId → Type 0 = λ t. HasRow store new t key_one by.row in
        record {
          from = from;
          row = by.row;
          shows = told_row store new one.table key_one (new_row one) is_one.afterwards (legal_apart store new both.new_legal one.table) by.row (subst P (sym from) by.stands);
          to = told.0;
          target = by.target;
          missing = told.1;
          comes = told.2;
          refers = by.refers;
        }

    go : LeavesFor store old new key (change_of store other) (change_of store one) → WaitsToGo key one other
    go by =
        let told = of_delete store one.table (old_row one) (new_row one) key.to (key_in store key.to by.target) by.deletes in
        let to : one.table ≡ key.to = told.0 in
        let from : other.table ≡ key.from = sym table_other ∙ by.from in
        let keys : key_one ≡ key_in store key.to by.target = ap (key_of_change store) by.deletes in
        let P : TableId × List Value → Type 0 = λ p. HasRow store old p.0 p.1 by.target in
        let Q : TableId → Type 0 = λ t. HasRow store old t key_other by.row in
        let target_there : HasRow store old key.to (key_in store key.to by.target) by.target = (by.held, refl) in
        record {
          to = to;
          target = by.target;
          stood = told_row store old one.table key_one (old_row one) is_one.before (legal_apart store old both.old_legal one.table) by.target (subst P (λ k. (sym to k, sym keys k)) target_there);
          gone = told.1;
          from = from;
          row = by.row;
          showed = told_row store old other.table key_other (old_row other) is_other.before (legal_apart store old both.old_legal other.table) by.row (subst Q (sym from) by.stood);
          refers = by.refers;
        }

  module _ (alterations : List Alteration) (are : AreAlterations store old new alterations) (i j : ℕ) (one other : Alteration) (at_i : At alterations i one) (at_j : At alterations j other) where
    is_one : IsAlteration store old new one
    is_one = is_alteration store old new alterations are i one at_i

    is_other : IsAlteration store old new other
    is_other = is_alteration store old new alterations are j other at_j

    pub precedes : WaitsFor store.keys alterations i j → MustPrecede store old new (change_of store other) (change_of store one)
    precedes waits =
        let same_one : waits.one ≡ one = at_once alterations i waits.one one waits.at_one at_i in
        let same_other : waits.other ≡ other = at_once alterations j waits.other other waits.at_other at_j in
        let P : Alteration × Alteration → Type 0 = λ p. WaitsToRefer waits.key p.0 p.1 ⊎ WaitsToGo waits.key p.0 p.1 in
        let by_key : WaitsToRefer waits.key one other ⊎ WaitsToGo waits.key one other = subst P (λ k. (same_one k, same_other k)) waits.by_key in
        record {
          apart = λ same. waits.apart (sym (same_altered store old new alterations are j i other one at_j at_i same));
          key = waits.key;
          is_key = waits.is_key;
          by_key = ⊎_elim
              (λ (by : WaitsToRefer waits.key one other). inl (inserts one other is_one is_other waits.key waits.is_key by))
              (λ (by : WaitsToGo waits.key one other). inr (leaves one other is_one is_other waits.key waits.is_key by))
              by_key;
        }

    pub awaits : MustPrecede store old new (change_of store other) (change_of store one) → WaitsFor store.keys alterations i j
    awaits must = record {
      apart = λ same. must.apart (ap (change_of store) (sym (at_once alterations j one other (subst (λ (n : ℕ). At alterations n one) same at_i) at_j)));
      one = one;
      at_one = at_i;
      other = other;
      at_other = at_j;
      key = must.key;
      is_key = must.is_key;
      by_key = ⊎_elim
          (λ (by : InsertsFor store old new must.key (change_of store other) (change_of store one)). inl (refer one other is_one is_other must.key must.is_key by))
          (λ (by : LeavesFor store old new must.key (change_of store other) (change_of store one)). inr (go one other is_one is_other must.key must.is_key by))
          must.by_key;
    }

    pub waits_as_precedes : WaitsFor store.keys alterations i j ↔ MustPrecede store old new (change_of store other) (change_of store one)
    waits_as_precedes = (precedes, awaits)
