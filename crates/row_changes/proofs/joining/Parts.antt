-- Of tables with one rest the changes are those of the parts, and so is what has to come first.
use Rattle.std.proofs.Common.{◌≡◌, ◌⊎◌, ◌↔◌, ⊎_elim, inl, inr, List, Contains, refl, sym, ap, subst, ◌∙◌}
use Rattle.round_trip.specs.Words.{ForeignKey, Row, StoreModel, TableId, Tables, Value, rows_in}
use Rattle.row_changes.specs.declared.change.RowChange.{RowChange}
use Rattle.row_changes.specs.declared.change.RowChange.TheVariants.{Insert, Update, Delete}
use Rattle.row_changes.specs.Changes.{HasNoRow, HasRow, key_in, key_of_change, table_of}
use Rattle.row_changes.specs.Differences.{IsChange}
use Rattle.row_changes.specs.Joined.{AreJoined, AreWithOneRest}
use Rattle.row_changes.specs.Orders.{InsertsFor, LeavesFor, MustPrecede}

module _ (store : StoreModel) (part_before part_after rest old new : Tables) (joined : AreWithOneRest store part_before part_after rest old new) where
  -- what has no row in the whole has none in the part
  none_in_part : (part whole : Tables) → AreJoined store part rest whole → (t : TableId) (key : List Value) → HasNoRow store whole t key → HasNoRow store part t key
  none_in_part part whole are t key none row has = none row (are.of_part t row has.0, has.1)

  -- and what has none in the part, and whose key no row of the rest has, has none in the whole
  none_in_whole : (part whole : Tables) → AreJoined store part rest whole → (t : TableId) (key : List Value) → HasNoRow store part t key → HasNoRow store rest t key → HasNoRow store whole t key
  none_in_whole part whole are t key none none_rest row has = ⊎_elim
      (λ (of_part : Contains (rows_in part t) row). none row (of_part, has.1))
      (λ (of_rest : Contains (rows_in rest t) row). none_rest row (of_rest, has.1))
      (are.either t row has.0)

  -- a key of a row of a part is none of the rest
  not_rest : (part whole : Tables) → AreJoined store part rest whole → (t : TableId) (key : List Value) (row : Row) → HasRow store part t key row → HasNoRow store rest t key
  not_rest part whole are t key row has other rest_has = are.apart t row other has.0 rest_has.0 (has.1 ∙ sym rest_has.1)

  -- a row of the whole at a key that the rest lacks is one of the part
  in_part : (part whole : Tables) → AreJoined store part rest whole → (t : TableId) (key : List Value) → HasNoRow store rest t key → (row : Row) → HasRow store whole t key row → HasRow store part t key row
  in_part part whole are t key none row has = ⊎_elim
      (λ (of_part : Contains (rows_in part t) row). (of_part, has.1))
      (λ (of_rest : Contains (rows_in rest t) row). absurd (none row (of_rest, has.1)))
      (are.either t row has.0)

  in_whole : (part whole : Tables) → AreJoined store part rest whole → (t : TableId) (key : List Value) (row : Row) → HasRow store part t key row → HasRow store whole t key row
  in_whole part whole are t key row has = (are.of_part t row has.0, has.1)

  -- the changes of the parts are changes
  to_whole : (change : RowChange) → IsChange store part_before part_after change → IsChange store old new change
  to_whole (Insert t row) is = (
    joined.new.of_part t row is.0,
    none_in_whole part_before old joined.old t (key_in store t row) is.1 (not_rest part_after new joined.new t (key_in store t row) row (is.0, refl)),
  )
  to_whole (Update t row) is = (joined.new.of_part t row is.0, (is.1.0, in_whole part_before old joined.old t (key_in store t row) is.1.0 is.1.1, is.1.2))
  to_whole (Delete t key) is = (
    (is.0.0, in_whole part_before old joined.old t key is.0.0 is.0.1),
    none_in_whole part_after new joined.new t key is.1 (not_rest part_before old joined.old t key is.0.0 is.0.1),
  )

  -- and the other way round
  to_parts : (change : RowChange) → IsChange store old new change → IsChange store part_before part_after change
  to_parts (Insert t row) is = (
    ⊎_elim
        (λ (of_part : Contains (rows_in part_after t) row). of_part)
        (λ (of_rest : Contains (rows_in rest t) row). absurd (is.1 row (joined.old.of_rest t row of_rest, refl)))
        (joined.new.either t row is.0),
    none_in_part part_before old joined.old t (key_in store t row) is.1,
  )
  to_parts (Update t row) is = by (joined.new.either t row is.0) (joined.old.either t is.1.0 is.1.1.0)
    where
      by : Contains (rows_in part_after t) row ⊎ Contains (rows_in rest t) row → Contains (rows_in part_before t) is.1.0 ⊎ Contains (rows_in rest t) is.1.0 → IsChange store part_before part_after (Update t row)
      by (inl now) (inl before) = (now, (is.1.0, (before, is.1.1.1), is.1.2))
      by (inl now) (inr before) = absurd (joined.new.apart t row is.1.0 now before (sym is.1.1.1))
      by (inr now) (inl before) = absurd (joined.old.apart t is.1.0 row before now is.1.1.1)
      by (inr now) (inr before) = absurd (is.1.2 (joined.old.once t is.1.0 row before now is.1.1.1))
  to_parts (Delete t key) is = (
    ⊎_elim
        (λ (of_part : Contains (rows_in part_before t) is.0.0). (is.0.0, (of_part, is.0.1.1)))
        (λ (of_rest : Contains (rows_in rest t) is.0.0). absurd (is.1 is.0.0 (joined.new.of_rest t is.0.0 of_rest, is.0.1.1)))
        (joined.old.either t is.0.0 is.0.1.0),
    none_in_part part_after new joined.new t key is.1,
  )

  pub same_changes : (change : RowChange) → IsChange store part_before part_after change ↔ IsChange store old new change
  same_changes change = (to_whole change, to_parts change)

  -- the rest has no row at the key of a change
  beside_rest : (change : RowChange) → IsChange store part_before part_after change → HasNoRow store rest (table_of change) (key_of_change store change)
  beside_rest (Insert t row) is = not_rest part_after new joined.new t (key_in store t row) row (is.0, refl)
  beside_rest (Update t row) is = not_rest part_after new joined.new t (key_in store t row) row (is.0, refl)
  beside_rest (Delete t key) is = not_rest part_before old joined.old t key is.0.0 is.0.1

  module _ (one other : RowChange) (is_one : IsChange store part_before part_after one) (is_other : IsChange store part_before part_after other) (key : ForeignKey) where
    beside : (change : RowChange) → IsChange store part_before part_after change → (t : TableId) → table_of change ≡ t → HasNoRow store rest t (key_of_change store change)
    beside change is t at = subst (λ (u : TableId). HasNoRow store rest u (key_of_change store change)) at (beside_rest change is)

    inserts_whole : InsertsFor store part_before part_after key one other → InsertsFor store old new key one other
    inserts_whole by = record {
      target = by.target;
      inserts = by.inserts;
      from = by.from;
      row = by.row;
      stands = in_whole part_after new joined.new key.from (key_of_change store other) by.row by.stands;
      refers = by.refers;
      did_not = λ before stood. by.did_not before (in_part part_before old joined.old key.from (key_of_change store other) (beside other is_other key.from by.from) before stood);
    }

    inserts_parts : InsertsFor store old new key one other → InsertsFor store part_before part_after key one other
    inserts_parts by = record {
      target = by.target;
      inserts = by.inserts;
      from = by.from;
      row = by.row;
      stands = in_part part_after new joined.new key.from (key_of_change store other) (beside other is_other key.from by.from) by.row by.stands;
      refers = by.refers;
      did_not = λ before stood. by.did_not before (in_whole part_before old joined.old key.from (key_of_change store other) before stood);
    }

    leaves_whole : LeavesFor store part_before part_after key one other → LeavesFor store old new key one other
    leaves_whole by = record {
      target = by.target;
      held = joined.old.of_part key.to by.target by.held;
      deletes = by.deletes;
      from = by.from;
      row = by.row;
      stood = in_whole part_before old joined.old key.from (key_of_change store one) by.row by.stood;
      refers = by.refers;
      does_not = λ now stands. by.does_not now (in_part part_after new joined.new key.from (key_of_change store one) (beside one is_one key.from by.from) now stands);
    }

    leaves_parts : LeavesFor store old new key one other → LeavesFor store part_before part_after key one other
    leaves_parts by =
        let gone : HasNoRow store rest key.to (key_in store key.to by.target) =
        subst (λ (at : List Value). HasNoRow store rest key.to at) (ap (key_of_change store) by.deletes) (beside other is_other key.to (ap table_of by.deletes)) in
        record {
          target = by.target;
          held = (in_part part_before old joined.old key.to (key_in store key.to by.target) gone by.target (by.held, refl)).0;
          deletes = by.deletes;
          from = by.from;
          row = by.row;
          stood = in_part part_before old joined.old key.from (key_of_change store one) (beside one is_one key.from by.from) by.row by.stood;
          refers = by.refers;
          does_not = λ now stands. by.does_not now (in_whole part_after new joined.new key.from (key_of_change store one) now stands);
        }

  pub same_precedence : (one other : RowChange) → IsChange store part_before part_after one → IsChange store part_before part_after other
      → MustPrecede store part_before part_after one other ↔ MustPrecede store old new one other
  same_precedence one other is_one is_other = (
    λ must. record {
      apart = must.apart;
      key = must.key;
      is_key = must.is_key;
      by_key = ⊎_elim
          (λ (by : InsertsFor store part_before part_after must.key one other). inl (inserts_whole one other is_one is_other must.key by))
          (λ (by : LeavesFor store part_before part_after must.key one other). inr (leaves_whole one other is_one is_other must.key by)) must.by_key;
    },
    λ must. record {
      apart = must.apart;
      key = must.key;
      is_key = must.is_key;
      by_key = ⊎_elim
          (λ (by : InsertsFor store old new must.key one other). inl (inserts_parts one other is_one is_other must.key by))
          (λ (by : LeavesFor store old new must.key one other). inr (leaves_parts one other is_one is_other must.key by)) must.by_key;
    },
  )
