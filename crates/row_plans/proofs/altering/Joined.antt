-- The rows that differ between two tables differ in all tables of which they are a part, with one rest, and no others do.
use Rattle.std.proofs.Common.{◌≡◌, ◌≢◌, ⊎_elim, List, Contains, Option, None, Some, refl, sym, ap, ◌∙◌}
use Rattle.std.proofs.lemmas.List.Elements.{All-weaker}
use Rattle.round_trip.specs.Words.{Row, StoreModel, TableId, Tables, Value, rows_in}
use Rattle.row_changes.specs.Changes.{HasNoRow, HasRow}
use Rattle.row_changes.specs.Joined.{AreJoined, AreWithOneRest}
use Rattle.row_orders.specs.declared.alteration.Alteration.{Alteration}
use Rattle.row_orders.specs.Alterations.{AreAlterations, IsAlteration, IsRowThere, new_row, old_row, whose}

-- of one part and one rest
module _ (store : StoreModel) (part rest whole : Tables) (joined : AreJoined store part rest whole) (t : TableId) (key : List Value) where
  -- a key of a row of the part is none of the rest
  not_rest : (row : Row) → HasRow store part t key row → HasNoRow store rest t key
  not_rest row has other rest_has = joined.apart t row other has.0 rest_has.0 (has.1 ∙ sym rest_has.1)

  -- what stands at a key that the rest lacks stands there in the whole
  to_whole : (found : Option Row) → HasNoRow store rest t key → IsRowThere store part t key found → IsRowThere store whole t key found
  to_whole None none there = λ row has. ⊎_elim
      (λ (of_part : Contains (rows_in part t) row). there row (of_part, has.1))
      (λ (of_rest : Contains (rows_in rest t) row). none row (of_rest, has.1))
      (joined.either t row has.0)
  to_whole (Some row) none there = (joined.of_part t row there.0, there.1)

  -- and the other way round
  to_part : (found : Option Row) → HasNoRow store rest t key → IsRowThere store whole t key found → IsRowThere store part t key found
  to_part None none there = λ row has. there row (joined.of_part t row has.0, has.1)
  to_part (Some row) none there = ⊎_elim
      (λ (of_part : Contains (rows_in part t) row). (of_part, there.1))
      (λ (of_rest : Contains (rows_in rest t) row). absurd (none row (of_rest, there.1)))
      (joined.either t row there.0)

  -- at a key of the rest its row stands
  of_rest : (row : Row) → HasRow store rest t key row → (found : Option Row) → IsRowThere store whole t key found → found ≡ Some row
  of_rest row has None there = absurd (there row (joined.of_rest t row has.0, has.1))
  of_rest row has (Some other) there = ⊎_elim
      (λ (of_part : Contains (rows_in part t) other). absurd (joined.apart t other row of_part has.0 (there.1 ∙ sym has.1)))
      (λ (rests : Contains (rows_in rest t) other). ap Some (joined.once t other row rests has.0 (there.1 ∙ sym has.1)))
      (joined.either t other there.0)

module _ (store : StoreModel) (part_before part_after rest old new : Tables) (joined : AreWithOneRest store part_before part_after rest old new) where
  -- the rest has no row at a key whose rows differ in the parts
  beside_rest : (t : TableId) (key : List Value) (one two : Option Row) → IsRowThere store part_before t key one → IsRowThere store part_after t key two → one ≢ two → HasNoRow store rest t key
  beside_rest t key None None was is apart = absurd (apart refl)
  beside_rest t key (Some row) two was is apart = not_rest store part_before rest old joined.old t key row was
  beside_rest t key None (Some row) was is apart = not_rest store part_after rest new joined.new t key row is

  -- nor at one whose rows differ in the wholes
  beside : (t : TableId) (key : List Value) (one two : Option Row) → IsRowThere store old t key one → IsRowThere store new t key two → one ≢ two → HasNoRow store rest t key
  beside t key one two was is apart row has =
      apart (of_rest store part_before rest old joined.old t key row has one was ∙ sym (of_rest store part_after rest new joined.new t key row has two is))

  is_alteration : (one : Alteration) → IsAlteration store part_before part_after one → IsAlteration store old new one
  is_alteration one is =
      let key = (whose store one).1 in
      let none = beside_rest one.table key (old_row one) (new_row one) is.before is.afterwards is.differ in
      record {
        before = to_whole store part_before rest old joined.old one.table key (old_row one) none is.before;
        afterwards = to_whole store part_after rest new joined.new one.table key (new_row one) none is.afterwards;
        differ = is.differ;
      }

  -- the alterations of the parts are those of the wholes
  pub same_alterations : (alterations : List Alteration) → AreAlterations store part_before part_after alterations → AreAlterations store old new alterations
  same_alterations alterations are = record {
    only = All-weaker (IsAlteration store part_before part_after) (IsAlteration store old new) is_alteration alterations are.only;
    all = λ t key one two was is apart.
        (let none = beside t key one two was is apart in
        are.all t key one two (to_part store part_before rest old joined.old t key one none was) (to_part store part_after rest new joined.new t key two none is) apart);
    once = are.once;
  }
