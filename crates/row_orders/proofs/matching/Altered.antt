-- The change that leads from a row to another: what it says of the two, and that it is a change of the tables.
use Rattle.std.proofs.Common.{◌≡◌, ◌≢◌, ℕ, List, [], Option, None, Some, refl, sym, ap, ◌∙◌}
use Rattle.std.proofs.lemmas.List.Elements.{All-contains}
use Rattle.emc_base.specs.Lists.{At}
use Rattle.emc_base.proofs.Lists.{same_place}
use Rattle.emc_base.proofs.Mapped.{contains_at}
use Rattle.round_trip.specs.Words.{Row, StoreModel, TableId, Tables, Value}
use Rattle.row_changes.specs.declared.change.RowChange.TheVariants.{Insert, Update, Delete}
use Rattle.row_changes.specs.Changes.{HasRow, key_in, key_of_change, table_of}
use Rattle.row_changes.specs.Differences.{IsChange}
use Rattle.row_changes.proofs.leading.Primary.{AreApartBy, one_row}
use Rattle.row_orders.specs.declared.alteration.Alteration.{Alteration}
use Rattle.row_orders.specs.Alterations.{AreAlterations, IsAlteration, IsRowThere, change_by, change_of, new_row, old_row, whose}

module _ (store : StoreModel) where
  -- its table
  pub table_of_change : (t : TableId) (one two : Option Row) → table_of (change_by store t one two) ≡ t
  table_of_change t None None = refl
  table_of_change t None (Some row) = refl
  table_of_change t (Some before) None = refl
  table_of_change t (Some before) (Some row) = refl

  -- an insert comes where no row was, and a delete where none is
  pub of_insert : (t : TableId) (one two : Option Row) (u : TableId) (target : Row) → change_by store t one two ≡ Insert u target → (t ≡ u) × (one ≡ None) × (two ≡ Some target)
  of_insert t None None u target same = absurd (let never : Delete t [] ≡ Insert u target = same in cc)
  of_insert t None (Some row) u target same = let both : Insert t row ≡ Insert u target = same in let tables : t ≡ u = cc in let rows : row ≡ target = cc in (tables, refl, ap Some rows)
  of_insert t (Some before) None u target same = absurd (let never : Delete t (key_in store t before) ≡ Insert u target = same in cc)
  of_insert t (Some before) (Some row) u target same = absurd (let never : Update t row ≡ Insert u target = same in cc)

  pub of_delete : (t : TableId) (one two : Option Row) (u : TableId) (key : List Value) → change_by store t one two ≡ Delete u key → (t ≡ u) × (two ≡ None)
  of_delete t None None u key same = let both : Delete t [] ≡ Delete u key = same in let tables : t ≡ u = cc in (tables, refl)
  of_delete t None (Some row) u key same = absurd (let never : Insert t row ≡ Delete u key = same in cc)
  of_delete t (Some before) None u key same = let both : Delete t (key_in store t before) ≡ Delete u key = same in let tables : t ≡ u = cc in (tables, refl)
  of_delete t (Some before) (Some row) u key same = absurd (let never : Update t row ≡ Delete u key = same in cc)

  -- what is told of a key is the row that stands there
  pub told_row : (tables : Tables) (t : TableId) (key : List Value) (found : Option Row) → IsRowThere store tables t key found → AreApartBy store tables t
      → (row : Row) → HasRow store tables t key row → found ≡ Some row
  told_row tables t key None there apart row has = absurd (there row has)
  told_row tables t key (Some other) there apart row has = ap Some (one_row store tables t apart key other row there has)

  module _ (old new : Tables) where
    -- rows that differ ask for a change
    is_change_by : (t : TableId) (one two : Option Row) → IsRowThere store old t (key_of_change store (change_by store t one two)) one
        → IsRowThere store new t (key_of_change store (change_by store t one two)) two → one ≢ two → IsChange store old new (change_by store t one two)
    is_change_by t None None was is differ = absurd (differ refl)
    is_change_by t None (Some row) was is differ = (is.0, was)
    is_change_by t (Some before) None was is differ = ((before, was), is)
    is_change_by t (Some before) (Some row) was is differ = (is.0, (before, was, λ same. differ (ap Some same)))

    module _ (alterations : List Alteration) (are : AreAlterations store old new alterations) where
      pub is_alteration : (i : ℕ) (one : Alteration) → At alterations i one → IsAlteration store old new one
      is_alteration i one at = All-contains (IsAlteration store old new) alterations one are.only (contains_at alterations i one at)

      pub is_change : (i : ℕ) (one : Alteration) → At alterations i one → IsChange store old new (change_of store one)
      is_change i one at = let is = is_alteration i one at in is_change_by one.table (old_row one) (new_row one) is.before is.afterwards is.differ

      -- and each its own
      pub same_altered : (i j : ℕ) (one other : Alteration) → At alterations i one → At alterations j other → change_of store one ≡ change_of store other → i ≡ j
      same_altered i j one other at_i at_j same =
          let tables : one.table ≡ other.table =
          sym (table_of_change one.table (old_row one) (new_row one)) ∙ ap table_of same ∙ table_of_change other.table (old_row other) (new_row other) in
          let keys : key_of_change store (change_of store one) ≡ key_of_change store (change_of store other) = ap (key_of_change store) same in
          same_place (whose store) alterations i j one other are.once at_i at_j (λ k. (tables k, keys k))
