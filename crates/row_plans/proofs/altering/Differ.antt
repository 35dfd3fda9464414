-- Rows that differ, and the row of a key.
use Rattle.std.proofs.Common.{◌≡◌, ◌≢◌, List, true, false, true≢false, Option, None, Some, refl, sym, ap, ◌∙◌}
use Rattle.std.proofs.lemmas.Bool.{not-false, not-true}
use Rattle.std.proofs.lemmas.Option.{none-some, same_Some}
use Rattle.schema_laws.proofs.state_demand.writings.Selecting.{Decides-key}
use Rattle.schema_laws.specs.state_demand.Selecting.{same_key}
use Rattle.round_trip.specs.Words.{Row, StoreModel, TableId, Tables, Value}
use Rattle.row_changes.specs.Changes.{key_of_change}
use Rattle.row_changes.proofs.leading.Primary.{AreApartBy}
use Rattle.row_orders.specs.Alterations.{IsRowThere, change_by}
use Rattle.row_orders.proofs.matching.Altered.{told_row}
use Rattle.row_plans.specs.Altered.{differ}

-- the test tells that two rows aren't one
pub two_rows : (one two : Option Row) → differ one two ≡ true → one ≢ two
two_rows None None told same = true≢false (sym told)
two_rows None (Some new) told same = none-some new same
two_rows (Some old) None told same = none-some old (sym same)
two_rows (Some old) (Some new) told same =
    true≢false (sym ((Decides-key old.cells new.cells).1 (ap (λ (row : Row). row.cells) (same_Some old new same))) ∙ not-true (same_key old.cells new.cells) told)

-- or that they are
pub one_row_told : (one two : Option Row) → differ one two ≡ false → one ≡ two
one_row_told None None told = refl
one_row_told None (Some new) told = absurd (true≢false told)
one_row_told (Some old) None told = absurd (true≢false told)
one_row_told (Some old) (Some new) told =
    let cells : old.cells ≡ new.cells = (Decides-key old.cells new.cells).0 (not-false (same_key old.cells new.cells) told) in
    let rows : old ≡ new = λ i. record { cells = cells i } in
    ap Some rows

module _ (store : StoreModel) where
  -- the row of a key is told once
  pub row_once : (tables : Tables) (t : TableId) (key : List Value) → AreApartBy store tables t → (one two : Option Row) → IsRowThere store tables t key one → IsRowThere store tables t key two → one ≡ two
  row_once tables t key apart None None first second = refl
  row_once tables t key apart (Some row) two first second = sym (told_row store tables t key two second apart row first)
  row_once tables t key apart None (Some row) first second = told_row store tables t key None first apart row second

  -- the change from a row of a key to another that differs is at the key
  pub at_its_key : (old new : Tables) (t : TableId) (key : List Value) (one two : Option Row) → IsRowThere store old t key one → IsRowThere store new t key two → one ≢ two
      → key_of_change store (change_by store t one two) ≡ key
  at_its_key old new t key None None first second two_ = absurd (two_ refl)
  at_its_key old new t key None (Some row) first second two_ = second.1
  at_its_key old new t key (Some before) None first second two_ = first.1
  at_its_key old new t key (Some before) (Some row) first second two_ = second.1
