-- Rows that some columns tell apart: one for each key.
use Rattle.std.proofs.Common.{◌≡◌, ◌≢◌, ◌⊎◌, inl, inr, List, [], ◌∷◌, Contains, Option, Some, None, refl, sym, ap, subst, ◌∙◌, arith}
use Rattle.std.proofs.lemmas.List.Elements.{All-cons, All-contains, All-nil, Contains-append_right}
use Rattle.emc_base.specs.Lists.{At}
use Rattle.emc_base.proofs.Lists.{at_once, same_place}
use Rattle.emc_base.proofs.facts.Standing.{place_of_member}
use Rattle.round_trip.specs.Words.{ColId, Value, Table, Row, cells_of, row_key}
use Rattle.table_files.specs.InOrder.{AreToldApartBy}
use Rattle.keyed_rows.specs.row_differences.Differences.{IsRowAt}
use Rattle.keyed_rows.proofs.row_differences.Apart.{one_key_or_two}

-- rows of one key are one row
pub one_row : (cols : List ColId) (rows : List Row) → AreToldApartBy cols rows → (row other : Row) → Contains rows row → Contains rows other → cells_of row cols ≡ cells_of other cols → row ≡ other
one_row cols rows apart row other has has_other same =
    let place = same_place (λ (r : Row). cells_of r cols) rows has.0 has_other.0 row other apart (place_of_member rows row has) (place_of_member rows other has_other) same in
    at_once rows has_other.0 row other (subst (λ i. At rows i row) place (place_of_member rows row has)) (place_of_member rows other has_other)

-- the row of a key is told once
pub one_row_at : (table : Table) (rows : List Row) → AreToldApartBy table.key rows → (key : List Value) (one two : Option Row) → IsRowAt table rows key one → IsRowAt table rows key two → one ≡ two
one_row_at table rows apart key None None is_one is_two = refl
one_row_at table rows apart key (Some row) None is_one is_two = absurd (All-contains (λ r. row_key table r ≢ key) rows row is_two is_one.0 is_one.1)
one_row_at table rows apart key None (Some row) is_one is_two = absurd (All-contains (λ r. row_key table r ≢ key) rows row is_one is_two.0 is_two.1)
one_row_at table rows apart key (Some row) (Some other) is_one is_two = ap Some (one_row table.key rows apart row other is_one.0 is_two.0 (is_one.1 ∙ sym is_two.1))

-- there is a row of a key, or there is none
pub row_of_key : (table : Table) (rows : List Row) (key : List Value) → (found : Option Row) × IsRowAt table rows key found
row_of_key table [] key = (None, All-nil (λ r. row_key table r ≢ key))
row_of_key table (row ∷ rows) key = by (one_key_or_two (row_key table row) key) (row_of_key table rows key)
  where
    by : (row_key table row ≡ key) ⊎ (row_key table row ≢ key) → (found : Option Row) × IsRowAt table rows key found → (found : Option Row) × IsRowAt table (row ∷ rows) key found
    by (inl same) rest = (Some row, ((0, omega arith, refl), same))
    by (inr differ) (None, none) = (None, All-cons (λ r. row_key table r ≢ key) row rows differ none)
    by (inr differ) (Some found, is) = (Some found, (Contains-append_right (row ∷ []) rows found is.0, is.1))
