-- The keys of both ends in a row, pair by pair.
use Rattle.std.proofs.Common.{◌≡◌, ◌==◌, List, [], ◌∷◌, ◌++◌, map, find, take, drop, length, slice_get, unwrap_or, Option, Some, None, Bool, true, false, if◌then◌else◌, refl, sym, ap, ◌∙◌}
use Rattle.std.specs.Option.{option_map, option_map_or}
use Rattle.std.proofs.lemmas.Bool.Decides.{Decides-eqb}
use Rattle.std.proofs.lemmas.List.{length-map, map-append}
use Rattle.std.proofs.lemmas.Option.{slice_get-map}
use Rattle.std.proofs.Math.Seq.{drop-append_seam, take-append_seam}
use Rattle.round_trip.specs.Words.{Assoc, ColId, EntityModel, LinkFragment, Null, Pair, PropId, Row, Schema, TableId, TypeId, Value, cell_of, cells_of, key_props, value_beside}
use Rattle.round_trip.specs.FailsAt.{key_in_tuple}
use Rattle.schema_laws.specs.sound_demand.Disagreeing.{keys_in_row}
use Rattle.schema_laws.specs.state_demand.WellWritten.{cols_of}
use Rattle.schema_laws.proofs.state_demand.lists.Places.{map_agree}
use Rattle.regions.proofs.region_laws.pattern.Choices.{found_passes, none_passes}
use Rattle.regions.specs.declared.pattern.Pattern.{Pattern}
use Rattle.regions.specs.declared.pattern.PatternRow.{PatternRow}
use Rattle.regions.specs.Patterns.{Valuation}
use Rattle.regions.specs.region_laws.pattern.Described.{row_for, value_in}
use Rattle.region_states.specs.focus.Held.{HasRow}
use Rattle.witness_state.specs.SmallLinks.{IsRowAt, end_in_row, part_in_row}

module _ (row : Row) where
  beside : (p : PropId) (pairs : List Pair) → value_beside p (map (λ (pair : Pair). pair.prop) pairs) (cells_of row (cols_of pairs)) ≡ part_in_row row pairs p
  beside p [] = refl
  beside p (pair ∷ pairs) = by (pair.prop.index == p.index) (beside p pairs)
    where
      by : (b : Bool) → value_beside p (map (λ (one : Pair). one.prop) pairs) (cells_of row (cols_of pairs)) ≡ part_in_row row pairs p
          → (if b then cell_of row pair.col else value_beside p (map (λ (one : Pair). one.prop) pairs) (cells_of row (cols_of pairs)))
          ≡ option_map_or (λ (one : Pair). cell_of row one.col) (if b then Some pair else find (λ (one : Pair). one.prop.index == p.index) pairs) Null
      by true rest = refl
      by false rest = rest

  key_is : (model : EntityModel) (ty : TypeId) (pairs : List Pair) → key_in_tuple model ty pairs (cells_of row (cols_of pairs)) ≡ end_in_row model row ty pairs
  key_is model ty pairs = map_agree (λ p. value_beside p (map (λ (pair : Pair). pair.prop) pairs) (cells_of row (cols_of pairs))) (part_in_row row pairs) (key_props model ty)
      (λ p among. beside p pairs)

  abbrev cells : List Pair → List Value
  cells pairs = cells_of row (cols_of pairs)

  cells_both : (first second : List Pair) → cells (first ++ second) ≡ cells first ++ cells second
  cells_both first second = ap (cells_of row) (map-append (λ (pair : Pair). pair.col) first second) ∙ map-append (cell_of row) (cols_of first) (cols_of second)

  cells_count : (pairs : List Pair) → length pairs ≡ length (cells pairs)
  cells_count pairs = sym (length-map (cols_of pairs) (cell_of row) ∙ length-map pairs (λ (pair : Pair). pair.col))

  pub keys_are : (schema : Schema) (assoc : Assoc) (fragment : LinkFragment)
      → keys_in_row schema assoc fragment row ≡ end_in_row schema.model row assoc.first.ty fragment.first ++ end_in_row schema.model row assoc.second.ty fragment.second
  keys_are schema assoc fragment =
      let all = cells_both fragment.first fragment.second in
      let count = cells_count fragment.first in
      let one : take (length fragment.first) (cells (fragment.first ++ fragment.second)) ≡ cells fragment.first =
      (λ k. take (count k) (all k)) ∙ take-append_seam (cells fragment.first) (cells fragment.second) in
      let two : drop (length fragment.first) (cells (fragment.first ++ fragment.second)) ≡ cells fragment.second =
      (λ k. drop (count k) (all k)) ∙ drop-append_seam (cells fragment.first) (cells fragment.second) in
      (λ k. key_in_tuple schema.model assoc.first.ty fragment.first (one k) ++ key_in_tuple schema.model assoc.second.ty fragment.second (two k))
      ∙ (λ k. key_is schema.model assoc.first.ty fragment.first k ++ key_is schema.model assoc.second.ty fragment.second k)

-- the row of a pattern in a table
module _ (pattern : Pattern) (t : TableId) where
  abbrev at_table : PatternRow → Bool
  at_table row = row.table.index == t.index

  pub no_row : find at_table pattern.rows ≡ None → HasRow pattern t → ⊥
  no_row none has = none_passes at_table pattern.rows has.0 none has.1 ((Decides-eqb has.0.table.index t.index).1 (ap (λ (u : TableId). u.index) has.2))

  pub row_found : (row : PatternRow) → find at_table pattern.rows ≡ Some row → IsRowAt pattern t row
  row_found row found =
      let there = found_passes at_table pattern.rows row found in
      let index = (Decides-eqb row.table.index t.index).0 there.1 in
      record { among = there.0; of_table = λ k. record { index = index k } }

-- the cells of a row, by the pattern's
module _ (values : Valuation) (row : PatternRow) (col : ColId) where
  pub cell_is : cell_of (row_for values row) col ≡ unwrap_or (option_map (value_in values) (slice_get row.cells col.index)) Null
  cell_is = ap (λ (found : Option Value). unwrap_or found Null) (slice_get-map (value_in values) row.cells col.index)
