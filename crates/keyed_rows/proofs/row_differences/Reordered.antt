-- What is told of rows in the order of their keys is told of them as they stand.
use Rattle.std.proofs.Common.{◌≢◌, List, Option, Some, None, Bool, IsPermutation}
use Rattle.std.proofs.lemmas.List.Sorted.{All-permutation, Contains-permutation, IsPermutation-sym}
use Rattle.round_trip.specs.Words.{ColId, Value, Table, Row, row_key}
use Rattle.keyed_rows.specs.row_differences.Differences.{IsRowAt}
use Rattle.keyed_rows.specs.row_differences.InTable.{DifferInTable, TellsInTable}
use Rattle.keyed_rows.specs.declared.row_differences.differences.Difference.{Difference}

-- a row stands at a key in any order
at_key : (table : Table) (rows others : List Row) → IsPermutation rows others → (key : List Value) (one : Option Row) → IsRowAt table rows key one → IsRowAt table others key one
at_key table rows others same key None none = All-permutation (λ row. row_key table row ≢ key) rows others same none
at_key table rows others same key (Some row) is = (Contains-permutation rows others row same is.0, is.1)

module _ (is_free : ColId → Bool) (table : Table) (held demanded sorted others : List Row) (same_held : IsPermutation held sorted) (same_demanded : IsPermutation demanded others) where
  differ_sorted : (key : List Value) (one two : Option Row) → DifferInTable is_free table held demanded key one two → DifferInTable is_free table sorted others key one two
  differ_sorted key one two differ = (at_key table held sorted same_held key one differ.0, at_key table demanded others same_demanded key two differ.1, differ.2)

  differ_there : (key : List Value) (one two : Option Row) → DifferInTable is_free table sorted others key one two → DifferInTable is_free table held demanded key one two
  differ_there key one two differ = (
    at_key table sorted held (IsPermutation-sym held sorted same_held) key one differ.0,
    at_key table others demanded (IsPermutation-sym demanded others same_demanded) key two differ.1,
    differ.2,
  )

  pub told_there : (found : Option Difference) → TellsInTable is_free table sorted others found → TellsInTable is_free table held demanded found
  told_there None none = λ key one two differ. none key one two (differ_sorted key one two differ)
  told_there (Some found) first = record {
    key = first.key;
    differ = differ_there first.key found.held found.demanded first.differ;
    first = λ other one two less differs. first.first other one two less (differ_sorted other one two differs);
    told = first.told;
  }
