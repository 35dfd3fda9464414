-- Where the rows of two tables are alike side by side, none differ.
use Rattle.std.proofs.Common.{◌≡◌, ◌≢◌, ℕ, ◌+◌, ◌<◌, List, [], ◌∷◌, ◌++◌, length, get_or, take, Contains, Option, Some, None, Bool, sym, ap, subst, ◌∙◌, arith}
use Rattle.std.specs.List.{AllZip}
use Rattle.std.proofs.lemmas.List.{get_or-map, map-append, take_more}
use Rattle.std.proofs.lemmas.Option.{get_or_from_slice_get, slice_get_within}
use Rattle.emc_base.specs.Lists.{At}
use Rattle.std.proofs.lemmas.List.Elements.{All-contains, AllZip-get_or, AllZip-push, Contains-get_or, length_all_zip}
use Rattle.round_trip.specs.Words.{ColId, Value, Table, Row, cell_of, cells_of, row_key}
use Rattle.table_files.specs.InOrder.{AreToldApartBy}
use Rattle.keyed_rows.specs.row_differences.Alike.{AreAlike, IsAlike}
use Rattle.keyed_rows.specs.row_differences.InTable.{DifferInTable}
use Rattle.keyed_rows.proofs.row_differences.KeyedRows.{one_row}

module _ (is_free : ColId → Bool) (table : Table) (held demanded : List Row) (demanded_apart : AreToldApartBy table.key demanded) (alike : AreAlike is_free table held demanded) where
  long : length held ≡ length demanded
  long = length_all_zip (IsAlike is_free table) held demanded alike

  -- beside each row stands one that is like it
  beside : (row : Row) → Contains held row → (other : Row) × Contains demanded other × IsAlike is_free table row other
  beside row has =
      let within : has.0 < length demanded = omega (arith, long, has.1) in (
        get_or demanded has.0 row,
        Contains-get_or demanded has.0 row within,
        subst (λ one. IsAlike is_free table one (get_or demanded has.0 row)) has.2 (AllZip-get_or (IsAlike is_free table) held demanded has.0 row row alike has.1),
      )

  beside_demanded : (row : Row) → Contains demanded row → (other : Row) × Contains held other × IsAlike is_free table other row
  beside_demanded row has =
      let within : has.0 < length held = omega (arith, long, has.1) in (
        get_or held has.0 row,
        Contains-get_or held has.0 row within,
        subst (λ one. IsAlike is_free table (get_or held has.0 row) one) has.2 (AllZip-get_or (IsAlike is_free table) held demanded has.0 row row alike within),
      )

  pub alike_none_differ : (key : List Value) (one two : Option Row) → ¬ DifferInTable is_free table held demanded key one two
  alike_none_differ key None None differ = differ.2
  alike_none_differ key (Some row) None differ =
      let other = beside row differ.0.0 in
      All-contains (λ r. row_key table r ≢ key) demanded other.0 differ.1 other.1 (sym other.2.key ∙ differ.0.1)
  alike_none_differ key None (Some row) differ =
      let other = beside_demanded row differ.1.0 in
      All-contains (λ r. row_key table r ≢ key) held other.0 differ.0 other.1 (other.2.key ∙ differ.1.1)
  alike_none_differ key (Some row) (Some second) differ =
      let other = beside row differ.0.0 in
      let same : other.0 ≡ second = one_row table.key demanded demanded_apart other.0 second other.1 differ.1.0 (sym other.2.key ∙ differ.0.1 ∙ sym differ.1.1) in
      (subst (IsAlike is_free table row) same other.2).cells differ.2

-- one row more on each side
pub alike_more : (is_free : ColId → Bool) (table : Table) (held demanded : List Row) (i : ℕ) (row other : Row) → At held i row → At demanded i other → IsAlike is_free table row other
    → AreAlike is_free table (take i held) (take i demanded) → AreAlike is_free table (take (i + 1) held) (take (i + 1) demanded)
alike_more is_free table held demanded i row other here there alike so_far =
    let first : take (i + 1) held ≡ take i held ++ row ∷ [] =
    take_more held i row (slice_get_within held i row here) ∙ ap (λ one. take i held ++ one ∷ []) (get_or_from_slice_get held i row row here) in
    let second : take (i + 1) demanded ≡ take i demanded ++ other ∷ [] =
    take_more demanded i other (slice_get_within demanded i other there) ∙ ap (λ one. take i demanded ++ one ∷ []) (get_or_from_slice_get demanded i other other there) in
    subst (λ rows. AllZip (IsAlike is_free table) rows (take (i + 1) demanded)) (sym first)
    (subst (AllZip (IsAlike is_free table) (take i held ++ row ∷ [])) (sym second) (AllZip-push (IsAlike is_free table) (take i held) (take i demanded) row other so_far alike))

-- the rows hold the same in one column more
pub same_more : (one other : Row) (cols : List ColId) (i : ℕ) (col : ColId) → i < length cols → col ≡ get_or cols i col → cell_of one col ≡ cell_of other col
    → cells_of one (take i cols) ≡ cells_of other (take i cols) → cells_of one (take (i + 1) cols) ≡ cells_of other (take (i + 1) cols)
same_more one other cols i col within is same so_far =
    let more : take (i + 1) cols ≡ take i cols ++ col ∷ [] = take_more cols i col within ∙ ap (λ c. take i cols ++ c ∷ []) (sym is) in
    ap (cells_of one) more ∙ map-append (cell_of one) (take i cols) (col ∷ []) ∙ (λ k. so_far k ++ same k ∷ []) ∙ sym (map-append (cell_of other) (take i cols) (col ∷ []))
    ∙ sym (ap (cells_of other) more)

-- rows that hold the same in some columns do so in each
pub same_in_each : (one other : Row) (cols : List ColId) (i : ℕ) (col : ColId) → i < length cols → col ≡ get_or cols i col → cells_of one cols ≡ cells_of other cols
    → cell_of one col ≡ cell_of other col
same_in_each one other cols i col within is same =
    ap (cell_of one) is ∙ sym (get_or-map (cell_of one) cols i col (cell_of one col) within) ∙ ap (λ cells. get_or cells i (cell_of one col)) same
    ∙ get_or-map (cell_of other) cols i col (cell_of one col) within ∙ sym (ap (cell_of other) is)
