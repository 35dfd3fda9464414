-- Tables that are sorted one by one.
use Rattle.std.proofs.Common.{◌≡◌, ⊎_elim, ℕ, ◌+◌, ◌<◌, List, [], ◌∷◌, ◌++◌, length, map, get_or, slice_get, unwrap_or, sym, ap, subst, ◌∙◌, arith}
use Rattle.std.proofs.lemmas.List.{get_or-map, get_or_append_left, get_or_push, length_push}
use Rattle.std.proofs.lemmas.Bool.{cases_eq}
use Rattle.std.proofs.lemmas.Option.{slice_get_within, unwrap_or-slice_get}
use Rattle.round_trip.specs.Words.{TableId, StoreModel, Table, Row, At, Tables, rows_in}
use Rattle.table_files.specs.InOrder.{AreInKeyOrder, IsInOrderOf}

-- the rows of each table below a number, in the order of their primary keys
pub record AreSortedUpTo (n : ℕ) (declared : List Table) (tables sorted : Tables) : Type 0 where
  pub each : length sorted ≡ n
  pub rows : (t : TableId) (table : Table) → t.index < n → At declared t.index table → IsInOrderOf table.key (rows_in tables t) (rows_in sorted t)

module _ (n : ℕ) (declared : List Table) (tables sorted : Tables) (table : Table) (new : List Row) where
  before : (t : TableId) → length sorted ≡ n → t.index < n → rows_in sorted t ≡ rows_in (sorted ++ new ∷ []) t
  before t each below =
      unwrap_or-slice_get sorted t.index []
      ∙ sym (get_or_append_left sorted (new ∷ []) [] t.index (omega arith))
      ∙ sym (unwrap_or-slice_get (sorted ++ new ∷ []) t.index [])

  last : (t : TableId) → length sorted ≡ n → t.index ≡ n → new ≡ rows_in (sorted ++ new ∷ []) t
  last t each is = sym (unwrap_or-slice_get (sorted ++ new ∷ []) t.index [] ∙ get_or_push sorted new [] t.index (each ∙ sym is))

  -- one table more
  pub one_more_sorted : At declared n table → IsInOrderOf table.key (rows_in tables (record { index = n })) new → AreSortedUpTo n declared tables sorted
      → AreSortedUpTo (n + 1) declared tables (sorted ++ new ∷ [])
  one_more_sorted here order sofar = record {
    each = length_push sorted new ∙ ap (λ count. count + 1) sofar.each;
    rows = λ t other below at. ⊎_elim
        (λ (is : t.index ≡ n).
        let same : other ≡ table = ap (λ found. unwrap_or found table) (sym at ∙ ap (slice_get declared) is ∙ here) in
        let id : record { index = n } ≡ t = λ i. record { index = sym is i } in
        let P : TableId → Type 0 = λ u. IsInOrderOf other.key (rows_in tables u) (rows_in (sorted ++ new ∷ []) t) in
        let Q : Table → Type 0 = λ u. IsInOrderOf u.key (rows_in tables (record { index = n })) (rows_in (sorted ++ new ∷ []) t) in
        subst P id (subst Q (sym same) (subst (IsInOrderOf table.key (rows_in tables (record { index = n }))) (last t sofar.each is) order)))
        (λ differs. subst (IsInOrderOf other.key (rows_in tables t)) (before t sofar.each (omega (arith, differs))) (sofar.rows t other (omega (arith, differs)) at))
        (cases_eq t.index n);
  }

-- the rows of a table among lists that are made one by one
pub rows_mapped : {X : Type 0} (f : X → List Row) (xs : List X) (t : TableId) (x : X) → t.index < length xs → x ≡ get_or xs t.index x → rows_in (map f xs) t ≡ f x
rows_mapped f xs t x within is = unwrap_or-slice_get (map f xs) t.index [] ∙ get_or-map f xs t.index x [] within ∙ ap f (sym is)

-- after the last table
pub all_sorted : (store : StoreModel) (n : ℕ) (declared : List Table) (tables sorted : Tables) → declared ≡ store.tables → n ≡ length declared
    → AreSortedUpTo n declared tables sorted → AreInKeyOrder store tables sorted
all_sorted store n declared tables sorted is all sofar = record {
  each = sofar.each ∙ all ∙ ap length is;
  rows = λ t table at.
      let here : At declared t.index table = ap (λ list. slice_get list t.index) is ∙ at in
      sofar.rows t table (omega (arith, all, slice_get_within declared t.index table here)) here;
}
