-- Rows that are put in the tables that they name.
use Rattle.std.proofs.Common.{◌≡◌, ◌≢◌, ◌<◌, ◌∙◌, ◌==◌, ℕ, List, [], ◌∷◌, ◌++◌, Bool, true, false, if◌then◌else◌, zero, suc, filter, map, length, append-nil, unwrap_or, slice_get, get_or, ⊎_elim, ap, refl, sym}
use Rattle.std.proofs.lemmas.Bool.Decides.{eqb_tells}
use Rattle.std.proofs.lemmas.List.{get_or-set_other, get_or-set_same, length-set, map-append}
use Rattle.std.proofs.lemmas.List.Elements.{filter-append}
use Rattle.std.proofs.lemmas.Option.{unwrap_or-slice_get}
use Rattle.round_trip.specs.Words.{Row, StoreModel, Table, TableId, Tables, rows_in}
use Rattle.table_files.specs.Lists.{with_row}
use Rattle.table_files.specs.declared.tables.TableRow.{TableRow}
use Rattle.delta_plan.specs.RowsOf.{named}

-- what is named in a list with one more
named_more : (t : TableId) (rows : List TableRow) (one : TableRow) → named t (rows ++ one ∷ []) ≡ named t rows ++ named t (one ∷ [])
named_more t rows one =
    ap (map (λ (it : TableRow). it.row)) (filter-append (λ (it : TableRow). it.table.index == t.index) rows (one ∷ []))
    ∙ map-append (λ (it : TableRow). it.row) (filter (λ (it : TableRow). it.table.index == t.index) rows) (filter (λ (it : TableRow). it.table.index == t.index) (one ∷ []))

-- the rows of a table, as they are looked up
looked_up : (tables : Tables) (t : TableId) → rows_in tables t ≡ get_or tables t.index []
looked_up tables t = unwrap_or-slice_get tables t.index []

module _ (tables : Tables) (one : TableRow) (within : one.table.index < length tables) where
  abbrev after : Tables
  after = with_row tables one.table one.row

  pub size_more : length after ≡ length tables
  size_more = length-set tables one.table.index (rows_in tables one.table ++ one.row ∷ [])

  -- the row stands in its table
  pub rows_more : (t : TableId) (rows : List TableRow) → rows_in tables t ≡ named t rows → rows_in after t ≡ named t (rows ++ one ∷ [])
  rows_more t rows is = ⊎_elim
      (λ (same : ((one.table.index == t.index) ≡ true) × (one.table.index ≡ t.index)). (
      let here : t ≡ one.table = λ i. record { index = sym same.1 i } in
      looked_up after t ∙ ap (λ n. get_or after n []) (sym same.1) ∙ get_or-set_same tables one.table.index (rows_in tables one.table ++ one.row ∷ []) [] within
      ∙ ap (λ (u : TableId). rows_in tables u ++ one.row ∷ []) (sym here) ∙ ap (λ list. list ++ one.row ∷ []) is
      ∙ ap (λ list. named t rows ++ list) (sym (alone true same.0)) ∙ sym (named_more t rows one)))
      (λ (other : ((one.table.index == t.index) ≡ false) × (one.table.index ≢ t.index)).
      looked_up after t ∙ get_or-set_other tables one.table.index t.index (rows_in tables one.table ++ one.row ∷ []) [] (λ same. other.1 (sym same))
      ∙ sym (looked_up tables t) ∙ is ∙ sym (append-nil (named t rows)) ∙ ap (λ list. named t rows ++ list) (sym (alone false other.0)) ∙ sym (named_more t rows one))
      (eqb_tells one.table.index t.index)
    where
      alone : (b : Bool) → (one.table.index == t.index) ≡ b → named t (one ∷ []) ≡ (if b then one.row ∷ [] else [])
      alone true is = ap (λ (b : Bool). map (λ (it : TableRow). it.row) (if b then one ∷ [] else [])) is
      alone false is = ap (λ (b : Bool). map (λ (it : TableRow). it.row) (if b then one ∷ [] else [])) is

abbrev pub no_row : List Row
no_row = []

-- no row is named at first
pub none_named : (store : StoreModel) (t : TableId) → rows_in (map (λ _. []) store.tables) t ≡ named t []
none_named store t = by store.tables t.index
  where
    by : (tables : List Table) (n : ℕ) → unwrap_or (slice_get (map (λ (_ : Table). no_row) tables) n) no_row ≡ no_row
    by [] zero = refl
    by [] (suc n) = refl
    by (table ∷ tables) zero = refl
    by (table ∷ tables) (suc n) = by tables n
