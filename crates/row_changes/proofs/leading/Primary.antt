-- Legal tables have one row at most at a key.
use Rattle.std.proofs.Common.{◌≡◌, ◌≢◌, ◌⊎◌, ⊎_elim, inl, inr, ◌<◌, ◌≤◌, List, length, AllPairs, Contains, Bool, true, false, Decides, refl, sym, subst, ◌∙◌, arith}
use Rattle.std.proofs.lemmas.Bool.{cases_lt}
use Rattle.emc_base.proofs.Lists.{item_at}
use Rattle.emc_base.proofs.Members.{contains_nil}
use Rattle.edm_types.proofs.Lookups.{rows_beyond}
use Rattle.round_trip.specs.Words.{AreLegalTables, ColId, Row, StoreModel, TableId, Tables, Value, cells_of, rows_in}
use Rattle.round_trip.proofs.Lookups.{key_columns_at}
use Rattle.schema_laws.proofs.state_demand.lists.Lists.{same_by_key}
use Rattle.row_changes.specs.Changes.{HasRow, key_in}

-- no two rows of a table have one key
abbrev pub AreApartBy : StoreModel → Tables → TableId → Type 0
AreApartBy store tables t = AllPairs (λ row other. key_in store t row ≢ key_in store t other) (rows_in tables t)

-- so it is in legal tables
pub legal_apart : (store : StoreModel) (tables : Tables) → AreLegalTables store tables → (t : TableId) → AreApartBy store tables t
legal_apart store tables legal t = ⊎_elim
    (λ (within : t.index < length store.tables).
    let found = item_at store.tables t.index within in
    let Apart : List ColId → Type 0 = λ cols. AllPairs (λ row other. cells_of row cols ≢ cells_of other cols) (rows_in tables t) in
    subst Apart (sym (key_columns_at store t found.0 found.1)) (legal.rows t found.0 found.1).keys)
    (λ (past : length store.tables ≤ t.index).
    let Apart : List Row → Type 0 = AllPairs (λ row other. key_in store t row ≢ key_in store t other) in
    subst Apart (sym (rows_beyond tables t (omega (arith, past, legal.shape.each)))) (λ i j d below within. absurd (omega arith)))
    (cases_lt t.index (length store.tables))

-- and rows at one key are one
pub one_row : (store : StoreModel) (tables : Tables) (t : TableId) → AreApartBy store tables t → (key : List Value) (row other : Row) → HasRow store tables t key row → HasRow store tables t key other → row ≡ other
one_row store tables t apart key row other one two = same_by_key (key_in store t) (rows_in tables t) row other apart one.0 two.0 (one.1 ∙ sym two.1)

-- a table that has a row is there
pub row_within : (tables : Tables) (t : TableId) (row : Row) → Contains (rows_in tables t) row → t.index < length tables
row_within tables t row has = ⊎_elim
    (λ (within : t.index < length tables). within)
    (λ (past : length tables ≤ t.index). absurd (contains_nil row (subst (λ (rows : List Row). Contains rows row) (rows_beyond tables t past) has)))
    (cases_lt t.index (length tables))

-- what is decided is so or isn't
pub either : {P : Type 0} (answer : Bool) → Decides answer P → P ⊎ ¬ P
either true decides = inl (decides.0 refl)
either false decides = inr (λ is. let never : false ≡ true = decides.1 is in cc)
