-- When a row refers by a foreign key, column by column.
use Rattle.std.proofs.Common.{◌≡◌, ◌≢◌, ℕ, ◌≤◌, List, length, get_or, All, map, sym, subst}
use Rattle.std.proofs.lemmas.List.Elements.{All-map, All-contains}
use Rattle.std.proofs.lemmas.Option.{slice_get-get_or}
use Rattle.emc_base.specs.Lists.{At}
use Rattle.emc_base.proofs.Mapped.{contains_at, contains_map}
use Rattle.round_trip.specs.Words.{ColId, ForeignKey, Null, Row, Value, Refers, cell_of}
use Rattle.entity_state.proofs.breach_order.Turns.{EachTo, each_all}

module _ (key : ForeignKey) (row : Row) (cols : List ColId) (are : cols ≡ key.from_cols) where
  abbrev Told : Value → Type 0
  Told value = value ≢ Null

  pub refers_all : (n : ℕ) → length cols ≤ n → EachTo (λ _ col. cell_of row col ≢ Null) cols n → Refers key row
  refers_all n end passed =
      let P : List ColId → Type 0 = λ list. All Told (map (cell_of row) list) in
      let each : All (λ col. Told (cell_of row col)) cols =
      (λ j d within. each_all (λ _ col. Told (cell_of row col)) cols n end passed j (get_or cols j d) (slice_get-get_or cols j d within)) in
      subst P are (All-map Told (cell_of row) cols each)

  pub refers_not : (n : ℕ) (col : ColId) → At cols n col → cell_of row col ≡ Null → ¬ Refers key row
  refers_not n col here null refers =
      let P : List ColId → Type 0 = λ list. All Told (map (cell_of row) list) in
      let all : All Told (map (cell_of row) cols) = subst P (sym are) refers in
      All-contains Told (map (cell_of row) cols) (cell_of row col) all (contains_map (cell_of row) cols col (contains_at cols n col here)) null
