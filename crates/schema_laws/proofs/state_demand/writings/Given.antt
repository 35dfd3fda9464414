-- What a writing gives a column, as a list.
use Rattle.std.proofs.Common.{◌≡◌, ◌⊎◌, inl, inr, ⊎_elim, List, [], ◌∷◌, filter, flat_map, true, false, ◌==◌, Contains, refl, sym, ap, subst}
use Rattle.std.proofs.lemmas.Bool.Decides.{Decides-eqb}
use Rattle.std.proofs.lemmas.List.Elements.{Contains-append_cases, Contains-append_left, Contains-append_right}
use Rattle.emc_base.proofs.Mapped.{contains_filter, contains_map}
use Rattle.emc_base.proofs.Numbered.{filter_contains, map_contains}
use Rattle.round_trip.specs.Words.{ColId, Value, Null, Cond, CondOn, Test, Writing, Fills}
use Rattle.edm_types.specs.declared.mapping.CondOn.TheVariants as on
use Rattle.edm_types.specs.declared.mapping.Test.TheVariants.{IsNull, Equals}
use Rattle.schema_laws.specs.state_demand.MadeTables.{given_by, given_by_cond, given_cells}
use Rattle.schema_laws.proofs.state_demand.lists.Lists.{contains_flat_map, head_stands, member_cases, member_of_flat_map, none_in_nil}

-- what a condition gives a column
abbrev CondGives : CondOn → Test → ColId → Value → Type 0
CondGives what test col value = (what ≡ on.Col col) × ((test ≡ Equals value) ⊎ ((test ≡ IsNull true) × (value ≡ Null)))

only_cell : (c : ColId) (v : Value) (col : ColId) (value : Value) → Contains {X = ColId × Value} ((c, v) ∷ []) (col, value) → (col ≡ c) × (value ≡ v)
only_cell c v col value has = ⊎_elim
    (λ is. (ap (λ (cell : ColId × Value). cell.0) is, ap (λ (cell : ColId × Value). cell.1) is))
    (λ later. absurd (none_in_nil {X = ColId × Value} (col, value) later))
    (member_cases {X = ColId × Value} (c, v) [] (col, value) has)

cond_gives : (what : CondOn) (test : Test) (col : ColId) (value : Value) → Contains {X = ColId × Value} (given_by_cond what test) (col, value) → CondGives what test col value
cond_gives (on.Col c) (Equals constant) col value has = let is = only_cell c constant col value has in (ap on.Col (sym is.0), inl (ap Equals (sym is.1)))
cond_gives (on.Col c) (IsNull true) col value has = let is = only_cell c Null col value has in (ap on.Col (sym is.0), inr (refl, is.1))
cond_gives (on.Col c) (IsNull false) col value has = absurd (none_in_nil {X = ColId × Value} (col, value) has)
cond_gives (on.Prop prop) (Equals constant) col value has = absurd (none_in_nil {X = ColId × Value} (col, value) has)
cond_gives (on.Prop prop) (IsNull true) col value has = absurd (none_in_nil {X = ColId × Value} (col, value) has)
cond_gives (on.Prop prop) (IsNull false) col value has = absurd (none_in_nil {X = ColId × Value} (col, value) has)

module _ (writing : Writing) (col : ColId) where
  -- the cells that its conditions give
  abbrev asked : List (ColId × Value)
  asked = flat_map (λ cond. given_by_cond cond.on cond.test) writing.conds

  -- what fills a column is given to it
  pub gives_cell : (value : Value) → Fills writing col value → Contains {X = ColId × Value} (given_cells writing) (col, value)
  gives_cell value (inl cell) = Contains-append_left writing.cells asked (col, value) cell
  gives_cell value (inr (inl has)) = Contains-append_right writing.cells asked (col, value)
      (contains_flat_map (λ (cond : Cond). given_by_cond cond.on cond.test) writing.conds (record { on = on.Col col; test = Equals value }) (col, value) has
      (head_stands {X = ColId × Value} (col, value) []))
  gives_cell value (inr (inr (has, null))) =
      let P : Value → Type 0 = λ v. Contains {X = ColId × Value} (given_cells writing) (col, v) in
      subst P (sym null) (Contains-append_right writing.cells asked (col, Null)
      (contains_flat_map (λ (cond : Cond). given_by_cond cond.on cond.test) writing.conds (record { on = on.Col col; test = IsNull true }) (col, Null) has
      (head_stands {X = ColId × Value} (col, Null) [])))

  by_cond : (value : Value) (cond : Cond) → Contains writing.conds cond → CondGives cond.on cond.test col value → Fills writing col value
  by_cond value cond has (is_on, inl equals) =
      let same : cond ≡ record { on = on.Col col; test = Equals value } = λ k. record { on = is_on k; test = equals k } in
      inr (inl (subst (Contains writing.conds) same has))
  by_cond value cond has (is_on, inr (is_null, null)) =
      let same : cond ≡ record { on = on.Col col; test = IsNull true } = λ k. record { on = is_on k; test = is_null k } in
      inr (inr (subst (Contains writing.conds) same has, null))

  -- and what is given to a column fills it
  pub given_cell : (value : Value) → Contains {X = ColId × Value} (given_cells writing) (col, value) → Fills writing col value
  given_cell value has = ⊎_elim
      (λ (cell : Contains {X = ColId × Value} writing.cells (col, value)). inl cell)
      (λ (by : Contains {X = ColId × Value} asked (col, value)).
      let found = member_of_flat_map (λ (cond : Cond). given_by_cond cond.on cond.test) writing.conds (col, value) by in
      by_cond value found.0 found.1 (cond_gives found.0.on found.0.test col value found.2))
      (Contains-append_cases writing.cells asked (col, value) has)

  -- the values given are those that fill the column
  pub gives : (value : Value) → Fills writing col value → Contains (given_by col writing) value
  gives value fills = contains_map (λ (cell : ColId × Value). cell.1) (filter (λ cell. cell.0.index == col.index) (given_cells writing)) (col, value)
      (contains_filter (λ (cell : ColId × Value). cell.0.index == col.index) (given_cells writing) (col, value) (gives_cell value fills) ((Decides-eqb col.index col.index).1 refl))

  pub given : (value : Value) → Contains (given_by col writing) value → Fills writing col value
  given value has =
      let image = map_contains (λ (cell : ColId × Value). cell.1) (filter (λ cell. cell.0.index == col.index) (given_cells writing)) value has in
      let kept = filter_contains (λ (cell : ColId × Value). cell.0.index == col.index) (given_cells writing) image.0 image.1 in
      let number = (Decides-eqb image.0.0.index col.index).0 kept.1 in
      let same : image.0 ≡ (col, value) = λ k. (record { index = number k }, image.2 k) in
      let P : ColId × Value → Type 0 = λ cell. Contains (given_cells writing) cell in
      given_cell value (subst P same kept.0)
