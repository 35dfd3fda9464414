-- Whether a state clashes is decided over the list of its writings.
use Rattle.std.proofs.Common.{◌≡◌, List, flat_map, Bool, true, false, true≢false, not, ◌&&◌, ◌||◌, ◌==◌, Decides, All, Contains, refl, sym, ap, subst}
use Rattle.std.specs.List.{list_all}
use Rattle.std.proofs.lemmas.Bool.Decides.{Decides-and, Decides-eqb, Decides-like}
use Rattle.std.proofs.lemmas.List.Elements.{All-contains}
use Rattle.emc_base.proofs.Lists.{all_from_members}
use Rattle.emc_base.proofs.Mapped.{contains_map}
use Rattle.emc_base.proofs.Numbered.{map_contains}
use Rattle.round_trip.specs.Words.{TableId, ColId, Value, Schema, State, Writing, written_key, DemandsCell, HasNoClash}
use Rattle.schema_laws.specs.state_demand.Selecting.{same_key, same_value}
use Rattle.schema_laws.specs.state_demand.Writings.{AreWritings}
use Rattle.schema_laws.specs.state_demand.MadeTables.{CellDemand, demands_of, do_agree, given_cells, have_no_clash}
use Rattle.schema_laws.proofs.state_demand.writings.Given.{given_cell, gives_cell}
use Rattle.schema_laws.proofs.state_demand.lists.Lists.{Decides-all, contains_flat_map, member_of_flat_map}
use Rattle.schema_laws.proofs.state_demand.writings.Selecting.{Decides-key, Decides-value}

Decides-implies : {P Q : Type 0} (x y : Bool) → Decides x P → Decides y Q → Decides (not x || y) (P → Q)
Decides-implies true y first second = (λ told holds. second.0 told, λ follows. second.1 (follows (first.0 refl)))
Decides-implies false y first second = (λ told holds. absurd (true≢false (sym (first.1 holds))), λ follows. refl)

-- two demands are of one cell
abbrev OfOneCell : CellDemand → CellDemand → Type 0
OfOneCell one two = (one.table ≡ two.table) × ((one.key ≡ two.key) × (one.col ≡ two.col))

-- and agree
abbrev Agree : CellDemand → CellDemand → Type 0
Agree one two = OfOneCell one two → one.value ≡ two.value

Decides-agree : (one two : CellDemand) → Decides (do_agree one two) (Agree one two)
Decides-agree one two =
    let tables = one.table.index == two.table.index in
    let keys = same_key one.key two.key in
    let cols = one.col.index == two.col.index in
    Decides-implies (tables && (keys && cols)) (same_value one.value two.value)
    (Decides-and tables (keys && cols)
    (Decides-like tables (λ same k. record { index = same k }) (λ same. ap (λ (t : TableId). t.index) same) (Decides-eqb one.table.index two.table.index))
    (Decides-and keys cols (Decides-key one.key two.key)
    (Decides-like cols (λ same k. record { index = same k }) (λ same. ap (λ (c : ColId). c.index) same) (Decides-eqb one.col.index two.col.index))))
    (Decides-value one.value two.value)

module _ (schema : Schema) (state : State) (writings : List Writing) (are : AreWritings schema state writings) where
  abbrev demands : List CellDemand
  demands = flat_map (demands_of schema.store) writings

  abbrev demand_of : Writing → ColId × Value → CellDemand
  demand_of writing cell = record { table = writing.table; key = written_key schema.store writing; col = cell.0; value = cell.1 }

  listed : (t : TableId) (key : List Value) (col : ColId) (value : Value) → DemandsCell schema state t key col value
      → Contains demands (record { table = t; key = key; col = col; value = value })
  listed t key col value (writing, to_row, fills) =
      let same : demand_of writing
      (col, value) ≡ record { table = t; key = key; col = col; value = value } = λ k. record { table = to_row.to_table k; key = to_row.to_key k; col = col; value = value } in
      subst (Contains demands) same
      (contains_flat_map (demands_of schema.store) writings writing (demand_of writing (col, value)) ((are.tells writing).0 to_row.writes)
      (contains_map (demand_of writing) (given_cells writing) (col, value) (gives_cell writing col value fills)))

  demanded : (demand : CellDemand) → Contains demands demand → DemandsCell schema state demand.table demand.key demand.col demand.value
  demanded demand has =
      let found = member_of_flat_map (demands_of schema.store) writings demand has in
      let writing : Writing = found.0 in
      let image = map_contains (demand_of writing) (given_cells writing) demand found.2 in
      let P : CellDemand → Type 0 = λ d. DemandsCell schema state d.table d.key d.col d.value in
      subst P image.2 (writing, record { writes = (are.tells writing).1 found.1; to_table = refl; to_key = refl }, given_cell writing image.0.0 image.0.1 image.1)

  abbrev AllAgree : Type 0
  AllAgree = All (λ one. All (Agree one) demands) demands

  no_clash_from : AllAgree → HasNoClash schema state
  no_clash_from all t key col one two first second =
      let first_demand : CellDemand = record { table = t; key = key; col = col; value = one } in
      let second_demand : CellDemand = record { table = t; key = key; col = col; value = two } in
      let Agrees : CellDemand → Type 0 = λ d. All (Agree d) demands in
      All-contains (Agree first_demand) demands second_demand (All-contains Agrees demands first_demand all (listed t key col one first)) (listed t key col two second)
      (refl, (refl, refl))

  agree_from : HasNoClash schema state → AllAgree
  agree_from no_clash = all_from_members (λ one. All (Agree one) demands) demands (λ one has_one. all_from_members (Agree one) demands (λ two has_two same.
      let P : CellDemand → Type 0 = λ d. DemandsCell schema state d.table d.key d.col one.value in
      let moved : ◌≡◌ {A = CellDemand} (record { table = one.table; key = one.key; col = one.col; value = one.value })
      (record { table = two.table; key = two.key; col = two.col; value = one.value }) =
      λ k. record { table = same.0 k; key = same.1.0 k; col = same.1.1 k; value = one.value } in
      no_clash two.table two.key two.col one.value two.value (subst P moved (demanded one has_one)) (demanded two has_two)))

  pub Decides-no_clash : Decides (have_no_clash schema.store writings) (HasNoClash schema state)
  Decides-no_clash = Decides-like (have_no_clash schema.store writings) no_clash_from agree_from
      (Decides-all (λ one. list_all (do_agree one) demands) (λ one. All (Agree one) demands) (λ one. Decides-all (do_agree one) (Agree one) (Decides-agree one) demands) demands)
