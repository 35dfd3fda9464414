-- Legal tables break no rule.
use Rattle.std.proofs.Common.{⊎_elim, inl, inr, ℕ, List, sym, subst, ◌∙◌}
use Rattle.round_trip.specs.Words.{Place, StoreModel, Tables, Breach, rows_in, row_key, AreLegalTables, HasAllowedNullCells, HasCellsInDomain, InDomain, KeepsForeignKey, Refers, FindsRow, Value}
use Rattle.round_trip.specs.legality.TableBreaches.{BreaksTableRule, IsBreachOfTables}
use Rattle.entity_state.proofs.breach_order.Apart.{apart_none}
use Rattle.entity_state.proofs.breach_order.Turns.{all_here}

module _ (store : StoreModel) (tables : Tables) (legal : AreLegalTables store tables) where
  kept : (rule : ℕ) (spot : List ℕ) (place : Place) → ¬ BreaksTableRule store tables rule spot place
  kept rule spot place (inl (is, (column, at, not))) =
      let rows = legal.rows (record { index = at.t }) at.table at.stands.is_table in
      let may = all_here (HasAllowedNullCells at.table) (rows_in tables (record { index = at.t })) at.i at.row rows.nulls at.stands.is_row
      (record { index = at.j }) column at.is_column (sym at.value_is) in
      absurd cc
  kept rule spot place (inr (inl (is, (value, column, at, told, outside)))) =
      let rows = legal.rows (record { index = at.t }) at.table at.stands.is_table in
      ⊎_elim (λ null. told (at.value_is ∙ null)) (λ inside. outside (subst (λ (v : Value). InDomain v column.kind) (sym at.value_is) inside))
      (all_here (HasCellsInDomain at.table) (rows_in tables (record { index = at.t })) at.i at.row rows.domains at.stands.is_row (record { index = at.j }) column at.is_column)
  kept rule spot place (inr (inr (inl (is, key)))) =
      let rows = legal.rows (record { index = key.t }) key.table key.stands.is_table in
      apart_none (row_key key.table) (rows_in tables (record { index = key.t })) rows.keys key.i
      (record { earlier = key.earlier; before = key.before; item = key.row; other = key.other; here = key.stands.is_row; there = key.other_stands.is_row; like = key.same })
  kept rule spot place (inr (inr (inr (is, lost)))) =
      lost.broken (all_here (λ row. Refers lost.key row → FindsRow tables lost.key row) (rows_in tables lost.key.from) lost.i lost.row
      (all_here (KeepsForeignKey tables) store.keys lost.k lost.key legal.keys lost.is_key) lost.stands.is_row lost.refers)

  pub no_breach : (breach : Breach) → ¬ IsBreachOfTables store tables breach
  no_breach breach first = kept breach.rule first.spot breach.place first.broken
