use Rattle.std.proofs.Common.{◌≡◌, List, [], IfOk, map, subst}
use Rattle.emc_base.proofs.Numbered.{all_pairs_map}
use Rattle.groupings.specs.least_fault.Least.{IsLeast}
use Rattle.round_trip.specs.Words.{ColId, Row, Value, place_at, row_key}
use Rattle.entity_state.specs.breach_order.Founds.{found_cmp}
use Rattle.entity_state.specs.breach_order.Repeats.{IsFoundRepeat}
use Rattle.entity_state.proofs.breach_order.FirstFound.{no_repeat_found}
use Rattle.table_files.specs.InOrder.{AreToldApartBy}
use Rattle.std.specs.Prelude.{None}
use Rattle.table_files.proofs.table_legality.keys.TableKeysFinderTableFound.find.Goals as goal

pub returns-then-branch : goal.returns-then-branch
returns-then-branch c =
    let table = c.args.table.now in
    let rows = c.rows_at-rows.result.now in
    let P : List ColId → Type 0 = λ cols. AreToldApartBy cols rows in
    let apart : AreToldApartBy table.key rows = subst P c.as_slice.ensures.items (c.in_ok-are_told_apart.ensures.0 c.if-branch.true) in
    let Q : List Row → Type 0 = λ list. IsLeast found_cmp (IsFoundRepeat 3 c.args.t (λ (key : List Value). place_at table.name key []) (map (row_key table) list)) None in
    subst Q c.rows_at-rows.ensures (no_repeat_found 3 c.args.t (λ (key : List Value). place_at table.name key []) (map (row_key table) rows)
    (all_pairs_map (λ (one : List Value) (other : List Value). ¬ (one ≡ other)) (row_key table) rows apart))

pub returns : goal.returns
returns c =
    let table = c.args.table.now in
    let Least : List Row → Type 0 = λ rows. IfOk c.first_again.result (IsLeast found_cmp (IsFoundRepeat 3 c.args.t (λ (key : List Value). place_at table.name key []) (map (row_key table) rows))) in
    subst Least c.rows_at-rows.ensures c.first_again.ensures
