use Rattle.std.proofs.Common.{◌≡◌, ◌≤◌, ℕ, List, Option, length, refl, sym, ap, subst, arith}
use Rattle.std.proofs.lemmas.Option.{slice_get_read}
use Rattle.round_trip.specs.Words.{Table, At}
use Rattle.member_groups.specs.joined_groups.Places.{ArePlacesUpTo}
use Rattle.member_groups.proofs.joined_groups.Placed.{all_placed}
use Rattle.member_groups.proofs.joined_groups.Placing.{props_placed, table_placed}
use Rattle.member_groups.proofs.joined_groups.places.Places.of.Goals as goal

pub loop-table-init : goal.loop-table-init
loop-table-init c =
    let P : List (List (Option ℕ)) → Type 0 = λ tables. ArePlacesUpTo c.args.model.now c.args.store.now 0 (record { props = c.in_ok-props.props; tables = tables; count = c.len.result }) in
    subst P (sym c.empty.ensures) (props_placed c.args.model.now c.args.store.now c.in_ok-props.props c.len.result c.in_ok-props.ensures c.len.ensures.count)

pub loop-table-preserved : goal.loop-table-preserved
loop-table-preserved c =
    let n = c.loop-table.table-index in
    let P : List Table → Type 0 = λ tables. At tables n c.table-item.result in
    table_placed c.args.model.now c.args.store.now n c.table-item.result c.loop-table.places c.add_table.new.self c.loop-table.invariant
    (subst P c.as_slice-table-items.ensures.items (slice_get_read _ _ n _ refl c.loop-table-test.true c.table-item.is))
    c.in_ok-add_table.ensures

pub returns : goal.returns
returns c = λ mapping.
    let P : ℕ → Type 0 = λ n. ArePlacesUpTo c.args.model.now c.args.store.now n c.loop-table.places in
    let end : length c.as_slice-table-items.result.now ≤ c.loop-table.table-index = c.loop-table-test.false in
    let inside : c.loop-table.table-index ≤ length c.as_slice-table-items.result.now = c.loop-table.auto.table-index-end in
    let count : length c.as_slice-table-items.result.now ≡ length c.args.store.now.tables = ap length c.as_slice-table-items.ensures.items in
    let all : c.loop-table.table-index ≡ length c.args.store.now.tables = omega (arith, end, inside, count) in
    all_placed c.args.model.now c.args.store.now mapping c.loop-table.places (subst P all c.loop-table.invariant)
