use Rattle.std.proofs.Common.{◌+◌, List, refl, sym, subst}
use Rattle.std.proofs.lemmas.Option.{slice_get_read}
use Rattle.round_trip.specs.Words.{GroupId, Table, At}
use Rattle.member_groups.specs.group_numbers.Numbers.{AreTables, Grows}
use Rattle.member_groups.proofs.group_numbers.Labels.{tables_more}
use Rattle.member_groups.proofs.group_numbers.numbers.table_numbers.Goals as goal

pub loop-place-preserved : goal.loop-place-preserved
loop-place-preserved c =
    let n = c.loop-place.place in
    let groups = c.args.groups.now in
    let tables = c.args.store.now.tables in
    let first = c.args.labels.now.keys in
    let after = c.column_numbers.new.labels.keys in
    let Numbered : List (List GroupId) → Type 0 = λ numbers. Grows first after × AreTables groups after tables (n + 1) numbers in
    let Here : List Table → Type 0 = λ items. At items n c.table-item.result in
    let here = subst Here c.as_slice-table-items.ensures.items (slice_get_read _ _ n _ refl c.loop-place-test.true c.table-item.is) in
    subst Numbered (sym c.in_ok-push.ensures.ok)
    (tables_more groups tables n c.loop-place.tables first c.loop-place.labels.keys after c.in_ok-column_numbers.field-0 c.loop-place.invariant
    c.in_ok-column_numbers.ensures.grown
    (c.table-item.result, here, c.in_ok-column_numbers.ensures.numbered))
