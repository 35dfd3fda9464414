use Rattle.std.proofs.Common.{List, ◌++◌, ◌∷◌, [], refl, sym, subst, take, ◌+◌}
use Rattle.std.proofs.lemmas.List.{take_all}
use Rattle.std.proofs.lemmas.Option.{slice_get_read}
use Rattle.emc_base.proofs.Loops.{take_item}
use Rattle.emc_base.proofs.facts.Zipped.{zip_push}
use Rattle.round_trip.specs.Words.{Column, Table}
use Rattle.schema_names.specs.declared.columns.TableColumns.{TableColumns}
use Rattle.schema_names.specs.Columns.{IsOfColumns}
use Rattle.schema_names.proofs.NearPlaces.{HaveColumns, columns_known}
use Rattle.schema_names.proofs.columns.columns_of.Goals as goal

pub loop-table-preserved : goal.loop-table-preserved
loop-table-preserved c =
    let here = slice_get_read _ _ c.loop-table.table-index _ refl c.loop-table-test.true c.table-item.is in
    let Of : Table → TableColumns → Type 0 = λ table known. IsOfColumns table.cols known in
    let known = c.in_ok-table_columns.field-0 in
    let P : List Column → Type 0 = λ cols. IsOfColumns cols known in
    let one = subst P c.as_slice.ensures.items c.in_ok-table_columns.ensures in
    let more = zip_push Of (take c.loop-table.table-index c.args.tables.now) c.loop-table.columns c.table-item.result known c.loop-table.invariant one in
    let Q : List Table → Type 0 = λ tables. HaveColumns tables (c.loop-table.columns ++ known ∷ []) in
    let R : List TableColumns → Type 0 = λ columns. HaveColumns (take (c.loop-table.table-index + 1) c.args.tables.now) columns in
    subst R (sym c.in_ok-push.ensures.ok) (subst Q (sym (take_item c.args.tables.now c.loop-table.table-index c.table-item.result here)) more)

pub returns : goal.returns
returns c =
    let P : List Table → Type 0 = λ tables. HaveColumns tables c.loop-table.columns in
    columns_known c.args.tables.now c.loop-table.columns (subst P (take_all c.loop-table.table-index c.args.tables.now c.loop-table-test.false) c.loop-table.invariant)
