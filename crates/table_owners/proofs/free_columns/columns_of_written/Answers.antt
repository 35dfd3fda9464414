use Rattle.std.proofs.Common.{◌≡◌, ◌+◌, ◌≤◌, ℕ, ◌<◌, List, length, replicate, Bool, refl, sym, ap, subst, ◌∙◌, arith}
use Rattle.std.specs.Global.{Vec}
use Rattle.std.specs.Option.{is_some}
use Rattle.std.proofs.lemmas.Option.{slice_get_read, slice_get_within}
use Rattle.emc_base.specs.Lists.{At}
use Rattle.round_trip.specs.Words.{Table}
use Rattle.round_trip.specs.Between.{schema_of}
use Rattle.table_owners.specs.Clearing.{IsStart, IsStartOf}
use Rattle.table_owners.specs.Made.{Made}
use Rattle.table_owners.proofs.columns.Begun.{begun}
use Rattle.table_owners.proofs.lists.Items.{one_made}
use Rattle.table_owners.proofs.free_columns.columns_of_written.Goals as goal

pub loop-place-preserved : goal.loop-place-preserved
loop-place-preserved c = λ model.
    let schema = schema_of model c.args.store.now c.args.mapping.now in
    let tables = c.args.store.now.tables in
    let n = c.loop-place.place in
    let table = c.table-item.result in
    let sources = c.in_ok-sources.sources.items in
    let columns = c.in_ok-columns_as.field-0 in
    let P : List Table → Type 0 = λ items. At items n table in
    let here : At tables n table = subst P c.as_slice-table-items.ensures.items (slice_get_read _ _ n _ refl c.loop-place-test.true c.table-item.is) in
    let inside : n < length tables = slice_get_within tables n table here in
    let size : length sources ≡ length tables = c.in_ok-sources.ensures.size in
    let source : At sources n c.index.result.now = slice_get_read sources (length sources) n c.index.result.now refl (omega (arith, inside, size)) c.index.ensures in
    let IsMade : ℕ → Table → Vec Bool → Type 0 = λ t some made. IsStartOf schema (record { index = t }) some made.items in
    let Q : List (Vec Bool) → Type 0 = λ free. Made IsMade tables (n + 1) free in
    let is : columns.items ≡ replicate (length table.cols) (is_some c.index.result.now) = c.in_ok-columns_as.ensures ∙ ap (replicate (length table.cols)) c.is_some.ensures in
    subst Q (sym c.in_ok-push.ensures.items)
    (one_made IsMade tables n c.loop-place.free.items table columns here
    (begun schema sources (c.in_ok-sources.ensures.sources model) (record { index = n }) table c.index.result.now source columns.items is) (c.loop-place.invariant model))

pub returns : goal.returns
returns c = λ model.
    let schema = schema_of model c.args.store.now c.args.mapping.now in
    let P : ℕ → Type 0 = λ n. IsStart schema n c.loop-place.free.items in
    let tables = c.args.store.now.tables in
    let end : length c.as_slice-table-items.result.now ≤ c.loop-place.place = c.loop-place-test.false in
    let inside : c.loop-place.place ≤ length c.as_slice-table-items.result.now = c.loop-place.auto.place-end in
    let count : length c.as_slice-table-items.result.now ≡ length tables = ap length c.as_slice-table-items.ensures.items in
    let all : c.loop-place.place ≡ length tables = omega (arith, end, inside, count) in
    subst P all (c.loop-place.invariant model)
