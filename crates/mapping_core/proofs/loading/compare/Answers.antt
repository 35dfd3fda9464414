use Rattle.std.proofs.Common.{Option, subst}
use Rattle.cells.specs.Cells.{is_free_in}
use Rattle.cells.specs.Parts.{schema_in}
use Rattle.region_states.specs.region_basis.BasisOf.{basis_of}
use Rattle.region_states.proofs.region_basis.Bases.{basis_is}
use Rattle.keyed_rows.specs.row_differences.Differences.{IsFirstDifference, TellsDifference}
use Rattle.keyed_rows.specs.declared.row_differences.differences.Difference.{Difference}
use Rattle.keyed_rows.proofs.row_differences.OfState.{null_free_cells, rows_apart}
use Rattle.mapping_core.proofs.Comparing.{has_tables, kept_keys, legal_apart}
use Rattle.mapping_core.proofs.Stored.{clear, few_partners}
use Rattle.mapping_core.proofs.Telling.{cells_decide}
use Rattle.mapping_core.proofs.loading.compare.Goals as goal

pub tables_of-requires-clause-few : goal.tables_of-requires-clause-few
tables_of-requires-clause-few c = few_partners c.args.made.now.parts c.requires.made.parts c.requires.made.accepted

pub tables_of-requires-clause-clear : goal.tables_of-requires-clause-clear
tables_of-requires-clause-clear c = clear (schema_in c.args.made.now.parts) c.requires.made.accepted c.args.state.now c.requires.legal

pub first_difference-requires-clause-keys : goal.first_difference-requires-clause-keys
first_difference-requires-clause-keys c = legal_apart c.args.made.now.parts.store.now c.args.tables.now c.requires.tables

pub first_difference-requires-clause-fresh_keys : goal.first_difference-requires-clause-fresh_keys
first_difference-requires-clause-fresh_keys c = rows_apart (schema_in c.args.made.now.parts) c.args.state.now c.in_ok-fresh.fresh c.in_ok-fresh.ensures.tables

pub first_difference-requires-clause-fresh_nulls : goal.first_difference-requires-clause-fresh_nulls
first_difference-requires-clause-fresh_nulls c =
    let parts = c.args.made.now.parts in
    let decides = cells_decide parts c.requires.made.parts in
    null_free_cells (schema_in parts) c.args.state.now c.in_ok-fresh.fresh c.in_ok-fresh.ensures.tables (is_free_in parts.cells.now) (λ t col. (decides.tells t col).0)

pub returns-in-None : goal.returns-in-None
returns-in-None c =
    let parts = c.args.made.now.parts in
    let tables = c.args.tables.now in
    let fresh = c.in_ok-fresh.fresh in
    let Told : Option Difference → Type 0 = λ told. TellsDifference parts.store.now (is_free_in parts.cells.now) tables fresh told in
    has_tables (schema_in parts) (is_free_in parts.cells.now) (cells_decide parts c.requires.made.parts) tables c.args.state.now fresh c.in_ok-fresh.ensures.tables
    (subst Told c.in-None.is c.in_ok-first_difference.ensures)

pub returns : goal.returns
returns c =
    let parts = c.args.made.now.parts in
    let is_free = is_free_in parts.cells.now in
    let tables = c.args.tables.now in
    let fresh = c.in_ok-fresh.fresh in
    let are = c.in_ok-fresh.ensures.tables in
    let found = c.in-Some.found in
    let Told : Option Difference → Type 0 = λ told. TellsDifference parts.store.now is_free tables fresh told in
    let first : IsFirstDifference parts.store.now is_free tables fresh found = subst Told c.in-Some.is c.in_ok-first_difference.ensures in (
      fresh,
      are,
      first,
      λ same.
          c.same_tables_have_no_difference.ensures parts.store.now is_free tables fresh
          (kept_keys (basis_of parts) (basis_is parts c.requires.made.parts) is_free (cells_decide parts c.requires.made.parts))
          (rows_apart (schema_in parts) c.args.state.now fresh are) same first.t first.key found.held found.demanded first.differ,
    )
