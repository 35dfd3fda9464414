use Rattle.std.proofs.Common.{Option, subst}
use Rattle.round_trip.specs.Words.{AreLegalTables, Breach, IsFree, Tables}
use Rattle.round_trip.specs.legality.TableBreaches.{IsBreachOfTables}
use Rattle.cells.specs.Parts.{schema_in}
use Rattle.table_files.specs.table_legality.Tells.{TellsTables}
use Rattle.mapping_core.proofs.OwnTables.{legal_tables}
use Rattle.mapping_core.proofs.Stored.{clear, few_partners}
use Rattle.mapping_core.proofs.saved.InKeyOrder.{kept_of_state, keyed}
use Rattle.mapping_core.proofs.saved.KeptRows.{only_references}
use Rattle.mapping_core.proofs.saving.kept_tables.kept_tables.Goals as goal

pub tables_of-requires-clause-few : goal.tables_of-requires-clause-few
tables_of-requires-clause-few c = few_partners c.args.made.now.parts c.requires.made.parts c.requires.made.accepted

pub tables_of-requires-clause-clear : goal.tables_of-requires-clause-clear
tables_of-requires-clause-clear c = clear (schema_in c.args.made.now.parts) c.requires.made.accepted c.args.state.now c.requires.legal

pub kept-requires : goal.kept-requires
kept-requires c = keyed c.args.made.now.parts c.requires.made.parts c.args.tables.now c.args.state.now c.in_ok-fresh.fresh c.in_ok-fresh.ensures.tables c.requires.tables

-- a row refers to none
pub returns-in-Some : goal.returns-in-Some
returns-in-Some c =
    let parts = c.args.made.now.parts in
    let schema = schema_in parts in
    let tables = c.args.tables.now in
    let state = c.args.state.now in
    let kept = c.in_ok-kept.kept in
    let are = kept_of_state parts c.requires.made.parts tables state c.in_ok-fresh.fresh c.in_ok-fresh.ensures.tables kept c.in_ok-kept.ensures in
    let Told : Option Breach → Type 0 = TellsTables schema.store c.as_slice.result.now in
    let Broken : Tables → Type 0 = λ rows. IsBreachOfTables schema.store rows c.in-Some.breach in
    let legal_fresh = legal_tables schema state are.are.tables are.are.are c.requires.made.accepted c.requires.legal in (
      kept,
      are,
      only_references schema.store (IsFree schema) tables are.are.tables kept c.requires.tables legal_fresh are.are.keeps are.in_order c.in-Some.breach
          (subst Broken c.as_slice.ensures (subst Told c.in-Some.is c.in_ok-breach.ensures)),
    )

pub returns : goal.returns
returns c =
    let parts = c.args.made.now.parts in
    let kept = c.in_ok-kept.kept in
    let Told : Option Breach → Type 0 = TellsTables parts.store.now c.as_slice.result.now in (
      kept_of_state parts c.requires.made.parts c.args.tables.now c.args.state.now c.in_ok-fresh.fresh c.in_ok-fresh.ensures.tables kept c.in_ok-kept.ensures,
      subst (AreLegalTables parts.store.now) c.as_slice.ensures (subst Told c.in-None.is c.in_ok-breach.ensures),
    )
