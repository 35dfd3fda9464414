use Rattle.std.proofs.Common.{◌≡◌, List, IfOk, rules, ap, subst, ◌∙◌}
use Rattle.groupings.specs.declared.name_places.places.Places.{Places}
use Rattle.groupings.specs.name_places.GivenNames.{first_place}
use Rattle.groupings.specs.name_places.PlacesIn.{place_in}
use Rattle.round_trip.specs.Words.{Table}
use Rattle.schema_names.specs.Columns.{AreColumnsOf}
use Rattle.schema_names.specs.declared.columns.TableColumns.{TableColumns}
use Rattle.emc_base.proofs.facts.Beside.{first_of, second_of}
use Rattle.schema_names.proofs.tables.table_places.Goals as goal

pub returns-clause-tables : goal.returns-clause-tables
returns-clause-tables c =
    let Tells : Places → Type 0 = λ places. place_in places ≡ first_place (λ table. table.name) c.args.store.now.tables in
    first_of c.in_ok-tables.tables c.columns_of.result c.beside.result Tells c.beside.ensures
    (c.in_ok-tables.ensures (λ table. table.name) (λ table name lent. search rules) ∙ ap (first_place (λ table. table.name)) c.as_slice.ensures.items)

pub returns-clause-columns : goal.returns-clause-columns
returns-clause-columns c =
    let Are : List Table → List TableColumns → Type 0 = AreColumnsOf in
    second_of c.in_ok-tables.tables c.columns_of.result c.beside.result (Are c.args.store.now.tables) c.beside.ensures
    (subst (λ tables. IfOk c.columns_of.result (Are tables)) c.as_slice-2.ensures.items c.columns_of.ensures)
