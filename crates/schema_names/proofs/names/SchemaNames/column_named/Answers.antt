use Rattle.std.proofs.Common.{ℕ, List, Option, ap, ◌∙◌}
use Rattle.std.specs.Option.{option_and_then}
use Rattle.groupings.specs.name_places.GivenNames.{first_place}
use Rattle.groupings.specs.name_places.PlacesIn.{place_in}
use Rattle.schema_names.specs.declared.columns.TableColumns.{TableColumns}
use Rattle.schema_names.proofs.LookUps.{look_up}
use Rattle.schema_names.proofs.names.SchemaNames.column_named.Goals as goal

pub returns : goal.returns
returns c =
    let self = c.args.self.now in
    c.place_of.ensures
    ∙ ap (option_and_then (λ (known : TableColumns). place_in known.places c.args.name.now)) c.in_ok-get.ensures.item
    ∙ look_up (λ (known : TableColumns). place_in known.places) (λ table. first_place (λ col. col.name) table.cols) (λ (known : List ℕ → Option ℕ). known c.args.name.now) self.tables.columns self.store.now.tables c.args.table self.tabled.columns.places
