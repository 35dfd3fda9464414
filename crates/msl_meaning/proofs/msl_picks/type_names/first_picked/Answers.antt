use Rattle.std.proofs.Common.{ℕ, codes, ap, sym, ◌∙◌}
use Rattle.emc_base.specs.Lists.{At}
use Rattle.layouts.specs.declared.fault.Fault.{Fault}
use Rattle.layouts.specs.rule_places.Places.{InList}
use Rattle.layouts.proofs.rule_places.Rules.{least_where_some}
use Rattle.round_trip.specs.Words.{EntitySet}
use Rattle.schema_names.specs.SchemaNames.{set_named}
use Rattle.msl_rules.specs.NameRules.{IsPickedFault}
use Rattle.msl_rules.proofs.Named.{least_at}
use Rattle.msl_meaning.proofs.msl_picks.type_names.first_picked.Goals as goal

pub returns : goal.returns
returns c =
    let model = c.args.names.now.model.now in
    let mapping = c.args.mapping.now in
    let named = c.set_named.ensures ∙ ap (set_named model) c.as_str.ensures.text in
    let Types : EntitySet → Fault → Type 0 = λ entry. InList (codes "EntityTypeMapping") (IsPickedFault model entry) mapping.types in
    let AtPlace : ℕ → Fault → Type 0 = λ s fault. (entry : EntitySet) × At model.sets s entry × Types entry fault in
    least_where_some AtPlace (set_named model mapping.name) c.in-Some.place c.in_ok-found.found (sym named ∙ c.in-Some.is)
    (least_at Types model.sets c.in-Some.place c.in-Some-get.set.now c.in_ok-found.found (sym c.in-Some-get.ensures.item) c.in_ok-found.ensures)
