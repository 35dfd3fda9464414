use Rattle.std.proofs.Common.{ℕ, MatchOption, codes, ap, sym, ◌∙◌}
use Rattle.layouts.specs.declared.fault.Fault.{Fault}
use Rattle.layouts.proofs.rule_places.LeastFound.{at_none, first_only, none_of}
use Rattle.layouts.proofs.rule_places.Rules.{least_joined, least_where_some}
use Rattle.layouts.specs.rule_places.Names.{NamesNothing}
use Rattle.schema_names.specs.SchemaNames.{table_named}
use Rattle.msl_rules.specs.NameRules.{LacksColumns}
use Rattle.msl_rules.proofs.Named.{names_nothing}
use Rattle.msl_meaning.proofs.msl_names.unresolved.InMappingFinderRawFragmentFault.find.Goals as goal

pub returns-in_default : goal.returns-in_default
returns-in_default c =
    let store = c.args.self.now.names.now.store.now in
    let fragment = c.args.item.now in
    let table = table_named store fragment.table in
    let named = c.table_named-named.ensures ∙ ap (table_named store) c.as_str.ensures.text in
    let Table : Fault → Type 0 = NamesNothing table (codes "StoreEntitySet") in
    let Columns : ℕ → Fault → Type 0 = λ t. LacksColumns store t fragment.pairs fragment.conds in
    first_only Table (λ fault. MatchOption table ⊥ (λ t. Columns t fault)) c.in_ok-of_table.of_table
    (at_none table Columns (sym named ∙ none_of c.table_named-named.result c.in_default.not-Some))
    (names_nothing c.table_named-named.result table (codes "StoreEntitySet") c.in_ok-of_table.of_table named c.in_ok-of_table.ensures)

pub returns : goal.returns
returns c =
    let store = c.args.self.now.names.now.store.now in
    let fragment = c.args.item.now in
    let table = table_named store fragment.table in
    let named = c.table_named-named.ensures ∙ ap (table_named store) c.as_str.ensures.text in
    let Table : Fault → Type 0 = NamesNothing table (codes "StoreEntitySet") in
    let Columns : ℕ → Fault → Type 0 = λ t. LacksColumns store t fragment.pairs fragment.conds in
    least_joined Table (λ fault. MatchOption table ⊥ (λ t. Columns t fault)) c.in_ok-of_table.of_table c.in_ok-columns.columns c.earlier.result c.earlier.ensures
    (names_nothing c.table_named-named.result table (codes "StoreEntitySet") c.in_ok-of_table.of_table named c.in_ok-of_table.ensures)
    (least_where_some Columns table c.in-Some.table c.in_ok-columns.columns (sym named ∙ c.in-Some.is) c.in_ok-columns.ensures)
