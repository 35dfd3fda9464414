use Rattle.std.proofs.Common.{◌↔◌, ◌⊎◌, ℕ, List, ◌∷◌, [], MatchOption, IsTrue, not, codes, ap, subst, refl, ◌∙◌}
use Rattle.json_form.specs.declared.pointer.Step.TheVariants.{Member}
use Rattle.groupings.specs.least_fault.Least.{IsLeast}
use Rattle.layouts.specs.Faults.{fault_cmp}
use Rattle.layouts.specs.declared.fault.Fault.{Fault}
use Rattle.layouts.specs.declared.rule.Rule.TheVariants.{Resolves}
use Rattle.layouts.specs.rule_places.Places.{IsAt}
use Rattle.layouts.proofs.rule_places.Rules.{least_searched, least_searches, searched}
use Rattle.layouts.specs.rule_places.Names.{NamesNothing}
use Rattle.schema_names.specs.SchemaNames.{association_set_named, table_named, NamesAssociation}
use Rattle.msl_meaning.specs.msl_names.LinkNames.{IsUnresolvedInEnds, LacksLinkColumns}
use Rattle.msl_rules.proofs.Named.{denies, least_named, names_nothing}
use Rattle.msl_meaning.proofs.msl_names.unresolved.InMappingFinderRawLinkMappingFault.find.Goals as goal

pub returns : goal.returns
returns c =
    let model = c.args.self.now.names.now.model.now in
    let store = c.args.self.now.names.now.store.now in
    let link = c.args.item.now in
    let set = association_set_named model link.name in
    let table = table_named store link.table in
    let set_is = c.association_set_named-set.ensures ∙ ap (association_set_named model) c.as_str.ensures.text in
    let table_is = c.table_named-table.ensures ∙ ap (table_named store) c.as_str-2.ensures.text in
    let names = c.names_association-is_lacking.result in
    let tells : IsTrue names ↔ NamesAssociation model link.association
    = subst (λ (text : List ℕ). IsTrue names ↔ NamesAssociation model text) c.as_str-3.ensures.text c.names_association-is_lacking.ensures in
    let Set : Fault → Type 0 = NamesNothing set (codes "Name") in
    let Association : Fault → Type 0 = λ fault. (¬ NamesAssociation model link.association) × IsAt Resolves (Member (codes "TypeName") ∷ []) fault in
    let Table : Fault → Type 0 = NamesNothing table (codes "StoreEntitySet") in
    let AtSet : ℕ → Fault → Type 0 = IsUnresolvedInEnds model store link.ends in
    let AtTable : ℕ → Fault → Type 0 = LacksLinkColumns model store link in
    let Ends : Fault → Type 0 = λ fault. MatchOption set ⊥ (λ a. AtSet a fault) in
    let Columns : Fault → Type 0 = λ fault. MatchOption table ⊥ (λ t. AtTable t fault) in
    least_searches Set (λ fault. Association fault ⊎ Table fault ⊎ Ends fault ⊎ Columns fault) c.first_of_none-of_set.result c.earlier_of-2.result c.earlier_of-3.result c.earlier_of-3.ensures
    (searched (IsLeast fault_cmp Set) c.first_of_none-of_set.result c.first_of_none-of_set.ensures
    (λ found least. names_nothing c.association_set_named-set.result set (codes "Name") found set_is least))
    (least_searches Association (λ fault. Table fault ⊎ Ends fault ⊎ Columns fault) c.fault_if-of_association.result c.earlier_of-inside.result c.earlier_of-2.result c.earlier_of-2.ensures
    (least_searched (IsAt Resolves (Member (codes "TypeName") ∷ [])) c.fault_if-of_association.result (denies (not names) names tells refl) c.fault_if-of_association.ensures)
    (least_searches Table (λ fault. Ends fault ⊎ Columns fault) c.first_of_none-of_table.result c.earlier_of.result c.earlier_of-inside.result c.earlier_of-inside.ensures
    (searched (IsLeast fault_cmp Table) c.first_of_none-of_table.result c.first_of_none-of_table.ensures
    (λ found least. names_nothing c.table_named-table.result table (codes "StoreEntitySet") found table_is least))
    (least_searches Ends Columns c.first_in_ends-in_ends.result c.first_in_columns-in_columns.result c.earlier_of.result c.earlier_of.ensures
    (searched (IsLeast fault_cmp Ends) c.first_in_ends-in_ends.result c.first_in_ends-in_ends.ensures
    (λ found least. least_named AtSet c.association_set_named-set.result set found set_is least))
    (searched (IsLeast fault_cmp Columns) c.first_in_columns-in_columns.result c.first_in_columns-in_columns.ensures
    (λ found least. least_named AtTable c.table_named-table.result table found table_is least)))))
