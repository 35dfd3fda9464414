-- What is accepted and legal isn't refused, and what documents hold is one.
use Rattle.std.proofs.Common.{◌≡◌, ℕ, List, Some, sym, ap, subst, inl, inr, ◌∙◌}
use Rattle.std.specs.Prelude.{unwrap_or}
use Rattle.std.proofs.lemmas.Option.{none-some, same_Some}
use Rattle.serde_json.specs.Data.{Data}
use Rattle.json_form.specs.TreeParts.{tree_at}
use Rattle.data_documents.specs.entity_documents.DocShapes.{IsDocFault}
use Rattle.data_documents.specs.entity_documents.States.{state_in}
use Rattle.data_documents.specs.change_documents.Changes.{changes_in}
use Rattle.data_documents.specs.change_documents.Shapes as changes
use Rattle.data_documents.specs.table_documents.Shapes as tables
use Rattle.data_documents.specs.table_documents.Tables.{tables_in}
use Rattle.round_trip.specs.Words.{AreLegalTables, Breach, EntityModel, IsBreachOf, IsLegal, RoundTrips, RuleFault, Schema, State, StoreModel, Tables}
use Rattle.round_trip.specs.legality.TableBreaches.{IsBreachOfTables}
use Rattle.table_files.proofs.table_legality.Kept.{no_breach as unbroken}
use Rattle.state_legality.proofs.Joined.{no_first_breach}
use Rattle.mapping_core.specs.mapping_verdict.Words.{Failure, IsFailureOf}
use Rattle.mapping_core.specs.Rules.{IsToldRule, Means}
use Rattle.entity_changes.specs.declared.change.Change.{Change}
use Rattle.mapping_core.specs.states.Documents.{HoldsChanges, HoldsNoChanges, HoldsNoState, HoldsNoTables, HoldsState, HoldsTables}

-- documents mean one schema
pub one_meaning : (csdl ssdl msl : List ℕ) (one two : Schema) → Means csdl ssdl msl one → Means csdl ssdl msl two → one ≡ two
one_meaning csdl ssdl msl one two first second = first.meaning ∙ sym second.meaning

-- no rule is told of documents that break none
pub no_rule : (csdl ssdl msl : List ℕ) (schema : Schema) → Means csdl ssdl msl schema → (fault : RuleFault) → ¬ IsToldRule csdl ssdl msl fault
no_rule csdl ssdl msl schema means fault told = means.unbroken fault.file told.fault told.broken

-- nor a failing state of a schema that has none
pub no_failure : (schema : Schema) → RoundTrips schema → (failure : Failure) → ¬ IsFailureOf schema failure
no_failure schema round_trips failure is = round_trips failure.kind failure.place failure.state (unwrap_or failure.other failure.state) is.fails

-- trees of one file are one
same_tree : (bytes : List ℕ) (one two : Data) → tree_at bytes ≡ Some one → tree_at bytes ≡ Some two → one ≡ two
same_tree bytes one two first second = same_Some one two (sym first ∙ second)

module _ (model : EntityModel) (bytes : List ℕ) (state : State) (holds : HoldsState model bytes state) where
  -- an entity document holds one state
  pub one_state : (other : State) → HoldsState model bytes other → state ≡ other
  one_state other also = holds.2.meant.is ∙ ap (state_in model) (same_tree bytes holds.0 also.0 holds.1 also.1) ∙ sym also.2.meant.is

  -- and has the right shape
  pub has_state : (pointer : List ℕ) → ¬ HoldsNoState model bytes pointer
  has_state pointer (inl none) = none-some holds.0 (sym none.0 ∙ holds.1)
  has_state pointer (inr (d, held, fails)) =
      holds.2.shape fails.place (subst (λ (tree : Data). IsDocFault model tree fails.place) (same_tree bytes d holds.0 held holds.1) fails.first.0)

module _ (store : StoreModel) (bytes : List ℕ) (held_tables : Tables) (holds : HoldsTables store bytes held_tables) where
  -- a table document holds one list of tables
  pub one_tables : (other : Tables) → HoldsTables store bytes other → held_tables ≡ other
  one_tables other also = holds.2.tables_are ∙ ap (tables_in store) (same_tree bytes holds.0 also.0 holds.1 also.1) ∙ sym also.2.tables_are

  -- and has the right shape
  pub has_tables : (pointer : List ℕ) → ¬ HoldsNoTables store bytes pointer
  has_tables pointer (inl none) = none-some holds.0 (sym none.0 ∙ holds.1)
  has_tables pointer (inr (d, held, fails)) =
      holds.2.shape fails.place (subst (λ (tree : Data). tables.IsDocFault store tree fails.place) (same_tree bytes d holds.0 held holds.1) fails.first.0)

module _ (model : EntityModel) (bytes : List ℕ) (held_changes : List Change) (holds : HoldsChanges model bytes held_changes) where
  -- a change document holds one list of changes
  pub one_list : (other : List Change) → HoldsChanges model bytes other → held_changes ≡ other
  one_list other also = holds.2.meant.is ∙ ap (changes_in model) (same_tree bytes holds.0 also.0 holds.1 also.1) ∙ sym also.2.meant.is

  -- and has the right shape
  pub has_list : (pointer : List ℕ) → ¬ HoldsNoChanges model bytes pointer
  has_list pointer (inl none) = none-some holds.0 (sym none.0 ∙ holds.1)
  has_list pointer (inr (d, held, fails)) =
      holds.2.shape fails.place (subst (λ (tree : Data). changes.IsDocFault model tree fails.place) (same_tree bytes d holds.0 held holds.1) fails.first.0)

-- no breach is told of a legal state
pub no_breach : (model : EntityModel) (state : State) → IsLegal model state → (breach : Breach) → ¬ IsBreachOf model state breach
no_breach model state legal breach = no_first_breach model state breach legal

-- nor of legal tables
pub no_table_breach : (store : StoreModel) (tables : Tables) → AreLegalTables store tables → (breach : Breach) → ¬ IsBreachOfTables store tables breach
no_table_breach store tables legal = unbroken store tables legal
