-- A state that holds the link of an association with a table of its own fails where the pattern of the link says so.
use Rattle.std.proofs.Common.{◌≡◌, ◌++◌, ℕ, List, [], Contains, IsTrue, sym, ap, subst, ◌∙◌}
use Rattle.round_trip.specs.Words.{AssocId, ColId, Column, Assoc, FailsAt, LinkFragment, Place, State, Table, TableId, links_in, place_at, written_key}
use Rattle.round_trip.specs.FailsAt.{Disagrees, HasColumn}
use Rattle.round_trip.specs.declared.FailKind.TheVariants as kind
use Rattle.schema_laws.specs.state_demand.Owners.{IsJoinedTo}
use Rattle.schema_laws.specs.state_demand.Writings.{link_writing}
use Rattle.regions.specs.declared.pattern.Focus.TheVariants as focus
use Rattle.regions.specs.declared.pattern.Symbol.{Symbol}
use Rattle.regions.specs.Basis.{Basis}
use Rattle.regions.specs.region_laws.IsBasis.{IsBasis}
use Rattle.regions.proofs.region_laws.pattern.symbols.Hosting.{one_link}
use Rattle.region_states.specs.conflicts.Facts.{disagrees_at, is_clash, is_null_in, shows_link_pattern}
use Rattle.region_states.specs.conflicts.There.{NoneFailsBy}
use Rattle.population.specs.LinkStates.{HoldsLink, plain_link}
use Rattle.conflict_laws.proofs.clash.Clashing.{Decides-clash}
use Rattle.failure_laws.specs.Places.{IsLinkCell}
use Rattle.failure_laws.proofs.links.LinkHides.{Decides-hides, SomeHides, joined_here, link_disagrees}
use Rattle.failure_laws.proofs.links.LinkRows.{row_clashes, row_leaves}

module _ (basis : Basis) (is : IsBasis basis) where
  module _ (t : TableId) (fragment : LinkFragment) (assoc : Assoc) (joined : IsJoinedTo basis.schema t fragment assoc) (state : State)
      (holds : HoldsLink basis.schema.model 0 fragment.assoc assoc state) where
    module _ (col : ColId) (table : Table) (column : Column) (has_column : HasColumn basis.schema t table col column) where
      abbrev pub cell_place : Place
      cell_place =
          place_at table.name (written_key basis.schema.store (link_writing basis.schema.model fragment assoc (plain_link basis.schema.model 0 assoc))) column.name

      -- two symbols of a cell that can differ
      pub fails_by_clash : (one two : Symbol) → IsTrue (is_clash basis (focus.Link fragment.assoc) t col one two) → (d : State) → FailsAt basis.schema kind.Clash cell_place state d
      fails_by_clash one two fact d = record {
        legal = holds.legal;
        fails = row_clashes basis is t fragment assoc joined state holds.legal (plain_link basis.schema.model 0 assoc) holds.linked col table column has_column one two
            ((Decides-clash basis (focus.Link fragment.assoc) t col one two).0 fact);
      }

      -- a symbol that stands for null, where the column isn't nullable
      pub fails_by_null : NoneFailsBy basis.schema kind.Clash → (one : Symbol) → IsTrue (is_null_in basis (focus.Link fragment.assoc) t col one) → (d : State)
          → FailsAt basis.schema kind.Null cell_place state d
      fails_by_null none one fact d = record {
        legal = holds.legal;
        fails = row_leaves basis is t fragment assoc joined state holds.legal (plain_link basis.schema.model 0 assoc) holds.linked col table column has_column none one fact;
      }

  module _ (a : AssocId) where
    module _ (t : TableId) (col : ColId) (place : Place) (at : IsLinkCell basis a t col place) (state : State) (holds : HoldsLink basis.schema.model 0 a at.assoc state) where
      holds_it : HoldsLink basis.schema.model 0 at.fragment.assoc at.assoc state
      holds_it = subst (λ b. HoldsLink basis.schema.model 0 b at.assoc state) (sym at.of_assoc) holds

      -- where the pattern of the link lists two symbols that can differ in a cell, the state clashes at the cell of the link's row
      pub link_clash_fails : (one two : Symbol) → IsTrue (is_clash basis (focus.Link a) t col one two) → (d : State) → FailsAt basis.schema kind.Clash place state d
      link_clash_fails one two fact d =
          let Fact : AssocId → Type 0 = λ b. IsTrue (is_clash basis (focus.Link b) t col one two) in
          let At : Place → Type 0 = λ it. FailsAt basis.schema kind.Clash it state d in
          subst At (sym at.is) (fails_by_clash t at.fragment at.assoc at.joined state holds_it col at.table at.column at.has_column one two
          (subst Fact (sym at.of_assoc) fact) d)

      -- where nothing clashes, and a symbol stands for null there, the state leaves null in it
      pub link_null_fails : NoneFailsBy basis.schema kind.Clash → (one : Symbol) → IsTrue (is_null_in basis (focus.Link a) t col one) → (d : State)
          → FailsAt basis.schema kind.Null place state d
      link_null_fails none one fact d =
          let Fact : AssocId → Type 0 = λ b. IsTrue (is_null_in basis (focus.Link b) t col one) in
          let At : Place → Type 0 = λ it. FailsAt basis.schema kind.Null it state d in
          subst At (sym at.is) (fails_by_null t at.fragment at.assoc at.joined state holds_it col at.table at.column at.has_column none one
          (subst Fact (sym at.of_assoc) fact) d)

    -- where nothing clashes, and the fragment at this place hides the pattern's row, it and the state disagree at the keys of the link
    pub link_disagreement_fails : NoneFailsBy basis.schema kind.Clash → (t : TableId) (fragment : LinkFragment) (assoc : Assoc) → IsJoinedTo basis.schema t fragment assoc
        → fragment.assoc ≡ a → (state : State) → HoldsLink basis.schema.model 0 a assoc state → (name : List ℕ) → IsTrue (disagrees_at basis (focus.Link a) name) → (d : State)
        → FailsAt basis.schema kind.Disagrees (place_at name ((plain_link basis.schema.model 0 assoc).first ++ (plain_link basis.schema.model 0 assoc).second) []) state d
    link_disagreement_fails none t fragment assoc joined of_assoc state holds name fact d =
        let found : SomeHides basis a name = (Decides-hides basis a name).0 fact in
        let other : LinkFragment = found.0 in
        let same : other ≡ fragment = one_link basis is other fragment found.1 joined.is_fragment (found.2.1.0 ∙ sym of_assoc) in
        let Hides : AssocId → LinkFragment → Type 0 = λ b one. ¬ IsTrue (shows_link_pattern basis (focus.Link b) one) in
        let hides : Hides fragment.assoc fragment = subst (λ b. Hides b fragment) (sym of_assoc) (subst (Hides a) same found.2.1.1) in
        let linked : Contains (links_in state fragment.assoc) (plain_link basis.schema.model 0 assoc) =
        subst (λ b. Contains (links_in state b) (plain_link basis.schema.model 0 assoc)) (sym of_assoc) holds.linked in
        let At : List ℕ → Type 0 = λ it. Disagrees basis.schema state
        (place_at it ((plain_link basis.schema.model 0 assoc).first ++ (plain_link basis.schema.model 0 assoc).second) []) in
        record {
          legal = holds.legal;
          fails = subst At (sym (ap (λ (one : LinkFragment). one.place) same) ∙ found.2.0)
              (link_disagrees basis is fragment assoc (joined_here basis t fragment assoc joined) none state holds.legal (plain_link basis.schema.model 0 assoc) linked hides);
        }
