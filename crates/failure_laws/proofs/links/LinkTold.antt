-- Where a legal state fails at the links of an association, there is a conflict of these.
use Rattle.std.proofs.Common.{◌≡◌, ◌≢◌, ◌⊎◌, inl, inr, ◌&&◌, ℕ, List, [], Contains, IsTrue, refl, sym, ap, subst, ◌∙◌}
use Rattle.round_trip.specs.Words.{AssocId, ColId, TableId, Assoc, DemandsCell, DemandsRow, Fragment, IsLegal, IsShownLinkTuple, IsShownTuple, IsWrittenLinkTuple, IsWrittenTuple, Link, LinkFragment, Null, Place, State, Value, Writing, At, links_in, place_at, written_key}
use Rattle.round_trip.specs.FailsAt.{Clashes, Disagrees, HasColumn, IsInOneOnly, LeavesNull, element_of, key_in_tuple, keys_in_tuple}
use Rattle.round_trip.specs.declared.FailKind.{FailKind}
use Rattle.round_trip.specs.declared.FailKind.TheVariants as kind
use Rattle.schema_laws.specs.state_demand.Owners.{IsJoinedTo}
use Rattle.schema_laws.specs.state_demand.Writings.{link_writing}
use Rattle.schema_laws.proofs.sound_demand.Local.{is_local_to_links}
use Rattle.schema_laws.proofs.sound_demand.tuples.Disagreeing.{tuples_of_links}
use Rattle.regions.specs.declared.pattern.Focus.TheVariants as focus
use Rattle.regions.specs.declared.pattern.Symbol.{Symbol}
use Rattle.regions.specs.Basis.{Basis}
use Rattle.regions.specs.Patterns.{cell_symbols, pattern_of, value_under, writings_of}
use Rattle.regions.specs.Settled.{possible}
use Rattle.regions.specs.region_laws.IsBasis.{IsBasis}
use Rattle.regions.specs.region_laws.pattern.Allowed.{CanBe}
use Rattle.regions.specs.region_laws.pattern.Listed.{HasCell}
use Rattle.regions.proofs.region_laws.pattern.Laws.{symbol_possible}
use Rattle.regions.proofs.region_laws.pattern.symbols.Hosting.{one_link}
use Rattle.region_states.specs.conflicts.Conflicts.{IsLinkConflictAt, IsTableOf}
use Rattle.region_states.specs.conflicts.Facts.{has_row, is_null_in, is_required, listed_in, shows_link_pattern, stands_for_null}
use Rattle.region_states.specs.conflicts.There.{AreTwoLinks, IsAtLinks, NoneFailsBy}
use Rattle.region_states.specs.declared.conflicts.conflict.Conflict.{Conflict}
use Rattle.region_states.specs.declared.conflicts.conflict.Conflict.TheVariants as conflict
use Rattle.region_states.specs.focus.Held.{HasRow}
use Rattle.region_states.proofs.focus.Demanded.{link_rows}
use Rattle.conflict_laws.proofs.clash.Clashing.{Decides-clash}
use Rattle.conflict_laws.proofs.clash.Listed.{cell_is}
use Rattle.conflict_laws.proofs.disagreement.Places.{no_fragment, one_link_fragment}
use Rattle.conflict_laws.proofs.null.Listed.{Decides-row, cell_there}
use Rattle.conflict_laws.proofs.null.Nulls.{null_possible, some_stands}
use Rattle.conflict_laws.proofs.null.Required.{required_told}
use Rattle.failure_laws.proofs.links.LinkFacts.{Decides-many_links}
use Rattle.failure_laws.proofs.links.LinkHides.{Decides-hides, joined_here, joined_table, pattern_hides, to_joined}
use Rattle.failure_laws.proofs.links.LinkRows.{demanded, link_row, link_values, listed_of, told_link, value_is}

-- some conflict of this kind at the links of an association
abbrev pub SomeOfLinks : Basis → AssocId → FailKind → Type 0
SomeOfLinks basis a kind = (found : Conflict) × IsLinkConflictAt basis a kind found

module _ (basis : Basis) (is : IsBasis basis) (state : State) (legal : IsLegal basis.schema.model state) where
  module _ (t : TableId) (fragment : LinkFragment) (assoc : Assoc) (joined : IsJoinedTo basis.schema t fragment assoc) where
    abbrev a : AssocId
    a = fragment.assoc

    abbrev table_of : IsTableOf basis a t
    table_of = record { fragment = fragment; assoc = assoc; joined = joined; of_assoc = refl }

    -- a demanded row is that of a link
    record IsOfLink (key : List Value) : Type 0 where
      link : Link
      stands : Contains (links_in state a) link
      is_key : key ≡ written_key basis.schema.store (link_writing basis.schema.model fragment assoc link)

    of_link : (key : List Value) → DemandsRow basis.schema state t key → IsOfLink key
    of_link key (writing, writes) =
        let found = (is_local_to_links basis.schema is.sound state legal t fragment assoc joined).local key writing writes in
        let key_of : Writing → List Value = written_key basis.schema.store in
        record { link = found.0; stands = found.1; is_key = sym writes.to_key ∙ ap key_of found.2 }

    -- two values of a cell are those of two symbols
    clash_of : (col : ColId) (key : List Value) (v w : Value) → v ≢ w → DemandsCell basis.schema state t key col v → DemandsCell basis.schema state t key col w
        → SomeOfLinks basis a kind.Clash
    clash_of col key v w different first second =
        let of = of_link key (first.0, first.1) in
        let Demands : Value → List Value → Type 0 = λ value it. DemandsCell basis.schema state t it col value in
        let one = listed_of basis is t fragment assoc joined state legal of.link of.stands col v (subst (Demands v) of.is_key first) in
        let two = listed_of basis is t fragment assoc joined state legal of.link of.stands col w (subst (Demands w) of.is_key second) in
        let values = link_values basis is t fragment assoc joined state legal of.link of.stands in (
          conflict.Clash (focus.Link a) t col one.0 two.0,
          record {
            of_kind = refl;
            of_links = (refl, t, table_of);
            holds = (Decides-clash basis (focus.Link a) t col one.0 two.0).1 (record {
              lists_one = one.1;
              lists_two = two.1;
              clash = record {
                different = λ same. different (one.2 ∙ ap (value_under values) same ∙ sym two.2);
                not_alike = λ are. different (one.2 ∙ value_is basis is t fragment assoc joined state legal of.link of.stands col one.0 one.1 are.0 are.1
                    ∙ sym (value_is basis is t fragment assoc joined state legal of.link of.stands col two.0 two.1 are.0 are.2) ∙ sym two.2);
              };
            });
          },
        )

    -- null in a column that isn't nullable: each symbol of the cell can be null
    module _ (place : Place) (leaves : LeavesNull basis.schema state place) (to_table : leaves.t ≡ t) where
      null_of : SomeOfLinks basis a kind.Null
      null_of =
          let key : List Value = leaves.key in
          let Row : TableId → Type 0 = λ u. DemandsRow basis.schema state u key in
          let demands : Row t = subst Row to_table leaves.demands_row in
          let of = of_link key demands in
          let row = link_row basis is t fragment assoc joined state legal of.link of.stands in
          let At : List Value → Type 0 = DemandsRow basis.schema state t in
          let has : HasRow (pattern_of basis (focus.Link a)) t = (link_rows basis is row).0 (subst At of.is_key demands) in
          let has_column = subst (λ u. HasColumn basis.schema u leaves.table leaves.col leaves.column) to_table leaves.has_column in
          let cell : List Symbol = cell_symbols (writings_of basis (focus.Link a)) t leaves.col in
          let here : HasCell (pattern_of basis (focus.Link a)) t leaves.col cell =
          cell_there basis is (focus.Link a) t leaves.col leaves.table leaves.column has_column has in
          let values = link_values basis is t fragment assoc joined state legal of.link of.stands in
          let found = some_stands basis (focus.Link a) cell (λ one listed.
          let demand : DemandsCell basis.schema state t key leaves.col (value_under values one) =
          subst (λ it. DemandsCell basis.schema state t it leaves.col (value_under values one)) (sym of.is_key)
          (demanded basis is t fragment assoc joined state legal of.link of.stands leaves.col one (cell, here, listed)) in
          let null : value_under values one ≡ Null = leaves.no_value (value_under values one)
          (subst (λ u. DemandsCell basis.schema state u key leaves.col (value_under values one)) (sym to_table) demand) in
          null_possible (possible basis.schema.model [] one) (subst (λ (value : Value). CanBe (possible basis.schema.model [] one) value) null
          (symbol_possible basis is (told_link basis is t fragment assoc joined state legal of.link of.stands) t leaves.col one (cell, here, listed)))) in
          let Stands : List Symbol → Type 0 = λ list. IsTrue (stands_for_null basis (focus.Link a) list found.0) in
          let stands : Stands (listed_in (pattern_of basis (focus.Link a)) t leaves.col) =
          subst Stands (sym (cell_is basis (focus.Link a) t leaves.col cell here)) found.1 in
          let is_there : IsTrue (has_row (pattern_of basis (focus.Link a)) t) = (Decides-row (pattern_of basis (focus.Link a)) t).1 has in
          let needed : IsTrue (is_required basis.schema.store t leaves.col) =
          required_told basis.schema t leaves.col leaves.table leaves.column has_column leaves.not_nullable in
          let fact : IsTrue (is_null_in basis (focus.Link a) t leaves.col found.0) = λ k. is_there k && needed k && stands k in
          (conflict.NullIn (focus.Link a) t leaves.col found.0, record { of_kind = refl {a = kind.Null}; of_links = (refl, t, table_of); holds = fact })

  module _ (a : AssocId) where
    -- at a row of the association's own table
    pub clash_told : (place : Place) (clash : Clashes basis.schema state place) → IsTableOf basis a clash.t → SomeOfLinks basis a kind.Clash
    clash_told place clash of = subst (λ b. SomeOfLinks basis b kind.Clash) of.of_assoc
        (clash_of clash.t of.fragment of.assoc of.joined clash.col clash.key clash.one clash.two clash.different clash.demands_one clash.demands_two)

    -- by two links of one entity
    pub many_told : (t : TableId) (key : List Value) (col : ColId) (one two : Value) → AreTwoLinks basis a state t key col one two → SomeOfLinks basis a kind.Clash
    many_told t key col one two are = (
      conflict.ManyLinks a,
      record {
        of_kind = refl;
        of_links = refl;
        holds = (Decides-many_links basis a is).1 (record { s = are.s; at = are.at; of_assoc = are.of_assoc; many = are.many });
      },
    )

    pub null_told : (place : Place) (leaves : LeavesNull basis.schema state place) → IsTableOf basis a leaves.t → SomeOfLinks basis a kind.Null
    null_told place leaves of = subst (λ b. SomeOfLinks basis b kind.Null) of.of_assoc
        (null_of leaves.t of.fragment of.assoc of.joined place leaves refl)

    -- at the fragment of the association
    module _ (none : NoneFailsBy basis.schema kind.Clash) (place : Place) (fails : Disagrees basis.schema state place) (at : IsAtLinks basis a place) where
      one_name : (name : List ℕ) (keys : List Value) → place ≡ place_at name keys [] → name ≡ at.fragment.place
      one_name name keys is_place = sym (ap (λ (it : Place). it.name) is_place) ∙ ap (λ (it : Place). it.name) at.place_is

      -- a link's row that isn't shown
      of_fragment : IsInOneOnly (IsWrittenLinkTuple basis.schema state at.fragment) (IsShownLinkTuple fails.tables at.fragment) fails.tuple → SomeOfLinks basis a kind.Disagrees
      of_fragment only =
          let own = at.of_table in
          let same : own.fragment ≡ at.fragment = one_link basis is own.fragment at.fragment own.joined.is_fragment at.mapped (own.of_assoc ∙ sym at.of_assoc) in
          let joined : IsJoinedTo basis.schema at.fragment.table at.fragment own.assoc = joined_here basis at.t at.fragment own.assoc
          (subst (λ (one : LinkFragment). IsJoinedTo basis.schema at.t one own.assoc) same own.joined) in
          let keys : List Value = keys_in_tuple basis.schema.model own.assoc at.fragment fails.tuple in
          let found = ((tuples_of_links basis.schema is.sound state fails.tables (record { legal = legal; are = fails.defined }) own.assoc at.fragment
          (joined_table basis is at.fragment own.assoc joined none state legal).0 (to_joined basis is at.fragment own.assoc joined none state legal)).tuples keys).0
          (fails.tuple, only, refl {a = keys}) in
          let hides : ¬ IsTrue (shows_link_pattern basis (focus.Link at.fragment.assoc) at.fragment) =
          pattern_hides basis is at.fragment own.assoc joined none state legal fails.tables fails.defined found.0 found.1 found.2 in
          let Hides : AssocId → Type 0 = λ b. ¬ IsTrue (shows_link_pattern basis (focus.Link b) at.fragment) in (
            conflict.Disagree (focus.Link a) at.fragment.place,
            record {
              of_kind = refl;
              of_links = (refl, at.t, at.of_table);
              holds = (Decides-hides basis a at.fragment.place).1 (at.fragment, at.mapped, (refl, (at.of_assoc, subst Hides at.of_assoc hides)));
            },
          )

      pub disagreement_told : SomeOfLinks basis a kind.Disagrees
      disagreement_told = by fails.broken
        where
          by : ((fragment : Fragment) × Contains basis.schema.mapping.fragments fragment
              × IsInOneOnly (IsWrittenTuple basis.schema state fragment) (IsShownTuple fails.tables fragment) fails.tuple
              × (place ≡ place_at fragment.place (key_in_tuple basis.schema.model (element_of basis.schema.model fragment.set) fragment.pairs fails.tuple) []))
              ⊎ ((fragment : LinkFragment) × (assoc : Assoc) × Contains basis.schema.mapping.links fragment × At basis.schema.model.assocs fragment.assoc.index assoc
              × IsInOneOnly (IsWrittenLinkTuple basis.schema state fragment) (IsShownLinkTuple fails.tables fragment) fails.tuple
              × (place ≡ place_at fragment.place (keys_in_tuple basis.schema.model assoc fragment fails.tuple) []))
              → SomeOfLinks basis a kind.Disagrees
          by (inl (fragment, mapped, only, is_place)) =
              absurd (no_fragment basis.schema is.sound fragment at.fragment mapped at.mapped (one_name fragment.place _ is_place))
          by (inr (fragment, assoc, mapped, here, only, is_place)) =
              let same : fragment ≡ at.fragment = one_link_fragment basis.schema is.sound fragment at.fragment mapped at.mapped (one_name fragment.place _ is_place) in
              of_fragment (subst (λ (one : LinkFragment). IsInOneOnly (IsWrittenLinkTuple basis.schema state one) (IsShownLinkTuple fails.tables one) fails.tuple) same only)
