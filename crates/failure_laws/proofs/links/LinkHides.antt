-- The fragment of a joined association and the rows of its links: it hides them all where it hides the pattern's row, and none else.
use Rattle.std.proofs.Common.{◌≡◌, ◌↔◌, ◌==◌, ◌&&◌, ◌++◌, ℕ, List, [], Contains, Decides, not, IsTrue, sym, subst}
use Rattle.std.specs.Str.{bytes_eq}
use Rattle.std.proofs.lemmas.Bool.Decides.{Decides-and, Decides-not}
use Rattle.std.proofs.lemmas.Slice.Eq.{bytes_eq-Decides}
use Rattle.emc_base.proofs.Lists.{item_at, only_stands}
use Rattle.round_trip.specs.Words.{IsLegal, Assoc, AssocId, Link, LinkFragment, Row, ShowsLink, State, Table, TableId, Tables, TablesAre, At, links_in, place_at, rows_in}
use Rattle.round_trip.specs.FailsAt.{Disagrees}
use Rattle.round_trip.specs.declared.FailKind.TheVariants as kind
use Rattle.schema_laws.specs.state_demand.Owners.{IsJoinedTo}
use Rattle.schema_laws.specs.sound_demand.Disagreeing.{HidesLink}
use Rattle.schema_laws.specs.sound_demand.Fragments.{IsJoinedFragment, IsStoredIn}
use Rattle.schema_laws.specs.sound_demand.Made.{tables_for}
use Rattle.schema_laws.specs.sound_demand.ReadBack.{IsRowOfLink}
use Rattle.schema_laws.proofs.sound_demand.Fitting.{link_ids}
use Rattle.schema_laws.proofs.sound_demand.Kept.{tables_there}
use Rattle.schema_laws.proofs.sound_demand.ReadBack.{rows_of_links}
use Rattle.schema_laws.proofs.sound_demand.tuples.Disagreeing.{tuples_of_links}
use Rattle.schema_laws.proofs.state_demand.lists.Ids.{Decides-assoc}
use Rattle.regions.specs.declared.pattern.Focus.TheVariants as focus
use Rattle.regions.specs.Basis.{Basis}
use Rattle.regions.specs.Patterns.{pattern_of}
use Rattle.regions.specs.Shown.{shows_link_row}
use Rattle.regions.specs.region_laws.IsBasis.{IsBasis}
use Rattle.region_states.specs.conflicts.Facts.{disagrees_at, hides_link, shows_link_pattern}
use Rattle.region_states.specs.conflicts.There.{NoneFailsBy}
use Rattle.region_states.proofs.focus.Agreeing.{joined_agrees}
use Rattle.region_states.proofs.joined_laws.OneRow.{joined_row}
use Rattle.conflict_laws.proofs.disagreement.Deciding.{Decides-some}
use Rattle.conflict_laws.proofs.disagreement.PatternRows.{shown_by}
use Rattle.conflict_laws.proofs.same.states.Legal.{unclashed}
use Rattle.failure_laws.proofs.links.LinkRows.{row_clear}

module _ (basis : Basis) (a : AssocId) (place : List ℕ) where
  -- the association's fragment at this place doesn't show the pattern's row
  abbrev pub SomeHides : Type 0
  SomeHides = (fragment : LinkFragment) × Contains basis.schema.mapping.links fragment
      × ((fragment.place ≡ place) × ((fragment.assoc ≡ a) × ¬ IsTrue (shows_link_pattern basis (focus.Link a) fragment)))

  -- and that is what a disagreement tells
  pub Decides-hides : Decides (disagrees_at basis (focus.Link a) place) SomeHides
  Decides-hides = Decides-some (λ (fragment : LinkFragment). bytes_eq fragment.place place && hides_link basis a fragment)
      (λ (fragment : LinkFragment). (fragment.place ≡ place) × ((fragment.assoc ≡ a) × ¬ IsTrue (shows_link_pattern basis (focus.Link a) fragment)))
      (λ fragment. Decides-and (bytes_eq fragment.place place) (hides_link basis a fragment) (bytes_eq-Decides fragment.place place)
      (Decides-and (fragment.assoc.index == a.index) (not (shows_link_pattern basis (focus.Link a) fragment)) (Decides-assoc fragment.assoc a)
      (Decides-not (shows_link_pattern basis (focus.Link a) fragment) ((λ so. so), λ so. so))))
      basis.schema.mapping.links

-- the fragment's own table is the one to which it is joined
pub joined_here : (basis : Basis) (t : TableId) (fragment : LinkFragment) (assoc : Assoc) → IsJoinedTo basis.schema t fragment assoc → IsJoinedTo basis.schema fragment.table fragment assoc
joined_here basis t fragment assoc joined = subst (λ u. IsJoinedTo basis.schema u fragment assoc) (sym joined.to_table) joined

module _ (basis : Basis) (is : IsBasis basis) (fragment : LinkFragment) (assoc : Assoc) (joined : IsJoinedTo basis.schema fragment.table fragment assoc)
    (none : NoneFailsBy basis.schema kind.Clash) (state : State) (legal : IsLegal basis.schema.model state) where
  -- the fragment, with its table
  pub joined_table : (table : Table) × At basis.schema.store.tables fragment.table.index table
  joined_table = item_at basis.schema.store.tables fragment.table.index (link_ids basis.schema is.sound fragment joined.is_fragment).table

  abbrev pub to_joined : IsJoinedFragment basis.schema assoc fragment joined_table.0
  to_joined = record { to = record { mapped = joined.is_fragment; is_table = joined_table.1; is_assoc = joined.is_assoc }; joined = joined }

  module _ (tables : Tables) (are : TablesAre basis.schema state tables) where
    abbrev stored : IsStoredIn basis.schema state tables
    stored = record { legal = legal; are = are }

    module _ (link : Link) (has : Contains (links_in state fragment.assoc) link) (row : Row) (among : Contains (rows_in tables fragment.table) row)
        (of_link : IsRowOfLink basis.schema fragment assoc joined_table.0 link row) where
      -- the link's row is shown just where the pattern's is
      pub shown_alike : IsTrue (shows_link_pattern basis (focus.Link fragment.assoc) fragment) ↔ ShowsLink fragment row
      shown_alike =
          let pattern = joined_row basis is fragment.table fragment assoc joined in
          let is_row : Contains (pattern_of basis (focus.Link fragment.assoc)).rows pattern.0 = only_stands (pattern_of basis (focus.Link fragment.assoc)).rows pattern.0 pattern.1 in
          let by = shown_by basis (focus.Link fragment.assoc) fragment.table (shows_link_row basis.schema.model [] fragment) pattern.0 is_row pattern.2 in
          let agrees = joined_agrees basis is
          (record {
            state = state;
            tables = tables;
            stored = stored;
            assoc = assoc;
            fragment = fragment;
            table = joined_table.0;
            to = to_joined;
            link = link;
            stands = has;
            row = row;
            among = among;
            of_link = of_link;
          }) pattern.0 (row_clear basis is fragment.table fragment assoc joined state legal link has none pattern.0 is_row) pattern.2 in
          ((λ told. agrees.0 (by.0 told)), λ shows. by.1 (agrees.1 shows))

  -- where the fragment doesn't show the pattern's row, the state and it disagree at each link
  pub link_disagrees : (link : Link) → Contains (links_in state fragment.assoc) link → ¬ IsTrue (shows_link_pattern basis (focus.Link fragment.assoc) fragment)
      → Disagrees basis.schema state (place_at fragment.place (link.first ++ link.second) [])
  link_disagrees link has hides =
      let tables : Tables = tables_for basis.schema state in
      let are : TablesAre basis.schema state tables = tables_there basis.schema is.sound state (unclashed basis.schema is.sound none state legal) in
      let row = (rows_of_links basis.schema is.sound state legal tables are fragment.table joined_table.0 joined_table.1 fragment assoc joined).rows link has in
      (tuples_of_links basis.schema is.sound state tables (record { legal = legal; are = are }) assoc fragment joined_table.0 to_joined).fails row.0 link
      (record {
        has_row = row.1;
        has_link = has;
        of_link = row.2;
        hidden = λ shows. hides ((shown_alike tables are link has row.0 row.1 row.2).1 shows);
      })

  -- and where some link's row isn't shown, neither is the pattern's
  pub pattern_hides : (tables : Tables) (are : TablesAre basis.schema state tables) (row : Row) (link : Link)
      → HidesLink basis.schema state tables assoc fragment joined_table.0 row link → ¬ IsTrue (shows_link_pattern basis (focus.Link fragment.assoc) fragment)
  pattern_hides tables are row link by told = by.hidden ((shown_alike tables are link by.has_link row by.has_row by.of_link).0 told)
