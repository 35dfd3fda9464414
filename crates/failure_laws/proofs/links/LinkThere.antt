-- Where there is a conflict of an association's links, some legal state fails there.
use Rattle.std.proofs.Common.{◌≡◌, inl, ℕ, ◌++◌, List, [], Contains, Bool, true, false, not, IsTrue, refl, sym, ap, subst, ◌∙◌, arith}
use Rattle.emc_base.proofs.Lists.{at_once}
use Rattle.round_trip.specs.Words.{AssocId, ColId, SetId, TableId, Assoc, Column, End, Link, LinkFragment, Pair, Place, State, Table, place_at}
use Rattle.round_trip.specs.FailsAt.{HasColumn, IsUnmapped}
use Rattle.round_trip.specs.declared.FailKind.TheVariants as kind
use Rattle.edm_types.specs.declared.model.Mult.TheVariants.{Many}
use Rattle.schema_laws.specs.state_demand.Owners.{IsJoinedTo, IsOwned, paired_key}
use Rattle.schema_laws.proofs.sound_demand.Fitting.{sound_link}
use Rattle.cells.specs.Limits.{IsWithinLimits}
use Rattle.regions.specs.declared.pattern.Focus.TheVariants as focus
use Rattle.regions.specs.declared.pattern.Symbol.{Symbol}
use Rattle.regions.specs.Basis.{Basis, Host, HostedAssoc, partner_end}
use Rattle.regions.specs.Patterns.{pattern_of, writings_of}
use Rattle.regions.specs.region_laws.IsBasis.{IsBasis, IsHostOf}
use Rattle.regions.proofs.region_laws.entities.Hosting.{independent}
use Rattle.regions.proofs.region_laws.pattern.Cells.{cell_of as made_cell}
use Rattle.regions.proofs.region_laws.pattern.symbols.Hosting.{one_link}
use Rattle.region_states.specs.conflicts.Conflicts.{IsLinkOf, IsTableOf}
use Rattle.region_states.specs.conflicts.Facts.{disagrees_at, has_row, is_clash, is_many_links, is_null_in, is_required, is_unmapped, shows_link_pattern}
use Rattle.region_states.specs.conflicts.There.{LinksFailThere, NoneFailsBy}
use Rattle.region_states.specs.focus.Held.{HasRow}
use Rattle.region_states.proofs.focus.Listed.{row_joined}
use Rattle.std.proofs.lemmas.Bool.{and_parts}
use Rattle.population.specs.Given.{HasNumbers}
use Rattle.population.specs.LinkStates.{HoldsLink, HoldsTwoLinks, link_state, plain_link, two_links_state, unlinked_state}
use Rattle.population.proofs.supporting.LinkStates.{link_holds, links_differ, two_hold}
use Rattle.host_states.specs.ManyPartners.{shared_entity}
use Rattle.host_states.proofs.FewPartners.{by as host_by, column as shared_column, pair as shared_pair, pairs_of, is_assoc as hosted_here, the_assoc as hosted_assoc, the_owner}
use Rattle.host_states.proofs.focus.HostEnds.{partner_side}
use Rattle.conflict_laws.proofs.clash.Clashing.{Decides-clash, IsClash}
use Rattle.conflict_laws.proofs.null.Listed.{Decides-row}
use Rattle.conflict_laws.proofs.null.Required.{IsRequiredAt, required_there}
use Rattle.failure_laws.specs.Facts.{HasManyPartners}
use Rattle.failure_laws.specs.Places.{IsSharedCell}
use Rattle.failure_laws.proofs.links.LinkFacts.{Decides-many_links, Decides-unmapped}
use Rattle.failure_laws.proofs.links.LinkHides.{Decides-hides, SomeHides, joined_here, link_disagrees}
use Rattle.failure_laws.proofs.links.LinkRows.{listed_table, row_clashes, row_leaves}
use Rattle.failure_laws.proofs.links.TwoLinks.{partner_pairs, two_links_there}
use Rattle.failure_laws.proofs.links.Unmapped.{unmapped_there}

-- the pairs at the other end are those of the partner
to_partner : (first : Bool) (fragment : LinkFragment) (pair : Pair) → Contains (pairs_of (not first) fragment) pair → Contains (partner_pairs first fragment) pair
to_partner true fragment pair has = has
to_partner false fragment pair has = has

module _ (basis : Basis) (is : IsBasis basis) (limits : IsWithinLimits basis.schema) where
  numbers : HasNumbers basis.schema.model 0
  numbers = record { sound = is.sound.model; few = limits.model.0; row = omega (arith) }

  module _ (t : TableId) (fragment : LinkFragment) (assoc : Assoc) (joined : IsJoinedTo basis.schema t fragment assoc) where
    abbrev a : AssocId
    a = fragment.assoc

    abbrev link : Link
    link = plain_link basis.schema.model 0 assoc

    abbrev shown : State
    shown = link_state basis.schema.model 0 a assoc

    -- the state with the link
    holds : HoldsLink basis.schema.model 0 a assoc shown
    holds = link_holds basis.schema.model 0 numbers a assoc joined.is_assoc (sound_link basis.schema is.sound fragment joined.is_fragment assoc joined.is_assoc).independent

    abbrev table_of : IsTableOf basis a t
    table_of = record { fragment = fragment; assoc = assoc; joined = joined; of_assoc = refl }

    -- fails by a clash, where two symbols of a cell can differ
    clash_there : (u : TableId) (col : ColId) (one two : Symbol) → IsTrue (is_clash basis (focus.Link a) u col one two) → LinksFailThere basis a kind.Clash
    clash_there u col one two fact =
        let Clash : TableId → Type 0 = λ v. IsClash basis (focus.Link a) v col one two in
        let told : Clash u = (Decides-clash basis (focus.Link a) u col one two).0 fact in
        let clash : Clash t = subst Clash (listed_table basis is t fragment assoc joined u col one told.lists_one) told in
        let at = made_cell basis.schema.store (writings_of basis (focus.Link a)) t col clash.lists_one.0 clash.lists_one.1 in
        let fails = row_clashes basis is t fragment assoc joined shown holds.legal link holds.linked col at.table at.column
        (record { is_table = at.is_table; is_column = at.is_column }) one two clash in
        record { place = _; c = shown; d = shown; legal = holds.legal; fails = (fails, inl table_of) }

    -- by a null, where a symbol stands for null and the column isn't nullable
    null_there : NoneFailsBy basis.schema kind.Clash → (u : TableId) (col : ColId) (one : Symbol) → IsTrue (is_null_in basis (focus.Link a) u col one)
        → LinksFailThere basis a kind.Null
    null_there none u col one fact =
        let parts : IsTrue (has_row (pattern_of basis (focus.Link a)) u) × IsTrue (is_required basis.schema.store u col) =
        and_parts _ _ (and_parts _ _ fact).0 in
        let row : HasRow (pattern_of basis (focus.Link a)) u = (Decides-row (pattern_of basis (focus.Link a)) u).0 parts.0 in
        let same : u ≡ t = sym row.2 ∙ row_joined basis is t fragment assoc joined row.0 row.1 in
        let Null : TableId → Type 0 = λ v. IsTrue (is_null_in basis (focus.Link a) v col one) in
        let column : IsRequiredAt basis.schema t col = subst (λ v. IsRequiredAt basis.schema v col) same (required_there basis.schema u col parts.1) in
        let fails = row_leaves basis is t fragment assoc joined shown holds.legal link holds.linked col column.table column.column column.here none one
        (subst Null same fact) in
        record { place = _; c = shown; d = shown; legal = holds.legal; fails = (fails, table_of) }

    -- and by a disagreement, where the fragment doesn't show the pattern's row
    disagreement_there : NoneFailsBy basis.schema kind.Clash → (name : List ℕ) → IsTrue (disagrees_at basis (focus.Link a) name) → LinksFailThere basis a kind.Disagrees
    disagreement_there none name fact =
        let found : SomeHides basis a name = (Decides-hides basis a name).0 fact in
        let same : found.0 ≡ fragment = one_link basis is found.0 fragment found.1 joined.is_fragment found.2.1.0 in
        let hides : ¬ IsTrue (shows_link_pattern basis (focus.Link a) fragment) =
        subst (λ (other : LinkFragment). ¬ IsTrue (shows_link_pattern basis (focus.Link a) other)) same found.2.1.1 in
        record {
          place = place_at fragment.place (link.first ++ link.second) [];
          c = shown;
          d = shown;
          legal = holds.legal;
          fails = (
            link_disagrees basis is fragment assoc (joined_here basis t fragment assoc joined) none shown holds.legal link holds.linked hides,
            record {
              t = t;
              of_table = table_of;
              fragment = fragment;
              keys = link.first ++ link.second;
              mapped = joined.is_fragment;
              of_assoc = refl;
              place_is = refl;
            },
          );
        }

  -- links of one entity to two partners, where it may have any number
  module _ (s : SetId) (host : Host) (hosts : Contains (basis.hosts s) host)
      (many : (partner_end host.first_hosts (hosted_assoc basis is limits s host hosts)).mult ≡ Many) where
    abbrev of_host : IsHostOf basis.schema s host
    of_host = host_by basis is limits s host hosts

    abbrev assoc_of : Assoc
    assoc_of = hosted_assoc basis is limits s host hosts

    abbrev hosted : HostedAssoc basis s
    hosted = record { host = host; hosts = hosts; assoc = assoc_of; is_assoc = hosted_here basis is limits s host hosts }

    two_held : HoldsTwoLinks basis.schema.model 0 host.assoc host.first_hosts assoc_of (two_links_state basis.schema.model 0 host.assoc host.first_hosts assoc_of)
    two_held = two_hold basis.schema.model 0 numbers host.assoc assoc_of hosted.is_assoc (independent basis is s host hosts assoc_of hosted.is_assoc) host.first_hosts
        (ap (λ (end : End). end.mult) (sym (partner_side host.first_hosts assoc_of)) ∙ many)

    -- the cell of a part of the partner's key
    abbrev told : (table : Table) × (column : Column) × HasColumn basis.schema of_host.fragment.table table (shared_pair basis is limits s host hosts many).0.col column
    told = shared_column basis is limits s host hosts many

    abbrev owner_of : (pairing : List Pair) × IsOwned basis.schema of_host.fragment.table s pairing
    owner_of = the_owner basis is limits s host hosts

    abbrev shared_place : Place
    shared_place = place_at told.0.name (paired_key basis.schema.model owner_of.0 (shared_entity basis host assoc_of)) told.1.name

    abbrev shared_cell : IsSharedCell basis host.assoc shared_place
    shared_cell = record {
      s = s;
      at = hosted;
      of_assoc = refl;
      fragment = of_host.fragment;
      mapped = of_host.is_fragment;
      of_fragment = of_host.of_assoc;
      pair = (shared_pair basis is limits s host hosts many).0;
      paired = to_partner host.first_hosts of_host.fragment (shared_pair basis is limits s host hosts many).0 (shared_pair basis is limits s host hosts many).1;
      owned = record { table = told.0; column = told.1; has_column = told.2; pairing = owner_of.0; owned = owner_of.1 };
      is = refl;
    }

    many_at : LinksFailThere basis host.assoc kind.Clash
    many_at = two_links_there basis is host.assoc shared_place shared_cell (two_links_state basis.schema.model 0 host.assoc host.first_hosts assoc_of) two_held many

  module _ (a : AssocId) where
    many_found : IsTrue (is_many_links basis a) → LinksFailThere basis a kind.Clash
    many_found fact =
        let has : HasManyPartners basis a = (Decides-many_links basis a is).0 fact in
        let host : Host = has.at.host in
        let same : has.at.assoc ≡ hosted_assoc basis is limits has.s host has.at.hosts =
        at_once basis.schema.model.assocs host.assoc.index has.at.assoc (hosted_assoc basis is limits has.s host has.at.hosts) has.at.is_assoc
        (hosted_here basis is limits has.s host has.at.hosts) in
        subst (λ b. LinksFailThere basis b kind.Clash) has.of_assoc
        (many_at has.s host has.at.hosts (subst (λ (one : Assoc). (partner_end host.first_hosts one).mult ≡ Many) same has.many))

    pub many_there : (b : AssocId) → b ≡ a → IsTrue (is_many_links basis b) → LinksFailThere basis a kind.Clash
    many_there b same fact = many_found (subst (λ c. IsTrue (is_many_links basis c)) same fact)

    -- two states with the same tables, where nothing maps the association
    unmapped_found : NoneFailsBy basis.schema kind.Clash → IsTrue (is_unmapped basis a) → LinksFailThere basis a kind.Same
    unmapped_found none fact =
        let found = (Decides-unmapped basis a).0 fact in
        let unmapped : IsUnmapped basis.schema a found.0 = found.1 in
        unmapped_there basis is none a found.0 unmapped (link_state basis.schema.model 0 a found.0) (unlinked_state basis.schema.model 0 a found.0)
        (links_differ basis.schema.model 0 numbers a found.0 unmapped.is_assoc unmapped.independent)

    pub unmapped_fails : NoneFailsBy basis.schema kind.Clash → (b : AssocId) → b ≡ a → IsTrue (is_unmapped basis b) → LinksFailThere basis a kind.Same
    unmapped_fails none b same fact = unmapped_found none (subst (λ c. IsTrue (is_unmapped basis c)) same fact)

    -- the focus is a link of the association, which has a table of its own
    module _ (b : AssocId) (of : IsLinkOf basis a (focus.Link b)) where
      own : b ≡ of.2.fragment.assoc
      own = of.0 ∙ sym of.2.of_assoc

      pub clashes_there : (u : TableId) (col : ColId) (one two : Symbol) → IsTrue (is_clash basis (focus.Link b) u col one two) → LinksFailThere basis a kind.Clash
      clashes_there u col one two fact = subst (λ c. LinksFailThere basis c kind.Clash) of.2.of_assoc
          (clash_there of.1 of.2.fragment of.2.assoc of.2.joined u col one two (subst (λ c. IsTrue (is_clash basis (focus.Link c) u col one two)) own fact))

      pub nulls_there : NoneFailsBy basis.schema kind.Clash → (u : TableId) (col : ColId) (one : Symbol) → IsTrue (is_null_in basis (focus.Link b) u col one)
          → LinksFailThere basis a kind.Null
      nulls_there none u col one fact = subst (λ c. LinksFailThere basis c kind.Null) of.2.of_assoc
          (null_there of.1 of.2.fragment of.2.assoc of.2.joined none u col one (subst (λ c. IsTrue (is_null_in basis (focus.Link c) u col one)) own fact))

      pub disagrees_there : NoneFailsBy basis.schema kind.Clash → (name : List ℕ) → IsTrue (disagrees_at basis (focus.Link b) name) → LinksFailThere basis a kind.Disagrees
      disagrees_there none name fact = subst (λ c. LinksFailThere basis c kind.Disagrees) of.2.of_assoc
          (disagreement_there of.1 of.2.fragment of.2.assoc of.2.joined none name (subst (λ c. IsTrue (disagrees_at basis (focus.Link c) name)) own fact))
