-- A link fragment to a table that a set owns is hosted at the set, at the end that the table's primary key is paired with.
use Rattle.std.proofs.Common.{◌≡◌, ◌⊎◌, inl, inr, List, Bool, true, false, not, All, Contains, refl, sym, subst, ◌∙◌}
use Rattle.std.proofs.lemmas.List.Elements.{All-contains}
use Rattle.emc_base.proofs.Mapped.{contains_at}
use Rattle.emc_base.proofs.Numbered.{map_contains}
use Rattle.emc_base.proofs.facts.Standing.{some_item}
use Rattle.round_trip.specs.Words.{SetId, AssocId, Assoc, ColId, Entity, Link, LinkFragment, Pair, State, Table, At, key_columns, key_of, links_in}
use Rattle.round_trip.specs.FailsAt.{IsHostedAt}
use Rattle.round_trip.specs.soundness.mappings.Owners.{IsPlaced}
use Rattle.round_trip.specs.soundness.Stores.{IsSoundTable}
use Rattle.round_trip.proofs.Lookups.{key_columns_at}
use Rattle.schema_laws.specs.state_demand.Owners.{IsHostAt, IsHosted, IsLinkOf}
use Rattle.schema_laws.specs.sound_demand.Fragments.{IsHostedFragment}
use Rattle.schema_laws.specs.sound_demand.ReadBack.{HasLinkOf}
use Rattle.schema_laws.proofs.sound_demand.Fitting.{sound_link}
use Rattle.schema_laws.proofs.sound_demand.owners.OneOwner.{owned_or_joined}
use Rattle.schema_laws.proofs.sound_demand.owners.Owned.{joined_to}
use Rattle.regions.specs.Basis.{Basis, Host, host_end, host_key}
use Rattle.regions.specs.region_laws.IsBasis.{IsBasis}
use Rattle.regions.proofs.region_laws.pattern.symbols.Hosting.{hosted_side, partner_no_key}
use Rattle.regions.proofs.region_laws.pattern.symbols.Origins.{side}

module _ (basis : Basis) (is : IsBasis basis) (s : SetId) (pairing : List Pair) (assoc : Assoc) (fragment : LinkFragment) (table : Table)
    (to : IsHostedFragment basis.schema s pairing assoc fragment table) where
  abbrev mapped : Contains basis.schema.mapping.links fragment
  mapped = to.to.mapped

  abbrev here : At basis.schema.model.assocs fragment.assoc.index assoc
  here = to.to.is_assoc

  abbrev IsKeyCol : ColId → Type 0
  IsKeyCol col = Contains (key_columns basis.schema.store fragment.table) col

  -- the pairing has a pair
  some_pair : (pair : Pair) × Contains pairing pair × IsKeyCol pair.col
  some_pair =
      let sound : IsSoundTable table = All-contains IsSoundTable basis.schema.store.tables table is.sound.store.tables
      (contains_at basis.schema.store.tables fragment.table.index table to.to.is_table) in
      let col = some_item (key_columns basis.schema.store fragment.table)
      (λ none. sound.key.some (sym (key_columns_at basis.schema.store fragment.table table to.to.is_table) ∙ none)) in
      let pair = map_contains (λ (one : Pair). one.col) pairing col.0 (subst (λ cols. Contains cols col.0) (sym to.owned.cols) col.1) in
      (pair.0, pair.1, subst IsKeyCol (sym pair.2) col.1)

  -- it isn't written at the end whose columns aren't the primary key
  never_both : (b : Bool) → All (Contains (side b fragment)) pairing → IsHostedAt basis.schema fragment.table (side (not b) fragment) → ⊥
  never_both true writes at = partner_no_key basis is fragment mapped false at some_pair.0
      (All-contains (Contains fragment.first) pairing some_pair.0 writes some_pair.1) some_pair.2
  never_both false writes at = partner_no_key basis is fragment mapped true at some_pair.0
      (All-contains (Contains fragment.second) pairing some_pair.0 writes some_pair.1) some_pair.2

  abbrev HostAt : Bool → Type 0
  HostAt b = IsHostAt s pairing (host_end b assoc) (side b fragment)

  never_joined : IsPlaced basis.schema fragment assoc → IsHostedAt basis.schema fragment.table fragment.first ⊎ IsHostedAt basis.schema fragment.table fragment.second
  never_joined (inl first) = inl first
  never_joined (inr (inl second)) = inr second
  never_joined (inr (inr joined)) = absurd (owned_or_joined basis.schema is.sound fragment.table s pairing fragment assoc to.owned
      (joined_to basis.schema is.sound fragment.table fragment assoc (record { is_fragment = mapped; is_assoc = here; to_table = refl }) joined))

  -- where the pairing is written the columns are the primary key
  at_key : (b : Bool) → HostAt b → IsHostedAt basis.schema fragment.table (side b fragment)
  at_key b host = by b host (never_joined (sound_link basis.schema is.sound fragment mapped assoc here).placed)
    where
      by : (b : Bool) → HostAt b → IsHostedAt basis.schema fragment.table fragment.first ⊎ IsHostedAt basis.schema fragment.table fragment.second
          → IsHostedAt basis.schema fragment.table (side b fragment)
      by true host (inl first) = first
      by true host (inr second) = absurd (never_both true host.writes second)
      by false host (inl first) = absurd (never_both false host.writes first)
      by false host (inr second) = second

  -- and the association is hosted at the set
  pub host_there : (b : Bool) → HostAt b → Contains (basis.hosts s) (record { assoc = fragment.assoc; first_hosts = b })
  host_there b host = (is.hosts s (record { assoc = fragment.assoc; first_hosts = b })).1 (record {
    assoc = assoc;
    fragment = fragment;
    is_assoc = here;
    is_fragment = mapped;
    of_assoc = refl;
    hosted = at_key b host;
    at_set = host.of_set;
  })

  -- where the columns are the primary key the pairing is written
  pub host_at : (host : Host) → Contains (basis.hosts s) host → fragment.assoc ≡ host.assoc → HostAt host.first_hosts
  host_at host hosts of_assoc = by host.first_hosts (hosted_side basis is fragment mapped s host hosts of_assoc) hosted.host
    where
      hosted : IsHosted s pairing assoc fragment
      hosted =
          let P : LinkFragment → Type 0 = λ f. f.table ≡ fragment.table → (a : Assoc) → At basis.schema.model.assocs f.assoc.index a → IsHosted s pairing a f in
          All-contains P basis.schema.mapping.links fragment to.owned.links mapped refl assoc here

      by : (b : Bool) → IsHostedAt basis.schema fragment.table (side b fragment) → HostAt true ⊎ HostAt false → HostAt b
      by true at (inl first) = first
      by true at (inr second) = absurd (never_both false second.writes at)
      by false at (inl first) = absurd (never_both true first.writes at)
      by false at (inr second) = second

  -- a link that an entity hosts, by the end at which it does
  module _ (state : State) (entity : Entity) where
    pub record HostsLink : Type 0 where
      pub host : Host
      pub hosts : Contains (basis.hosts s) host
      pub of_assoc : fragment.assoc ≡ host.assoc
      pub link : Link
      pub stands : Contains (links_in state host.assoc) link
      pub at_entity : host_key host.first_hosts link ≡ key_of basis.schema.model entity

    pub hosts_link : HasLinkOf basis.schema state s pairing assoc fragment entity → HostsLink
    hosts_link (link, stands, of_link) = by of_link
      where
        made : (b : Bool) → HostAt b → host_key b link ≡ key_of basis.schema.model entity → HostsLink
        made b host same = record {
          host = record { assoc = fragment.assoc; first_hosts = b };
          hosts = host_there b host;
          of_assoc = refl;
          link = link;
          stands = stands;
          at_entity = same;
        }

        by : IsLinkOf basis.schema s pairing assoc fragment link entity → HostsLink
        by (inl (host, same)) = made true host same
        by (inr (host, same)) = made false host same

    pub has_link : HostsLink → HasLinkOf basis.schema state s pairing assoc fragment entity
    has_link by =
        let P : AssocId → Type 0 = λ a. Contains (links_in state a) by.link in
        (by.link, subst P (sym by.of_assoc) by.stands, end by.host.first_hosts (host_at by.host by.hosts by.of_assoc) by.at_entity)
      where
        end : (b : Bool) → HostAt b → host_key b by.link ≡ key_of basis.schema.model entity → IsLinkOf basis.schema s pairing assoc fragment by.link entity
        end true host same = inl (host, same)
        end false host same = inr (host, same)
