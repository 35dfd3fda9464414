-- Links of an association with a table of its own, in supported states: they are the given ones.
use Rattle.std.proofs.Common.{◌≡◌, ◌≢◌, ⊎_elim, inl, inr, ℕ, List, ◌++◌, Contains, Bool, true, false, refl, subst, ◌∙◌}
use Rattle.std.proofs.lemmas.List.Elements.{Contains-append_cases}
use Rattle.round_trip.specs.Words.{Assoc, EntityModel, Link, LinkFragment, SetId, TableId, IsIndependent, links_in}
use Rattle.edm_types.specs.declared.model.Mult.TheVariants.{One}
use Rattle.round_trip.specs.FailsAt.{IsHostedAt}
use Rattle.round_trip.specs.soundness.mappings.Owners.{LinkMaps}
use Rattle.schema_laws.specs.state_demand.Owners.{IsJoinedTo}
use Rattle.schema_laws.proofs.sound_demand.Fitting.{sound_link}
use Rattle.schema_laws.proofs.sound_demand.owners.OneOwner.{owned_or_joined}
use Rattle.schema_laws.proofs.sound_demand.owners.Owned.{owned}
use Rattle.regions.specs.Basis.{Basis, Host}
use Rattle.regions.specs.region_laws.IsBasis.{IsBasis, IsHostOf}
use Rattle.regions.proofs.region_laws.pattern.symbols.Hosting.{one_link}
use Rattle.regions.proofs.region_laws.pattern.symbols.Origins.{side}
use Rattle.population.specs.Supported.{added_at, links_of, supported}
use Rattle.population.specs.declared.placed.Placed.{Placed}
use Rattle.population.specs.declared.placed.PlacedKey.{PlacedKey}
use Rattle.population.specs.declared.placed.PlacedLink.{PlacedLink}
use Rattle.population.proofs.supporting.Entities.{links_are}
use Rattle.population.proofs.supporting.Links.{is_added, linked_is}
use Rattle.host_states.proofs.pairs.Alike.{joined_no_one}

module _ (basis : Basis) (is : IsBasis basis) (t : TableId) (fragment : LinkFragment) (assoc : Assoc) (joined : IsJoinedTo basis.schema t fragment assoc) where
  -- its link fragment isn't hosted
  never_hosted : (first : Bool) → IsHostedAt basis.schema fragment.table (side first fragment) → ⊥
  never_hosted first at = by first at
    where
      maps : LinkMaps basis.schema t fragment assoc
      maps = record { is_fragment = joined.is_fragment; is_assoc = joined.is_assoc; to_table = joined.to_table }

      by : (b : Bool) → IsHostedAt basis.schema fragment.table (side b fragment) → ⊥
      by true here =
          let own = owned basis.schema is.sound t assoc.first.set fragment.first (inr (fragment, assoc, maps, inl (subst (λ u. IsHostedAt basis.schema u fragment.first) joined.to_table here, refl, refl))) in
          owned_or_joined basis.schema is.sound t assoc.first.set own.0 fragment assoc own.1 joined
      by false here =
          let own = owned basis.schema is.sound t assoc.second.set fragment.second (inr (fragment, assoc, maps, inr (subst (λ u. IsHostedAt basis.schema u fragment.second) joined.to_table here, refl, refl))) in
          owned_or_joined basis.schema is.sound t assoc.second.set own.0 fragment assoc own.1 joined

  -- so no set hosts the association
  pub hosts_none : (s : SetId) (host : Host) → Contains (basis.hosts s) host → host.assoc ≡ fragment.assoc → ⊥
  hosts_none s host hosted same_assoc =
      let by : IsHostOf basis.schema s host = (is.hosts s host).0 hosted in
      let same : by.fragment ≡ fragment = one_link basis is by.fragment fragment by.is_fragment joined.is_fragment (by.of_assoc ∙ same_assoc) in
      never_hosted host.first_hosts (subst (λ (one : LinkFragment). IsHostedAt basis.schema one.table (side host.first_hosts one)) same by.hosted)

  abbrev model : EntityModel
  model = basis.schema.model

  no_one : (assoc.first.mult ≢ One) × (assoc.second.mult ≢ One)
  no_one = joined_no_one basis is t fragment assoc joined

  independent : IsIndependent assoc
  independent = (sound_link basis.schema is.sound fragment joined.is_fragment assoc joined.is_assoc).independent

  module _ (outer : ℕ) (given : List Placed) (keys : List PlacedKey) (links : List PlacedLink) where
    abbrev own : List Link
    own = links_of links fragment.assoc

    abbrev more : Bool → List Link
    more first = added_at model outer given keys first fragment.assoc assoc own

    -- a link of it is given
    pub joined_given : (link : Link) → Contains (links_in (supported basis.schema.model outer given keys links) fragment.assoc) link → Contains (links_of links fragment.assoc) link
    joined_given link has = ⊎_elim
        (λ (one : Contains own link). one)
        (λ (rest : Contains (more true ++ more false) link). ⊎_elim
        (λ (one : Contains (more true) link). absurd (no_one.1 (is_added model outer given keys fragment.assoc assoc own true link one).far_one))
        (λ (one : Contains (more false) link). absurd (no_one.0 (is_added model outer given keys fragment.assoc assoc own false link one).far_one))
        (Contains-append_cases (more true) (more false) link rest))
        (Contains-append_cases own (more true ++ more false) link
        (subst (λ list. Contains list link) (links_are model outer given keys links fragment.assoc ∙ linked_is model outer given keys links fragment.assoc assoc joined.is_assoc independent) has))
