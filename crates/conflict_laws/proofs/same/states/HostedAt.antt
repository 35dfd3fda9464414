-- Links at the entity of a key.
use Rattle.std.proofs.Common.{◌≡◌, List, Bool, Contains}
use Rattle.emc_base.proofs.Mapped.{contains_filter}
use Rattle.emc_base.proofs.Numbered.{filter_contains}
use Rattle.round_trip.specs.Words.{Link, State, Value, links_in}
use Rattle.schema_laws.specs.state_demand.Selecting.{same_key}
use Rattle.schema_laws.proofs.state_demand.writings.Selecting.{Decides-key}
use Rattle.regions.specs.Basis.{Host, host_key}
use Rattle.regions.specs.region_laws.RegionAt.{links_at}

module _ (state : State) (host : Host) (key : List Value) where
  -- whether the entity of this key hosts the link
  abbrev at_key : Link → Bool
  at_key link = same_key (host_key host.first_hosts link) key

  -- a link of the association that the entity of this key hosts
  pub at_host : (link : Link) → Contains (links_in state host.assoc) link → host_key host.first_hosts link ≡ key → Contains (links_at state host key) link
  at_host link has is = contains_filter at_key (links_in state host.assoc) link has ((Decides-key (host_key host.first_hosts link) key).1 is)

  -- and the other way
  pub host_at : (link : Link) → Contains (links_at state host key) link → Contains (links_in state host.assoc) link × (host_key host.first_hosts link ≡ key)
  host_at link has =
      let kept = filter_contains at_key (links_in state host.assoc) link has in
      (kept.0, (Decides-key (host_key host.first_hosts link) key).0 kept.1)
