-- The links that an entity hosts, by where cells tell that links stand.
-- Source: the profile's choice of how MSL version 3, AssociationSetMapping, may map an association.
use Rattle.std.specs.Prelude.{◌≡◌, ◌⊎◌, ◌==◌, ℕ, List, Contains, [], map, filter, slice_get, Bool, if◌then◌else◌}
use Rattle.std.specs.List.{enumerate_from, flat_map}
use Rattle.std.specs.Option.{unwrap_or}
use Rattle.std.specs.Cmp.Lexicographic.{slice_cmp}
use Rattle.std.specs.Ordering.{eq_by_cmp}
use Rattle.emc_base.specs.Order.{value_cmp}
use Rattle.round_trip.specs.Words.{SetId, AssocId, Value, EntityModel, Assoc, Link, LinkFragment, Hosted, Schema, State, At, links_in}
use Rattle.round_trip.specs.FailsAt.{IsHostedAt}
use Rattle.table_owners.specs.declared.places.LinkPlace.{LinkPlace}
use Rattle.table_owners.specs.declared.places.LinkPlace.TheVariants as place
use Rattle.cells.specs.declared.cells.Cells.{Cells}

-- a link that the entity of this key in the set hosts, as this entity sees it: a fragment maps its association, and writes the key of the entity's
-- end to a whole primary key
pub record IsHostedLink (schema : Schema) (state : State) (set : SetId) (key : List Value) (hosted : Hosted) : Type 0 where
  pub fragment : LinkFragment
  pub assoc : Assoc
  pub link : Link
  pub is_fragment : Contains schema.mapping.links fragment
  pub is_assoc : At schema.model.assocs fragment.assoc.index assoc
  pub stands : Contains (links_in state fragment.assoc) link
  pub of_assoc : hosted.assoc ≡ fragment.assoc
  pub end : (IsHostedAt schema fragment.table fragment.first × (assoc.first.set ≡ set) × (link.first ≡ key) × (link.second ≡ hosted.partner))
      ⊎ (IsHostedAt schema fragment.table fragment.second × (assoc.second.set ≡ set) × (link.second ≡ key) × (link.first ≡ hosted.partner))

-- the set of the end that hosts
abbrev pub host_set : Bool → Assoc → SetId
host_set first_hosts assoc = if first_hosts then assoc.first.set else assoc.second.set

-- the key of the entity that hosts a link, and that of its partner
abbrev pub host_key : Bool → Link → List Value
host_key first_hosts link = if first_hosts then link.first else link.second

abbrev pub partner_key : Bool → Link → List Value
partner_key first_hosts link = if first_hosts then link.second else link.first

-- those of some links whose hosting entity has this key, as this entity sees them, in their order
abbrev pub of_key : Bool → AssocId → List Value → List Link → List Hosted
of_key first_hosts a key links = map (λ link. record { assoc = a; partner = partner_key first_hosts link })
    (filter (λ link. eq_by_cmp (slice_cmp value_cmp) (host_key first_hosts link) key) links)

-- the links of one association that the entity of this key in this set hosts
abbrev pub hosted_at : LinkPlace → AssocId → Assoc → SetId → List Value → List Link → List Hosted
hosted_at (place.Hosted first_hosts number) a assoc set key links =
    if (host_set first_hosts assoc).index == set.index then of_key first_hosts a key links else []
hosted_at _ a assoc set key links = []

-- those of one numbered association
abbrev pub hosted_by : Cells → State → SetId → List Value → ℕ × Assoc → List Hosted
hosted_by cells state set key entry = hosted_at (unwrap_or (slice_get cells.places entry.0) place.Unmapped) (record { index = entry.0 }) entry.1 set key
    (links_in state (record { index = entry.0 }))

-- those of all associations, one after another
abbrev pub hosted_links : EntityModel → Cells → State → SetId → List Value → List Hosted
hosted_links model cells state set key = flat_map (hosted_by cells state set key) (enumerate_from 0 model.assocs)
