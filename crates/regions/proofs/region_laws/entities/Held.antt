-- What is told of entities and of regions that hold them, from one record to another.
use Rattle.std.proofs.Common.{◌≡◌, ◌<◌, List, Contains, Option, Some, None, slice_get, unwrap_or, refl, ap, subst, []}
use Rattle.std.proofs.lemmas.Option.{slice_get_within}
use Rattle.emc_base.proofs.Lists.{item_at}
use Rattle.round_trip.specs.Words.{SetId, EntitySet, Entity, State, At, IsLegal, entities_in}
use Rattle.schema_laws.proofs.state_demand.lists.Lists.{none_in_nil}
use Rattle.regions.specs.Basis.{Basis}
use Rattle.regions.specs.region_laws.Held.{HeldEntity, Holding, LinkedEntity, Standing}

-- an entity stands in a set of the model
pub set_of_entity : (basis : Basis) (state : State) → IsLegal basis.schema.model state → (s : SetId) (entity : Entity) → Contains (entities_in state s) entity
    → (set : EntitySet) × At basis.schema.model.sets s.index set
set_of_entity basis state legal s entity stands = by (slice_get state.entities s.index) refl
  where
    by : (found : Option (List Entity)) → slice_get state.entities s.index ≡ found → (set : EntitySet) × At basis.schema.model.sets s.index set
    by None none = absurd (none_in_nil entity (subst (λ list. Contains list entity) (ap (λ found. unwrap_or found []) none) stands))
    by (Some list) at = item_at basis.schema.model.sets s.index (subst (λ n. s.index < n) legal.shape.sets (slice_get_within state.entities s.index list at))

module _ (basis : Basis) where
  abbrev pub standing_of : HeldEntity basis → Standing basis
  standing_of held = record { state = held.state; legal = held.legal; s = held.s; entity = held.entity; stands = held.of_region.stands }

  abbrev pub holding_of : HeldEntity basis → Holding basis
  holding_of held = record {
    s = held.s;
    region = held.region;
    entity = held.entity;
    links = held.of_region.links;
    listed = held.of_region.listed;
    holds = held.of_region.holds;
  }

  abbrev pub linked_holding : LinkedEntity basis → Holding basis
  linked_holding linked = record {
    s = linked.s;
    region = linked.region;
    entity = linked.entity;
    links = linked.held.links;
    listed = linked.held.listed;
    holds = linked.held.holds;
  }
