-- Where no legal state fails, legal states with the same tables are the same.
use Rattle.std.proofs.Common.{⊎_elim, inl, ◌<◌, ◌≤◌, [], length, Contains, IsPermutation, refl}
use Rattle.std.proofs.lemmas.Bool.{cases_lt}
use Rattle.std.proofs.lemmas.List.Sorted.{IsPermutation-sym, Contains-permutation}
use Rattle.emc_base.proofs.Lists.{item_at}
use Rattle.emc_base.proofs.facts.Pairs.{both_none}
use Rattle.round_trip.specs.Words.{AreSameTables, At, Entity, EntitySet, IsLegal, IsSameState, Keeps, RoundTrips, Schema, SetId, State, Tables, TablesAre, entities_in, key_of, place_at, rows_in}
use Rattle.round_trip.specs.declared.FailKind.TheVariants as kind
use Rattle.round_trip.specs.soundness.mappings.Mappings.{IsSoundSchema}
use Rattle.schema_laws.proofs.sound_demand.Kept.{all_stored}
use Rattle.schema_laws.proofs.state_demand.lists.Permutations.{same_members_permute}
use Rattle.schema_laws.proofs.kept_states.Entities.{apart_by_key, past_none, stands_or_not}
use Rattle.schema_laws.proofs.kept_states.Links.{same_links}

module _ (schema : Schema) (round_trips : RoundTrips schema) where
  -- a set of the model holds each entity of the one state in the other too
  stands_too : (c d : State) (s t : Tables) → IsLegal schema.model c → IsLegal schema.model d → TablesAre schema c s → TablesAre schema d t → AreSameTables s t
      → (u : SetId) (set : EntitySet) → At schema.model.sets u.index set → (entity : Entity) → Contains (entities_in c u) entity → Contains (entities_in d u) entity
  stands_too c d s t is_c is_d are_c are_d same u set is_set entity has = ⊎_elim
      (λ there. there)
      (λ (not_there : ¬ Contains (entities_in d u) entity). absurd (round_trips kind.Same (place_at set.name (key_of schema.model entity) []) c d (record {
        legal = is_c;
        fails = record {
          tables = s;
          other_tables = t;
          defined = are_c;
          other_defined = are_d;
          same_tables = same;
          other_legal = is_d;
          different = λ (alike : IsSameState c d). not_there (Contains-permutation (entities_in c u) (entities_in d u) entity (alike.entities u) has);
          differ = inl (u, set, key_of schema.model entity, is_set, inl (entity, has, refl, not_there), refl);
        };
      })))
      (stands_or_not (entities_in d u) entity)

  module _ (c d : State) (s t : Tables) (is_c : IsLegal schema.model c) (is_d : IsLegal schema.model d)
      (are_c : TablesAre schema c s) (are_d : TablesAre schema d t) (same : AreSameTables s t) where
    -- a set of the model holds the same entities in both
    same_in_set : (u : SetId) (set : EntitySet) → At schema.model.sets u.index set → IsPermutation (entities_in c u) (entities_in d u)
    same_in_set u set is_set = same_members_permute (entities_in c u) (entities_in d u)
        (apart_by_key (key_of schema.model) (entities_in c u) (is_c.sets u set is_set).keys)
        (apart_by_key (key_of schema.model) (entities_in d u) (is_d.sets u set is_set).keys)
        (stands_too c d s t is_c is_d are_c are_d same u set is_set)
        (stands_too d c t s is_d is_c are_d are_c (λ table. IsPermutation-sym (rows_in s table) (rows_in t table) (same table)) u set is_set)

    -- and past these both hold none
    same_entities : (u : SetId) → IsPermutation (entities_in c u) (entities_in d u)
    same_entities u = ⊎_elim
        (λ (within : u.index < length schema.model.sets). let found = item_at schema.model.sets u.index within in same_in_set u found.0 found.1)
        (λ (past : length schema.model.sets ≤ u.index). both_none (entities_in c u) (entities_in d u)
        (past_none c.entities (length schema.model.sets) u.index is_c.shape.sets past)
        (past_none d.entities (length schema.model.sets) u.index is_d.shape.sets past))
        (cases_lt u.index (length schema.model.sets))

module _ (schema : Schema) (sound : IsSoundSchema schema) (round_trips : RoundTrips schema) where
  -- legal states with the same tables are the same
  pub same_state : (c d : State) (s t : Tables) → IsLegal schema.model c → IsLegal schema.model d → TablesAre schema c s → TablesAre schema d t → AreSameTables s t → IsSameState c d
  same_state c d s t is_c is_d are_c are_d same = record {
    entities = same_entities schema round_trips c d s t is_c is_d are_c are_d same;
    links = same_links schema sound round_trips c d s t is_c is_d are_c are_d same;
  }

  -- each legal state is stored, and told apart from the others by its tables
  pub keeps : Keeps schema
  keeps = record { round_trips = round_trips; every_state = record { stored = all_stored schema sound round_trips; told_apart = same_state } }
