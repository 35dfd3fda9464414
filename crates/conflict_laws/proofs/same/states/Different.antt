-- States with the same tables, of which one alone holds an entity.
use Rattle.std.proofs.Common.{inl, List, [], refl}
use Rattle.std.proofs.lemmas.List.Sorted.{Contains-permutation, IsPermutation-refl}
use Rattle.round_trip.specs.Words.{SetId, EntitySet, FailsAt, IsLegal, IsSameState, Schema, State, Tables, TablesAre, Value, At, entities_in, place_at, rows_in}
use Rattle.round_trip.specs.FailsAt.{HasEntityOnly}
use Rattle.round_trip.specs.declared.FailKind.TheVariants as kind

module _ (schema : Schema) (c d : State) (s : SetId) (key : List Value) (only : HasEntityOnly schema.model s key c d) where
  -- they aren't the same
  not_same : ¬ IsSameState c d
  not_same same = only.3 (Contains-permutation (entities_in c s) (entities_in d s) only.0 (same.entities s) only.1)

  -- and so they fail
  pub same_fails : IsLegal schema.model c → IsLegal schema.model d → (set : EntitySet) → At schema.model.sets s.index set → (tables : Tables) → TablesAre schema c tables
      → TablesAre schema d tables → FailsAt schema kind.Same (place_at set.name key []) c d
  same_fails legal_c legal_d set is_set tables are_c are_d = record {
    legal = legal_c;
    fails = record {
      tables = tables;
      other_tables = tables;
      defined = are_c;
      other_defined = are_d;
      same_tables = λ t. IsPermutation-refl (rows_in tables t);
      other_legal = legal_d;
      different = not_same;
      differ = inl (s, set, key, is_set, inl only, refl);
    };
  }
