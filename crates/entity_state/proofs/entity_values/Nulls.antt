-- Whether some of an entity's values are null, property by property.
use Rattle.std.proofs.Common.{◌≡◌, ◌≢◌, ℕ, ◌≤◌, List, length, get_or, All, map}
use Rattle.std.proofs.lemmas.List.Elements.{All-map, All-contains}
use Rattle.std.proofs.lemmas.Option.{slice_get-get_or}
use Rattle.emc_base.specs.Lists.{At}
use Rattle.emc_base.proofs.Mapped.{contains_at, contains_map}
use Rattle.round_trip.specs.Words.{EntityModel, Entity, PropId, Null, Value, value_of, values_of}
use Rattle.entity_state.proofs.breach_order.Turns.{EachTo, each_all}

module _ (model : EntityModel) (entity : Entity) (props : List PropId) where
  abbrev pub IsTold : Value → Type 0
  IsTold value = value ≢ Null

  pub all_told : (n : ℕ) → length props ≤ n → EachTo (λ _ prop. value_of model entity prop ≢ Null) props n → All IsTold (values_of model entity props)
  all_told n end passed = All-map IsTold (value_of model entity) props
      (λ j d within. each_all (λ _ prop. value_of model entity prop ≢ Null) props n end passed j (get_or props j d) (slice_get-get_or props j d within))

  pub null_told : (n : ℕ) (prop : PropId) → At props n prop → value_of model entity prop ≡ Null → ¬ All IsTold (values_of model entity props)
  null_told n prop here null all = All-contains IsTold (values_of model entity props) (value_of model entity prop) all
      (contains_map (value_of model entity) props prop (contains_at props n prop here)) null
