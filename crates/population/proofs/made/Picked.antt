-- The entities of a supported state whose keys pass a test.
use Rattle.std.proofs.Common.{◌≡◌, ℕ, List, [], ◌++◌, map, filter, length, slice_get, Contains, Option, None, Some, Bool, refl, sym, ap, ◌∙◌}
use Rattle.std.specs.Option.{option_map_or}
use Rattle.std.proofs.lemmas.List.Elements.{filter-append}
use Rattle.std.proofs.lemmas.Slice.Zip.{AllZip-long}
use Rattle.edm_types.specs.IsA.{same as itself}
use Rattle.round_trip.specs.Words.{SetId, Value, EntityModel, EntitySet, Entity, At, key_of}
use Rattle.round_trip.specs.soundness.Lookups.{set_key}
use Rattle.schema_laws.specs.short_values.Numbers.{numbers_from}
use Rattle.schema_laws.specs.state_demand.Selecting.{same_key}
use Rattle.population.specs.Given.{AreKeys, HasNumbers, IsShortFor}
use Rattle.population.specs.Made.{AreWhole, entities_at, state_of}
use Rattle.population.specs.Kept.{at_key}
use Rattle.population.specs.Numbered.{all_numbered, number_count, numbered, numbered_key}
use Rattle.population.specs.Plain.{plain}
use Rattle.population.specs.Principals.{PlacedKey}
use Rattle.population.specs.Supported.{Placed, all_in, given_in, keys_in, stands_in}
use Rattle.population.specs.declared.placed.Supporting.{Supporting}
use Rattle.population.proofs.made.Filters.{filter_images}
use Rattle.population.proofs.plain.Numbered.{asked_concrete, numbered_has}
use Rattle.population.proofs.plain.Plain.{keys_same, plain_key}
use Rattle.population.proofs.supporting.Entities.{entities_are, smaller}

-- short keys are whole
pub whole_keys : (model : EntityModel) (outer : ℕ) (given : List Placed) (keys : List PlacedKey) → AreKeys model outer given keys → AreWhole model keys
whole_keys model outer given keys are_keys = record { long = λ u key has. AllZip-long (IsShortFor model) (set_key model u) key (are_keys.short u key has) }

module _ (model : EntityModel) (outer : ℕ) (has : HasNumbers model outer) (one : Supporting) (whole : AreWhole model one.keys) where
  module _ (u : SetId) (test : List Value → Bool) where
    abbrev passes : Entity → Bool
    passes entity = test (key_of model entity)

    -- those of numbers, the given ones and the plain ones whose keys pass
    abbrev pub picked_in : EntitySet → List Entity
    picked_in set = map (numbered model outer u set) (filter (λ n. test (numbered_key model outer u n)) (numbers_from 0 (number_count model)))
        ++ (filter passes (given_in one.given u) ++ map (plain model outer 0 set.element) (filter test (keys_in one.keys u)))

    module _ (set : EntitySet) (here : At model.sets u.index set) where
      -- a plain entity has its key
      plain_has : (key : List Value) → Contains (keys_in one.keys u) key → key_of model (plain model outer 0 set.element key) ≡ key
      plain_has key among = plain_key model has.sound outer 0 set.element key
          (whole.long u key among ∙ ap length (sym (keys_same model has.sound u set.element (asked_concrete model has.sound u set here 0) (set, here, itself set.element))))

      numbered_picked : filter passes (all_numbered model outer u set) ≡ map (numbered model outer u set) (filter (λ n. test (numbered_key model outer u n)) (numbers_from 0 (number_count model)))
      numbered_picked = filter_images (numbered model outer u set) passes (λ n. test (numbered_key model outer u n)) (numbers_from 0 (number_count model))
          (λ n among. ap test (numbered_has model outer has u set here n (smaller (number_count model) n among)))

      plain_picked : filter passes (map (plain model outer 0 set.element) (keys_in one.keys u)) ≡ map (plain model outer 0 set.element) (filter test (keys_in one.keys u))
      plain_picked = filter_images (plain model outer 0 set.element) passes test (keys_in one.keys u) (λ key among. ap test (plain_has key among))

      all_picked : filter passes (all_in model outer one.given one.keys u set) ≡ picked_in set
      all_picked =
          let plains : List Entity = map (plain model outer 0 set.element) (keys_in one.keys u) in
          filter-append passes (all_numbered model outer u set) (given_in one.given u ++ plains)
          ∙ ap (λ list. filter passes (all_numbered model outer u set) ++ list) (filter-append passes (given_in one.given u) plains)
          ∙ (λ k. numbered_picked k ++ (filter passes (given_in one.given u) ++ plain_picked k))

    -- the entities that stand in a set and whose keys pass
    pub picked : filter passes (stands_in model outer one.given one.keys u) ≡ option_map_or picked_in (slice_get model.sets u.index) []
    picked = by (slice_get model.sets u.index) refl
      where
        by : (found : Option EntitySet) → slice_get model.sets u.index ≡ found
            → filter passes (option_map_or (all_in model outer one.given one.keys u) found []) ≡ option_map_or picked_in found []
        by None none = refl
        by (Some set) here = all_picked set here

  -- the entities of the state with a key
  pub entities_picked : (placed : PlacedKey) → at_key model (state_of model outer one) placed ≡ entities_at model outer one placed
  entities_picked placed =
      ap (filter (λ entity. same_key (key_of model entity) placed.key)) (entities_are model outer one.given one.keys one.links placed.set)
      ∙ picked placed.set (λ key. same_key key placed.key)
