-- Items: conditions on a property, which is a whole number or an enumeration.
use Rattle.std.proofs.Common.{[], ◌∷◌, refl, arith}
use Rattle.std.proofs.lemmas.Int.{ints}
use Rattle.std.specs.Prelude.{pos, ℤ, ℕ, ◌<ℤ◌, Contains, codes}
use Rattle.round_trip.specs.Words.{Whole, Kind, InDomain}
use Rattle.emc_base.specs.declared.value.Kind.TheVariants as kind
use Rattle.edm_types.specs.declared.mapping.CondOn.TheVariants as on
use Rattle.edm_types.specs.IsA.{same}
use Rattle.worked_examples.specs.Ids.{type_id, set_id, prop_id, table_id, needed}
use Rattle.worked_examples.specs.people.People.{id_prop}
use Rattle.worked_examples.specs.LevelLost.{items_set, level_is, level_one, level_two, items}
use Rattle.worked_examples.proofs.facts.Small.{all_pairs}
use Rattle.round_trip.specs.soundness.Kinds.{IsBinary, IsSoundKind}
use Rattle.round_trip.specs.soundness.models.Models.{IsSoundModel}
use Rattle.round_trip.specs.soundness.mappings.Mappings.{IsSoundFragment, IsSoundSchema}
use Rattle.round_trip.specs.soundness.mappings.Owners.{set}
use Rattle.worked_examples.specs.sound_examples.Items.{items_model, items_of, levels, three_levels, one_level}
use Rattle.worked_examples.proofs.sound_examples.Lists.{all, not_among}
use Rattle.worked_examples.proofs.sound_examples.models.OneType.{one_type_sound}
use Rattle.worked_examples.proofs.sound_examples.mappings.Schemas.{mapping_from}
use Rattle.worked_examples.proofs.sound_examples.mappings.FragmentFacts.{Compares, fragment_from, compares}
use Rattle.worked_examples.proofs.sound_examples.stores.SoundStores as stores

module _ (level : Kind) (simple : ¬ IsBinary level) where
  sound_model : IsSoundKind level → IsSoundModel (items_model level)
  sound_model sound = one_type_sound (codes "Item") (prop_id 0 ∷ []) (prop_id 0 ∷ prop_id 1 ∷ []) (id_prop ∷ needed (type_id 0) (codes "Level") level ∷ []) (codes "Items") []
      refl refl ((tt, refl), tt) (tt, (sound, tt)) tt tt

  compares_level : (table : ℕ) (number : ℤ) → InDomain (Whole number) level → Compares (items_of level) (table_id table) (level_is number)
  compares_level table number lies = compares (items_of level) refl refl (table_id table) (on.Prop (prop_id 1)) (Whole number) level refl lies simple

  first : InDomain (Whole (pos 1)) level → IsSoundFragment (items_of level) level_one
  first lies = fragment_from (items_of level) level_one refl ((items_set, refl, same (type_id 0)), tt) (((λ e. e), refl), tt) (compares_level 0 (pos 1) lies, tt)

  second : InDomain (Whole (pos 2)) level → IsSoundFragment (items_of level) level_two
  second lies = fragment_from (items_of level) level_two refl ((items_set, refl, same (type_id 0)), tt) (((λ e. e), refl), tt) (compares_level 1 (pos 2) lies, tt)

  pub sound : IsSoundKind level → InDomain (Whole (pos 1)) level → InDomain (Whole (pos 2)) level → IsSoundSchema (items_of level)
  sound sound_kind one two = record {
    model = sound_model sound_kind;
    store = stores.items;
    mapping = mapping_from (items_of level) (λ t c. prop_id 0) (λ t. set (set_id 0)) refl ((first one, (refl, refl)), ((second two, (refl, refl)), tt)) tt;
  }

pub whole_sound : IsSoundSchema items
whole_sound = sound kind.Int32 (λ e. e) tt (omega (arith, ints), omega (arith, ints)) (omega (arith, ints), omega (arith, ints))

sound_levels : IsSoundKind (levels (pos 1 ∷ pos 2 ∷ pos 3 ∷ []))
sound_levels = record {
  some = λ e. absurd (cc);
  rising = all_pairs (λ one next. one <ℤ next) (pos 1 ∷ pos 2 ∷ pos 3 ∷ []) ((omega (arith, ints), (omega (arith, ints), tt)), ((omega (arith, ints), tt), (tt, tt)));
  within = all (λ number. InDomain (Whole number) kind.Int32) (pos 1 ∷ pos 2 ∷ pos 3 ∷ [])
      ((omega (arith, ints), omega (arith, ints)), ((omega (arith, ints), omega (arith, ints)), ((omega (arith, ints), omega (arith, ints)), tt)));
}

pub enum_sound : IsSoundSchema three_levels
enum_sound = sound (levels (pos 1 ∷ pos 2 ∷ pos 3 ∷ [])) (λ e. e) sound_levels (0, omega arith, refl) (1, omega arith, refl)

pub no_one_level : ¬ IsSoundSchema one_level
no_one_level sound_schema =
    let among : Contains (pos 1 ∷ []) (pos 2)
    = ((sound_schema.mapping.fragments 1 level_two (omega arith)).constants 0 (level_is (pos 2)) (omega arith) (Whole (pos 2)) refl (levels (pos 1 ∷ [])) refl).0 in
    not_among (pos 1 ∷ []) (pos 2) ((λ e. absurd (omega (arith, ints, e))), tt) among
