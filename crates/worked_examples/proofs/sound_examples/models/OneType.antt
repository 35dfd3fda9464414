-- Models of one type, which has no base.
use Rattle.std.proofs.Common.{◌≡◌, ℕ, List, [], ◌∷◌, refl, arith}
use Rattle.std.specs.Prelude.{Bool, bytes_eq, None, true}
use Rattle.std.specs.List.{AllByRecursion}
use Rattle.round_trip.specs.Words.{PropId, EntityModel, EntityType, Prop, Assoc}
use Rattle.edm_types.specs.IsA.{same}
use Rattle.edm_types.specs.declared.model.TypeNode as node
use Rattle.edm_types.specs.declared.model.TypeNode.TheBlock as block
use Rattle.worked_examples.specs.Ids.{type_id, leaf, set_of, concrete_type, model_of}
use Rattle.worked_examples.proofs.facts.Small.{here}
use Rattle.round_trip.specs.soundness.models.ModelNames.{own_names}
use Rattle.round_trip.specs.soundness.models.Inheritance.{HasInheritedProps}
use Rattle.round_trip.specs.soundness.Kinds.{IsSoundKind}
use Rattle.round_trip.specs.soundness.models.Constraints.{IsSoundAssoc}
use Rattle.round_trip.specs.soundness.models.Models.{IsSoundModel}
use Rattle.worked_examples.proofs.sound_examples.Tests.{all_true, each_true, are_new}
use Rattle.worked_examples.proofs.sound_examples.models.Models.{ForestFacts, FallsBack, IsPart, id_tests, name_tests, key_tests, root_type, model_from}

module _ (name : List ℕ) (key own : List PropId) (props : List Prop) (set_name : List ℕ) (assocs : List Assoc) where
  -- the type by its name, key and properties
  abbrev only_type : EntityType
  only_type = concrete_type name None key own

  -- one set of entities of the type
  abbrev one_type : EntityModel
  one_type = model_of (only_type ∷ []) props (leaf (type_id 0) ∷ []) (set_of set_name (type_id 0) ∷ []) assocs

  forest : ForestFacts one_type (leaf (type_id 0) ∷ [])
  unfolding node.out-TypeNode denote.Hole.Carrier.out block.shown-the_row-TypeNode-0 denote.Hole.Carrier.shown
  forest = record { roots = refl; tops = (here (leaf (type_id 0)) [], tt); lower = (tt, tt); ids = (omega arith, tt); each = ((refl, refl), tt) }

  -- ids, names and key
  abbrev pub one_type_tests : List Bool
  one_type_tests = all_true (all_true (id_tests one_type) ∷ all_true (name_tests one_type) ∷ []) ∷ are_new bytes_eq (own_names one_type (type_id 0) only_type)
      ∷ all_true (key_tests one_type (type_id 0) key) ∷ []

  pub one_type_sound : all_true one_type_tests ≡ true → HasInheritedProps one_type (type_id 0) only_type → AllByRecursion (IsPart one_type) key
      → AllByRecursion (λ prop. IsSoundKind prop.kind) props → AllByRecursion (IsSoundAssoc one_type) assocs → AllByRecursion (FallsBack one_type) assocs → IsSoundModel one_type
  one_type_sound tests props_are parts kinds linked falls =
      let told = each_true one_type_tests tests in
      model_from one_type (leaf (type_id 0) ∷ []) (tt, tt) told.0 (record {
        forest = forest;
        others = ((told.1.0, tt), tt);
        types = (root_type one_type (type_id 0) only_type refl props_are told.1.1.0 parts, tt);
        kinds = kinds;
        elements = ((type_id 0, (only_type, refl, refl), same (type_id 0)), tt);
        linked = linked;
        falls = falls;
      })
