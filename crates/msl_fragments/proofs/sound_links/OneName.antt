-- Names that stand for one thing are one name.
use Rattle.std.proofs.Common.{◌≡◌, ℕ, List, [], ◌∷◌, Bool, true, false, cond, find, slice_get, Contains, Option, Some, None, refl, sym, ap, subst, ◌∙◌}
use Rattle.std.specs.Option.{option_and_then, option_map_or}
use Rattle.std.specs.Str.{bytes_eq}
use Rattle.std.proofs.lemmas.Option.{same_Some}
use Rattle.std.proofs.lemmas.Slice.Eq.{bytes_eq-Decides}
use Rattle.emc_base.specs.Lists.{At}
use Rattle.emc_base.proofs.Lists.{at_once}
use Rattle.emc_base.proofs.Members.{contains_head, contains_tail}
use Rattle.edm_types.specs.Forest.{type_numbered}
use Rattle.round_trip.specs.Words.{EntityModel, Prop, PropId, StoreModel, Table, props_of}
use Rattle.groupings.specs.name_places.GivenNames.{first_place}
use Rattle.groupings.proofs.name_places.FirstPlaces.{first_has}
use Rattle.schema_names.specs.SchemaNames.{column_named, has_name, prop_named}

-- two names that are first given at one place
pub one_place : {X : Type 0} (name_in : X → List ℕ) (items : List X) (one other : List ℕ) (i : ℕ)
    → first_place name_in items one ≡ Some i → first_place name_in items other ≡ Some i → one ≡ other
one_place name_in items one other i first second =
    let a = first_has name_in items one i first in
    let b = first_has name_in items other i second in
    sym a.2 ∙ ap name_in (at_once items i a.0 b.0 a.1 b.1) ∙ b.2

-- what is found stands in the list, and passes
pub found_passes : {X : Type 0} (p : X → Bool) (xs : List X) (x : X) → find p xs ≡ Some x → Contains xs x × (p x ≡ true)
found_passes p [] x is = absurd cc
found_passes {X} p (y ∷ xs) x is = by (p y) refl is (λ later. let found = found_passes p xs x later in (contains_tail y xs x found.0, found.1))
  where
    by : (passes : Bool) → p y ≡ passes → cond passes (Some y) (find p xs) ≡ Some x → (find p xs ≡ Some x → Contains (y ∷ xs) x × (p x ≡ true))
        → Contains (y ∷ xs) x × (p x ≡ true)
    by true passes this rest =
        let same : y ≡ x = same_Some y x this in
        let P : X → Type 0 = λ z. Contains (y ∷ xs) z × (p z ≡ true) in
        subst P same (contains_head y xs, passes)
    by false fails later rest = rest later

module _ (model : EntityModel) where
  -- a property of a name stands in the model, with the name
  pub has_named : (name : List ℕ) (prop : PropId) → has_name model name prop ≡ true → (declared : Prop) × At model.props prop.index declared × (name ≡ declared.name)
  has_named name prop has = by (slice_get model.props prop.index) refl has
    where
      by : (found : Option Prop) → slice_get model.props prop.index ≡ found → option_map_or (λ declared. bytes_eq name declared.name) found false ≡ true
          → (declared : Prop) × At model.props prop.index declared × (name ≡ declared.name)
      by None none passes = absurd cc
      by (Some declared) here passes = (declared, here, (bytes_eq-Decides name declared.name).0 passes)

  -- the property that a type has of a name
  pub named_prop : (t : ℕ) (name : List ℕ) (prop : PropId) → prop_named model t name ≡ Some prop
      → (declared : Prop) × At model.props prop.index declared × (name ≡ declared.name)
  named_prop t name prop is = has_named name prop (found_passes (has_name model name) (props_of model (type_numbered t)) prop is).1

  -- two names of one property
  pub one_prop : (t : ℕ) (one other : List ℕ) (prop : PropId) → prop_named model t one ≡ Some prop → prop_named model t other ≡ Some prop → one ≡ other
  one_prop t one other prop first second =
      let a = named_prop t one prop first in
      let b = named_prop t other prop second in
      a.2 ∙ ap (λ (declared : Prop). declared.name) (at_once model.props prop.index a.0 b.0 a.1 b.1) ∙ sym b.2

-- the column of a name stands in the table
pub named_column : (store : StoreModel) (t : ℕ) (name : List ℕ) (c : ℕ) → column_named store t name ≡ Some c
    → (table : Table) × At store.tables t table × (first_place (λ col. col.name) table.cols name ≡ Some c)
named_column store t name c = by (slice_get store.tables t) refl
  where
    by : (found : Option Table) → slice_get store.tables t ≡ found → option_and_then (λ table. first_place (λ col. col.name) table.cols name) found ≡ Some c
        → (table : Table) × At store.tables t table × (first_place (λ col. col.name) table.cols name ≡ Some c)
    by None none is = absurd cc
    by (Some table) here is = (table, here, is)
