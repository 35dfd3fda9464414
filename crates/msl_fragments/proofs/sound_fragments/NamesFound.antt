-- What stands at the places that names of types, properties and columns stand for. One property and one column has one name.
use Rattle.std.proofs.Common.{◌≡◌, ℕ, ◌<◌, Bool, true, false, List, [], length, slice_get, Contains, Option, Some, None, refl, sym, ap, subst, ◌∙◌}
use Rattle.std.specs.Option.{option_and_then, option_map_or}
use Rattle.std.specs.Str.{bytes_eq}
use Rattle.std.proofs.lemmas.Option.{slice_get_within}
use Rattle.std.proofs.lemmas.Slice.Eq.{bytes_eq-Decides}
use Rattle.emc_base.specs.Lists.{At}
use Rattle.emc_base.proofs.Lists.{at_once}
use Rattle.edm_types.specs.Forest.{type_numbered}
use Rattle.round_trip.specs.Words.{Column, EntityModel, Prop, PropId, StoreModel, Table, props_of}
use Rattle.round_trip.specs.soundness.Lookups.{columns_of}
use Rattle.groupings.specs.name_places.GivenNames.{first_place}
use Rattle.groupings.proofs.name_places.FirstPlaces.{first_has}
use Rattle.emc_base.proofs.FoundItems.{and_then_some}
use Rattle.emc_base.proofs.facts.Found.{found_passes}
use Rattle.schema_names.specs.SchemaNames.{column_named, has_name, local_name, prop_named, type_named}
use Rattle.msl_rules.specs.declared.msl_lists.raw.RawPick.{RawPick}
use Rattle.msl_rules.specs.Found.{prop_of_picks, table_numbered}

-- what passes where there is something
passes_some : {X : Type 0} (test : X → Bool) (found : Option X) → option_map_or test found false ≡ true → (x : X) × (found ≡ Some x) × (test x ≡ true)
passes_some test None passes = absurd cc
passes_some test (Some x) passes = (x, refl, passes)

module _ (model : EntityModel) where
  -- a type that is found is one of the model's
  pub type_inside : (text : List ℕ) (t : ℕ) → type_named model text ≡ Some t → t < length model.types
  type_inside text t is =
      let name = and_then_some (first_place (λ type. type.name) model.types) (local_name model text) t is in
      let first = first_has (λ type. type.name) model.types name.0 t name.2 in
      slice_get_within model.types t first.0 first.1

  -- a property that is found is one of the type's
  pub prop_of_type : (t : ℕ) (name : List ℕ) (prop : PropId) → prop_named model t name ≡ Some prop → Contains (props_of model (type_numbered t)) prop
  prop_of_type t name prop is = (found_passes (has_name model name) (props_of model (type_numbered t)) prop is).0

  -- and stands in the model with its name
  pub prop_here : (t : ℕ) (name : List ℕ) (prop : PropId) → prop_named model t name ≡ Some prop → (declared : Prop) × At model.props prop.index declared × (declared.name ≡ name)
  prop_here t name prop is =
      let passes = (found_passes (has_name model name) (props_of model (type_numbered t)) prop is).1 in
      let some = passes_some (λ declared. bytes_eq name declared.name) (slice_get model.props prop.index) passes in
      (some.0, some.1, sym ((bytes_eq-Decides name some.0.name).0 some.2))

-- the property that the type of the first pick has of a name
pub record IsOfFirst (model : EntityModel) (picks : List RawPick) (name : List ℕ) (prop : PropId) : Type 0 where
  pub pick : RawPick
  pub is_first : slice_get picks 0 ≡ Some pick
  pub t : ℕ
  pub is_type : type_named model pick.reference ≡ Some t
  pub is_prop : prop_named model t name ≡ Some prop

module _ (model : EntityModel) (picks : List RawPick) where
  -- which is what a name stands for
  pub of_first : (name : List ℕ) (prop : PropId) → prop_of_picks model picks name ≡ Some prop → IsOfFirst model picks name prop
  of_first name prop is =
      let pick = and_then_some (λ (pick : RawPick). option_and_then (λ t. prop_named model t name) (type_named model pick.reference)) (slice_get picks 0) prop is in
      let type = and_then_some (λ t. prop_named model t name) (type_named model pick.0.reference) prop pick.2 in
      record { pick = pick.0; is_first = pick.1; t = type.0; is_type = type.1; is_prop = type.2 }

  -- it is one of the model's
  pub prop_inside : (name : List ℕ) (prop : PropId) → prop_of_picks model picks name ≡ Some prop → prop.index < length model.props
  prop_inside name prop is =
      let it = of_first name prop is in
      let here = prop_here model it.t name prop it.is_prop in
      slice_get_within model.props prop.index here.0 here.1

  -- and has one name
  pub one_prop_name : (one other : List ℕ) (prop : PropId) → prop_of_picks model picks one ≡ Some prop → prop_of_picks model picks other ≡ Some prop → one ≡ other
  one_prop_name one other prop first second =
      let a = of_first one prop first in
      let b = of_first other prop second in
      let here = prop_here model a.t one prop a.is_prop in
      let there = prop_here model b.t other prop b.is_prop in
      sym here.2 ∙ ap (λ (declared : Prop). declared.name) (at_once model.props prop.index here.0 there.0 here.1 there.1) ∙ there.2

module _ (store : StoreModel) (t : ℕ) where
  -- a column that is found stands in the table with its name
  col_here : (name : List ℕ) (c : ℕ) → column_named store t name ≡ Some c → (column : Column) × At (columns_of store (table_numbered t)) c column × (column.name ≡ name)
  col_here name c is =
      let table = and_then_some (λ (table : Table). first_place (λ col. col.name) table.cols name) (slice_get store.tables t) c is in
      let first = first_has (λ col. col.name) table.0.cols name c table.2 in
      let cols : columns_of store (table_numbered t) ≡ table.0.cols = ap (λ (found : Option Table). option_map_or (λ entry. entry.cols) found []) table.1 in
      let P : List Column → Type 0 = λ cols. At cols c first.0 in
      (first.0, subst P (sym cols) first.1, first.2)

  -- it is one of the table's
  pub col_inside : (name : List ℕ) (c : ℕ) → column_named store t name ≡ Some c → c < length (columns_of store (table_numbered t))
  col_inside name c is = let here = col_here name c is in slice_get_within (columns_of store (table_numbered t)) c here.0 here.1

  -- and has one name
  pub one_col_name : (one other : List ℕ) (c : ℕ) → column_named store t one ≡ Some c → column_named store t other ≡ Some c → one ≡ other
  one_col_name one other c first second =
      let here = col_here one c first in
      let there = col_here other c second in
      sym here.2 ∙ ap (λ (column : Column). column.name) (at_once (columns_of store (table_numbered t)) c here.0 there.0 here.1 there.1) ∙ there.2
