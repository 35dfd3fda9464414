-- Columns by their names: the ids of names, and what stands there.
use Rattle.std.proofs.Common.{◌≡◌, ℕ, ◌<◌, List, length, slice_get, All, Contains, Option, Some, None, option_map, refl, sym, ap, subst, ◌∙◌}
use Rattle.std.specs.List.{filter_map}
use Rattle.std.specs.Option.{option_and_then}
use Rattle.std.proofs.lemmas.Option.{slice_get_within}
use Rattle.emc_base.specs.Lists.{At, AreApart}
use Rattle.emc_base.proofs.Lists.{all_from_members, at_once}
use Rattle.graphs.proofs.base_chains.orders.Orders.{place_of_member}
use Rattle.round_trip.specs.Words.{ColId}
use Rattle.groupings.proofs.name_places.FirstPlaces.{first_has, first_upto, given_nowhere}
use Rattle.csdl_names.specs.declared.csdl_lists.raw.RawModel.{RawModel}
use Rattle.csdl_names.specs.declared.csdl_lists.raw.RawProp.{RawProp}
use Rattle.csdl_names.specs.declared.csdl_lists.raw.RawType.{RawType}
use Rattle.csdl_names.specs.csdl_lists.References.{names_in}
use Rattle.csdl_names.specs.declared.lookups.PropPlace.{PropPlace}
use Rattle.csdl_names.specs.PropPlaces.{own_prop, place_of_prop, prop_at, prop_of_type}
use Rattle.csdl_names.specs.Unresolved.{LacksProp, root}
use Rattle.emc_base.proofs.FoundItems.{map_some}
use Rattle.emc_base.proofs.Joined.{found_apart, in_found}
use Rattle.ssdl_model.specs.ssdl_lists.RawStore.{IsUnbased}
use Rattle.ssdl_model.specs.ssdl_making.StoreMeaning.{col_named, col_numbered}
use Rattle.ssdl_model.proofs.ssdl_sound.Unbased.{has_own, no_base}

-- the column of this name that a type declares stands at its id
pub record IsColumn (type : RawType) (name : List ℕ) (col : ColId) : Type 0 where
  pub column : RawProp
  pub is_column : At type.props col.index column
  pub is_name : column.name ≡ name
  pub is_place : place_of_prop type name ≡ Some col.index

module _ (raw : RawModel) (i : ℕ) (type : RawType) (here : At raw.types i type) where
  -- what a type declares of a name, by its place
  own_is : (name : List ℕ) → own_prop (names_in raw) raw i name ≡ option_map (λ (k : ℕ). record { owner = i; place = k }) (place_of_prop type name)
  own_is name = ap (λ (found : Option RawType). option_map (λ (k : ℕ). record { owner = i; place = k }) (option_and_then (λ type. place_of_prop type name) found)) here

  -- the id of a name, by that place
  col_is : (name : List ℕ) → col_named raw i name ≡ option_map col_numbered (place_of_prop type name)
  col_is name = ap (option_map (λ (found : PropPlace). col_numbered found.place)) (own_is name) ∙ by (place_of_prop type name)
    where
      by : (place : Option ℕ) → option_map (λ (found : PropPlace). col_numbered found.place) (option_map (λ (k : ℕ). record { owner = i; place = k }) place) ≡ option_map col_numbered place
      by None = refl
      by (Some k) = refl

  -- what has an id
  pub column_found : (name : List ℕ) (col : ColId) → col_named raw i name ≡ Some col → IsColumn type name col
  column_found name col is =
      let found = map_some col_numbered (place_of_prop type name) col (sym (col_is name) ∙ is) in
      let place : found.0 ≡ col.index = ap (λ (col : ColId). col.index) found.2 in
      let first = first_has (λ prop. prop.name) type.props name found.0 found.1 in
      let P : ℕ → Type 0 = λ k. At type.props k first.0 in
      record { column = first.0; is_column = subst P place first.1; is_name = first.2; is_place = found.1 ∙ ap Some place }

  -- no two names have one id
  pub one_name : (one other : List ℕ) (col : ColId) → col_named raw i one ≡ Some col → col_named raw i other ≡ Some col → one ≡ other
  one_name one other col first second =
      let a = column_found one col first in
      let b = column_found other col second in
      sym a.is_name ∙ ap (λ (column : RawProp). column.name) (at_once type.props col.index a.column b.column a.is_column b.is_column) ∙ b.is_name

  -- a column has an id by its name
  pub has_id : (column : RawProp) (name : List ℕ) → Contains type.props column → column.name ≡ name → (col : ColId) × (col_named raw i name ≡ Some col)
  has_id column name has same =
      let first = first_upto (λ prop. prop.name) type.props name has.0 column (place_of_member type.props column has) same in
      (col_numbered first.0, col_is name ∙ ap (option_map col_numbered) first.1)

  -- ids of names are in range
  pub ids_inside : (names : List (List ℕ)) → All (λ col. col.index < length type.props) (filter_map (col_named raw i) names)
  ids_inside names = all_from_members (λ (col : ColId). col.index < length type.props) (filter_map (col_named raw i) names) (λ col has.
      let name = in_found (col_named raw i) names col has in
      let it = column_found name.0 col name.2 in
      slice_get_within type.props col.index it.column it.is_column)

  -- and apart where the names are
  pub ids_apart : (names : List (List ℕ)) → AreApart names → AreApart (filter_map (col_named raw i) names)
  ids_apart = found_apart (col_named raw i) one_name

  module _ (unbased : IsUnbased raw) where
    -- V7: what isn't lacking has an id
    pub id_of : (name : List ℕ) → ¬ LacksProp (names_in raw) raw name i → (col : ColId) × (col_named raw i name ≡ Some col)
    id_of name has = by (place_of_prop type name) refl
      where
        by : (place : Option ℕ) → place_of_prop type name ≡ place → (col : ColId) × (col_named raw i name ≡ Some col)
        by None nowhere = absurd (has (root i type here (no_base raw unbased i type here) (λ declares.
            given_nowhere (λ prop. prop.name) type.props name declares.0 declares.1 nowhere (place_of_member type.props declares.1 (declares.0, declares.2, declares.3)) declares.4)))
        by (Some k) first = (col_numbered k, col_is name ∙ ap (option_map col_numbered) first)

    -- the property that a type has of a name is its column
    pub prop_is : (name : List ℕ) (col : ColId) (it : IsColumn type name col) → option_and_then (prop_at raw) (prop_of_type (names_in raw) raw i name) ≡ Some it.column
    prop_is name col it =
        ap (option_and_then (prop_at raw)) (has_own raw unbased i name (slice_get_within raw.types i type here) ∙ own_is name ∙ ap (option_map (λ (k : ℕ). record { owner = i; place = k })) it.is_place)
        ∙ ap (option_and_then (λ (type : RawType). slice_get type.props col.index)) here
        ∙ it.is_column
