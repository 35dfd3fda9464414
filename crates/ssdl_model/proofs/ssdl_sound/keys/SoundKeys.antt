-- Foreign keys: their names, their ids, and that they are sound. V6, V24, V25.
use Rattle.std.proofs.Common.{◌≡◌, ◌≢◌, ℕ, List, [], map, All, Contains, Option, Some, sym, ap, subst, ◌∙◌}
use Rattle.std.specs.List.{filter_map}
use Rattle.std.specs.Option.{option_and_then, unwrap_or}
use Rattle.std.proofs.lemmas.Option.{same_Some, slice_get_within}
use Rattle.emc_base.specs.Lists.{At, AreApart, HoldsEachOnce}
use Rattle.emc_base.proofs.Lists.{at_once}
use Rattle.edm_types.specs.declared.store.ForeignKey.{ForeignKey}
use Rattle.round_trip.specs.Words.{ColId, TableId}
use Rattle.round_trip.specs.soundness.Stores.{HasForeignIds, HasMatchedColumns, IsSoundForeignKey, PointsElsewhere}
use Rattle.csdl_names.specs.declared.csdl_lists.raw.RawAssociation.{RawAssociation}
use Rattle.csdl_names.specs.declared.csdl_lists.raw.RawConstraint.{RawConstraint}
use Rattle.csdl_names.specs.declared.csdl_lists.raw.RawModel.{RawModel}
use Rattle.csdl_names.specs.declared.csdl_lists.raw.RawSet.{RawSet}
use Rattle.csdl_names.specs.declared.csdl_lists.raw.RawType.{RawType}
use Rattle.csdl_names.specs.csdl_lists.References.{names_in}
use Rattle.csdl_types.specs.declared.simple.PropType.{PropType}
use Rattle.emc_base.proofs.FoundItems.{found_each_once, pairs_found, same_found, map_some}
use Rattle.csdl_meaning.proofs.kept.Given.{associations_apart}
use Rattle.emc_base.proofs.Joined.{apart-map}
use Rattle.csdl_meaning.proofs.types.PropKinds.{kind_named}
use Rattle.ssdl_model.specs.ssdl_making.StoreMeaning.{col_named, key_meant, key_of_association, store_meaning, table_numbered}
use Rattle.ssdl_model.specs.ssdl_sound.SoundStore.{KeepsStoreRules}
use Rattle.ssdl_model.proofs.ssdl_sound.tables.ColumnIds.{ids_apart, one_name}
use Rattle.ssdl_model.proofs.ssdl_sound.keys.KeptKeys.{dependents_apart, elsewhere, types_match, whole_key}
use Rattle.ssdl_model.proofs.ssdl_sound.keys.KeySides.{cols_inside, key_is, side_cols, side_kinds, table_inside}
use Rattle.ssdl_model.proofs.ssdl_sound.keys.MeantKeys.{IsKeyed, keyed_by, of_each_key}
use Rattle.ssdl_model.proofs.ssdl_sound.Unbased.{key_is_own}

module _ (raw : RawModel) (keeps : KeepsStoreRules raw) where
  -- V6: foreign keys have the names of their associations, so different ones
  pub keys_apart : AreApart (map (λ key. key.name) (store_meaning raw).keys)
  keys_apart = apart-map (λ key. key.name) (store_meaning raw).keys
      (pairs_found (key_of_association raw) (λ (one other : RawAssociation). one.name ≢ other.name) (λ (key other : ForeignKey). key.name ≢ other.name) named raw.associations
      (associations_apart raw keeps.repeats_none))
    where
      name_is : (association : RawAssociation) (key : ForeignKey) → key_of_association raw association ≡ Some key → association.name ≡ key.name
      name_is association key is = ap (λ (key : ForeignKey). key.name) (map_some (key_meant raw association) association.constraint key is).2

      named : (one other : RawAssociation) (key next : ForeignKey) → key_of_association raw one ≡ Some key → key_of_association raw other ≡ Some next → one.name ≢ other.name → key.name ≢ next.name
      named one other key next first second differ same = differ (name_is one key first ∙ same ∙ sym (name_is other next second))

  module _ (association : RawAssociation) (constraint : RawConstraint) (it : IsKeyed raw association constraint) where
    -- its ids are in range
    foreign_ids : HasForeignIds (store_meaning raw) (keyed_by it)
    foreign_ids = record { from = table_inside it.dependent; to = table_inside it.principal; from_cols = cols_inside it.dependent; to_cols = cols_inside it.principal }

    -- the key of the principal's type has the names of the key of its table
    names_are : HoldsEachOnce it.principal.typed.key constraint.principal.props
    names_are =
        let P : List (List ℕ) → Type 0 = λ names. HoldsEachOnce names constraint.principal.props in
        subst P
        (key_is_own raw keeps.unbased it.principal.typed.place (slice_get_within raw.types it.principal.typed.place it.principal.typed.type it.principal.typed.is_type)
        ∙ ap (λ (found : Option RawType). unwrap_or (option_and_then (λ type. type.key) found) []) it.principal.typed.is_type
        ∙ ap (λ (key : Option (List (List ℕ))). unwrap_or key []) it.principal.typed.has_key)
        (whole_key raw keeps.keeps_tables it.number association it.is_association constraint it.has_constraint it.principal.typed.place it.principal.of_role)

    -- V24
    matched : HasMatchedColumns (store_meaning raw) (keyed_by it)
    matched = record {
      whole = let P : List ColId → Type 0 = λ cols. HoldsEachOnce cols (side_cols it.principal) in
          subst P (sym (key_is it.principal))
          (found_each_once (col_named raw it.principal.typed.place) (one_name raw it.principal.typed.place it.principal.typed.type it.principal.typed.is_type) it.principal.typed.key constraint.principal.props names_are);
      once = ids_apart raw it.dependent.typed.place it.dependent.typed.type it.dependent.typed.is_type constraint.dependent.props
          (dependents_apart raw keeps.keeps_tables it.number association it.is_association constraint it.has_constraint);
      kinds =
          side_kinds it.dependent keeps.unbased
          ∙ ap (map (λ (type : Option PropType). Some (kind_named raw type))) (sym (types_match raw keeps.keeps_tables it.number association it.is_association constraint it.has_constraint))
          ∙ sym (side_kinds it.principal keeps.unbased);
    }

    -- tables that are one have one type
    same_type : table_numbered it.dependent.place ≡ table_numbered it.principal.place → it.dependent.typed.place ≡ it.principal.typed.place
    same_type same =
        let P : ℕ → Type 0 = λ k. At raw.container.sets k it.dependent.set in
        let place : it.dependent.place ≡ it.principal.place = ap (λ (table : TableId). table.index) same in
        let set : it.dependent.set ≡ it.principal.set = at_once raw.container.sets it.principal.place it.dependent.set it.principal.set (subst P place it.dependent.is_set) it.principal.is_set in
        same_Some it.dependent.typed.place it.principal.typed.place
        (sym it.dependent.typed.is_place ∙ ap (λ (set : RawSet). (names_in raw).type_named set.element) set ∙ it.principal.typed.is_place)

    -- columns that are the same have the same names
    same_names : it.dependent.typed.place ≡ it.principal.typed.place → side_cols it.dependent ≡ side_cols it.principal → constraint.dependent.props ≡ constraint.principal.props
    same_names type same =
        let P : ℕ → Type 0 = λ t. (name : List ℕ) → Contains constraint.dependent.props name → (col : ColId) × (col_named raw t name ≡ Some col) in
        same_found (col_named raw it.principal.typed.place) (one_name raw it.principal.typed.place it.principal.typed.type it.principal.typed.is_type) constraint.dependent.props constraint.principal.props
        (subst P type it.dependent.ids) it.principal.ids
        (ap (λ (t : ℕ). filter_map (col_named raw t) constraint.dependent.props) (sym type) ∙ same)

    -- V25
    points_elsewhere : PointsElsewhere (keyed_by it)
    points_elsewhere both =
        let type = same_type both.0 in
        elsewhere raw keeps.keeps_tables it.number association it.is_association constraint it.has_constraint
        (it.principal.of_role ∙ ap Some (sym type) ∙ sym it.dependent.of_role, sym (same_names type both.1))

    -- V24, V25
    sound_key : IsSoundForeignKey (store_meaning raw) (keyed_by it)
    sound_key = record { columns = matched; elsewhere = points_elsewhere }

  -- the same of all foreign keys
  pub keys_inside : All (HasForeignIds (store_meaning raw)) (store_meaning raw).keys
  keys_inside = of_each_key raw keeps (HasForeignIds (store_meaning raw)) foreign_ids

  pub sound_keys : All (IsSoundForeignKey (store_meaning raw)) (store_meaning raw).keys
  sound_keys = of_each_key raw keeps (IsSoundForeignKey (store_meaning raw)) sound_key
