-- Foreign keys by the sides of the constraints that mean them. V7.
use Rattle.std.proofs.Common.{◌≡◌, ℕ, List, All, Some, sym, ap, subst, ◌∙◌}
use Rattle.std.specs.List.{filter_map}
use Rattle.std.specs.Option.{option_and_then}
use Rattle.std.proofs.lemmas.Option.{same_Some}
use Rattle.emc_base.specs.Lists.{At}
use Rattle.emc_base.proofs.Lists.{all_from_members}
use Rattle.graphs.proofs.base_chains.orders.Orders.{place_of_member}
use Rattle.edm_types.specs.declared.store.ForeignKey.{ForeignKey}
use Rattle.round_trip.specs.Words.{ColId, TableId}
use Rattle.csdl_names.specs.declared.csdl_lists.raw.RawAssociation.{RawAssociation}
use Rattle.csdl_names.specs.declared.csdl_lists.raw.RawConstraint.{RawConstraint}
use Rattle.csdl_names.specs.declared.csdl_lists.raw.RawEnd.{RawEnd}
use Rattle.csdl_names.specs.declared.csdl_lists.raw.RawModel.{RawModel}
use Rattle.csdl_names.specs.declared.csdl_lists.raw.RawRole.{RawRole}
use Rattle.csdl_names.specs.csdl_lists.References.{names_in}
use Rattle.csdl_names.specs.Unresolved.{LacksProp, end_of_role, type_of_role}
use Rattle.groupings.proofs.name_places.Finds.{found_named}
use Rattle.emc_base.proofs.FoundItems.{map_some}
use Rattle.emc_base.proofs.Joined.{in_found}
use Rattle.csdl_meaning.proofs.kept.Resolved.{dependent_end_found, dependent_has, principal_end_found, principal_has, type_found}
use Rattle.ssdl_model.specs.ssdl_lists.Tables.{table_of}
use Rattle.ssdl_model.specs.ssdl_making.StoreMeaning.{key_meant, key_of_association, store_meaning, table_numbered}
use Rattle.ssdl_model.specs.ssdl_sound.SoundStore.{KeepsStoreRules}
use Rattle.ssdl_model.proofs.ssdl_sound.tables.ColumnIds.{id_of}
use Rattle.ssdl_model.proofs.ssdl_sound.keys.KeySides.{IsSide, cols_are, side_cols, table_at_is}
use Rattle.ssdl_model.proofs.ssdl_sound.tables.MeantTables.{typed_by}
use Rattle.ssdl_model.proofs.ssdl_sound.tables.TablesFound.{table_found, table_has}

-- a foreign key by its parts
abbrev pub key_by : List ℕ → TableId → List ColId → TableId → List ColId → ForeignKey
key_by name from from_cols to to_cols = record { name = name; from = from; from_cols = from_cols; to = to; to_cols = to_cols }

-- an association with a constraint, and its two sides
pub record IsKeyed (raw : RawModel) (association : RawAssociation) (constraint : RawConstraint) : Type 0 where
  pub number : ℕ
  pub is_association : At raw.associations number association
  pub has_constraint : association.constraint ≡ Some constraint
  pub dependent : IsSide raw association constraint.dependent
  pub principal : IsSide raw association constraint.principal

-- the foreign key that it means
abbrev pub keyed_by : {raw : RawModel} {association : RawAssociation} {constraint : RawConstraint} → IsKeyed raw association constraint → ForeignKey
keyed_by {association = association} it = key_by association.name (table_numbered it.dependent.place) (side_cols it.dependent) (table_numbered it.principal.place) (side_cols it.principal)

key_meant_is : {raw : RawModel} {association : RawAssociation} {constraint : RawConstraint} (it : IsKeyed raw association constraint) → key_meant raw association constraint ≡ keyed_by it
key_meant_is {association = association} it =
    λ k. key_by association.name (table_at_is it.dependent k) (cols_are it.dependent k) (table_at_is it.principal k) (cols_are it.principal k)

module _ (raw : RawModel) (keeps : KeepsStoreRules raw) where
  -- a side whose end is found, and whose names the type there has
  side_by : (i : ℕ) (association : RawAssociation) → At raw.associations i association → (side : RawRole) (end : RawEnd) → end_of_role association side.role ≡ Some end
      → ((t : ℕ) → type_of_role (names_in raw) raw association side.role ≡ Some t → (k : ℕ) (name : List ℕ) → At side.props k name → ¬ LacksProp (names_in raw) raw name t)
      → IsSide raw association side
  side_by i association here side end is has =
      let at = found_named (λ end. end.role) side.role association.ends end is in
      let type = type_found raw keeps.resolves_all i association here at.0 end at.1 in
      let table = table_found raw keeps.ends_at_tables i association here at.0 end at.1 type.0 type.1 in
      let set = table_has raw type.0 table.0 table.1 in
      let typed = typed_by raw keeps set.0 type.0 set.2 in
      let same = same_Some typed.place type.0 (sym typed.is_place ∙ set.2) in
      let of_role = ap (option_and_then (λ (end : RawEnd). (names_in raw).type_named end.ty)) is ∙ type.1 ∙ ap Some (sym same) in
      record {
        place = table.0;
        set = set.0;
        is_set = set.1;
        typed = typed;
        is_table = ap (table_of (names_in raw) raw) same ∙ table.1;
        of_role = of_role;
        ids = λ name there. id_of raw typed.place typed.type typed.is_type keeps.unbased name (has typed.place of_role there.0 name (place_of_member side.props name there));
      }

  -- V7: the sides of a constraint
  keyed : (i : ℕ) (association : RawAssociation) → At raw.associations i association → (constraint : RawConstraint) → association.constraint ≡ Some constraint → IsKeyed raw association constraint
  keyed i association here constraint is =
      let dependent = dependent_end_found raw keeps.resolves_all i association here constraint is in
      let principal = principal_end_found raw keeps.resolves_all i association here constraint is in
      record {
        number = i;
        is_association = here;
        has_constraint = is;
        dependent = side_by i association here constraint.dependent dependent.0 dependent.1 (dependent_has raw keeps.resolves_all i association here constraint is);
        principal = side_by i association here constraint.principal principal.0 principal.1 (principal_has raw keeps.resolves_all i association here constraint is);
      }

  -- what holds of each foreign key by the sides of its constraint
  pub of_each_key : (P : ForeignKey → Type 0) → ((association : RawAssociation) (constraint : RawConstraint) (it : IsKeyed raw association constraint) → P (keyed_by it)) → All P (store_meaning raw).keys
  of_each_key P holds = all_from_members P (filter_map (key_of_association raw) raw.associations) (λ key has.
      let association = in_found (key_of_association raw) raw.associations key has in
      let constraint = map_some (key_meant raw association.0) association.0.constraint key association.2 in
      let it = keyed association.1.0 association.0 (place_of_member raw.associations association.0 association.1) constraint.0 constraint.1 in
      subst P (sym (key_meant_is it) ∙ constraint.2) (holds association.0 constraint.0 it))
