-- What a document means is sound, as far as types and properties go, where it keeps the rules.
use Rattle.std.proofs.Common.{◌≡◌, ℕ, List, [], All, Option, Some, None, sym, ap, ◌∙◌}
use Rattle.std.specs.List.{filter_map}
use Rattle.std.specs.Option.{option_and_then, unwrap_or}
use Rattle.emc_base.specs.Lists.{At}
use Rattle.round_trip.specs.Words.{EntityModel, TypeId}
use Rattle.round_trip.specs.soundness.models.Inheritance.{IsRootKey}
use Rattle.round_trip.specs.soundness.Kinds.{IsSoundKind}
use Rattle.csdl_names.specs.declared.csdl_lists.raw.RawModel.{RawModel}
use Rattle.csdl_names.specs.declared.csdl_lists.raw.RawType.{RawType}
use Rattle.csdl_names.specs.csdl_lists.References.{names_in}
use Rattle.csdl_meaning.specs.Meaning.{IsMeant, base_in, own_key, prop_named}
use Rattle.csdl_meaning.specs.SoundTypes.{HasSoundTypes, KeepsTypeRules}
use Rattle.csdl_meaning.proofs.types.Bases.{no_circle}
use Rattle.emc_base.proofs.FoundItems.{and_then_some}
use Rattle.csdl_meaning.proofs.types.Ids.{bases_inside, keys_inside, owners_inside, props_inside}
use Rattle.csdl_meaning.proofs.types.Keys.{inherited_key, key_props_sound, own_key_is, root_key}
use Rattle.csdl_meaning.proofs.kept.KeptNames.{key_declared, members_once, no_reference, types_once}
use Rattle.csdl_meaning.proofs.kept.KeptTypes.{derived_has_none, fits_bound, fits_enum, fits_key, none_above_itself, none_inherited, root_has_key}
use Rattle.csdl_meaning.proofs.types.Names.{distinct_members, types_apart}
use Rattle.csdl_meaning.proofs.types.Props.{inherited_props, of_each_prop}
use Rattle.csdl_meaning.proofs.types.SoundKinds.{sound_kind}

module _ (raw : RawModel) (model : EntityModel) (keeps : KeepsTypeRules raw) (meant : IsMeant raw model) where
  -- the key of a type without a base type
  own_root_key : (t : TypeId) (type : RawType) → At raw.types t.index type → base_in raw t.index ≡ None → IsRootKey model t (own_key raw t.index)
  own_root_key t type here none =
      let unnamed = no_reference raw keeps.resolves_all t.index type here none in
      let key = root_has_key raw keeps.keeps_types t.index type here unnamed in
      root_key raw model meant t type key.0 here key.1 key.2.some key.2.few key.2.once (key_declared raw keeps.resolves_all t.index type key.0 here unnamed key.1)

  -- a type with one has no key of its own
  own_derived_key : (i j : ℕ) (type : RawType) → At raw.types i type → base_in raw i ≡ Some j → own_key raw i ≡ []
  own_derived_key i j type here is =
      let reference = and_then_some (names_in raw).type_named type.base j (sym (ap (option_and_then (λ type. option_and_then (names_in raw).type_named type.base)) here) ∙ is) in
      let none = derived_has_none raw keeps.keeps_types i type here reference.0 reference.1 in
      own_key_is raw i type here ∙ ap (λ (key : Option (List (List ℕ))). filter_map (prop_named raw i) (unwrap_or key [])) none

  -- all kinds are sound
  all_kinds : All (λ prop. IsSoundKind prop.kind) model.props
  all_kinds = of_each_prop raw model meant (λ prop. IsSoundKind prop.kind)
      (λ i type declared here has. sound_kind raw declared (fits_enum raw keeps.keeps_types) (fits_bound raw keeps.keeps_types i type here declared has))

  -- and so are the types
  pub sound : HasSoundTypes model
  sound = record {
    bases = no_circle raw model meant (none_above_itself raw keeps.keeps_types);
    types = λ t type here. record {
      props = inherited_props raw model meant (none_above_itself raw keeps.keeps_types) t type here;
      key = inherited_key raw model meant (none_above_itself raw keeps.keeps_types) own_root_key own_derived_key t type here;
      key_props = key_props_sound raw model meant (λ i from prop at. fits_key raw keeps.keeps_types i from at prop) t type here;
    };
    names = types_apart raw model meant (types_once raw keeps.repeats_none);
    members = distinct_members raw model meant (members_once raw keeps.repeats_none)
        (λ i j type other here there. none_inherited raw keeps.keeps_types i type here j other there);
    kinds = all_kinds;
    base_ids = bases_inside raw model meant;
    key_ids = keys_inside raw model meant;
    prop_ids = props_inside raw model meant;
    owner_ids = owners_inside raw model meant;
  }
