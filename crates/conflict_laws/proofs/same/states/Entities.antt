-- Entities of one type that have the same values are one, and a property that can have one value alone has it.
use Rattle.std.proofs.Common.{◌≡◌, ◌≢◌, ⊎_elim, [], length, false, Contains, Option, Some, None, refl, sym, ap, ◌∙◌}
use Rattle.std.specs.Option.{option_map_or}
use Rattle.std.proofs.lemmas.List.Elements.{All-contains}
use Rattle.round_trip.specs.Words.{SetId, PropId, Entity, EntityModel, EntityType, IsEntity, IsLegal, State, Value, Null, entities_in, props_of, value_beside, value_of}
use Rattle.round_trip.specs.soundness.models.Models.{IsSoundModel}
use Rattle.schema_laws.proofs.sound_types.Once.{props_once}
use Rattle.condition_logic.specs.declared.atoms.Atom.{Atom}
use Rattle.condition_logic.specs.declared.atoms.Atom.TheVariants as atom
use Rattle.schema_laws.proofs.state_demand.writings.Decisions.{not_or, value_or_not}
use Rattle.schema_laws.proofs.state_demand.owners.Joined.{same_values}
use Rattle.schema_laws.proofs.state_demand.lists.Lists.{any_or_none}
use Rattle.regions.specs.declared.region.Region.{Region}
use Rattle.regions.specs.declared.pattern.Symbol.TheVariants as symbol
use Rattle.regions.specs.Atoms.{atom_at}
use Rattle.regions.specs.Basis.{Basis}
use Rattle.regions.specs.Patterns.{Valuation}
use Rattle.regions.specs.Settled.{Possible, is_nullable, multi, of_atom, possible, single}
use Rattle.regions.specs.region_laws.pattern.Allowed.{IsAllowed}
use Rattle.regions.proofs.region_laws.pattern.types.Regions.{lies_in}

module _ (model : EntityModel) (sound : IsSoundModel model) where
  -- an entity has as many values as its type has properties
  value_count : (state : State) → IsLegal model state → (s : SetId) (x : Entity) → Contains (entities_in state s) x → length x.values ≡ length (props_of model x.ty)
  value_count state legal s x has =
      let is : IsEntity model x = All-contains (IsEntity model) (entities_in state s) x (legal.shape.entities s) has in
      is.2 ∙ sym (ap (λ found. length (option_map_or (λ (type : EntityType). type.props) found [])) is.1)

  module _ (c d : State) (legal_c : IsLegal model c) (legal_d : IsLegal model d) (s : SetId) (x y : Entity) (has_x : Contains (entities_in c s) x)
      (has_y : Contains (entities_in d s) y) (types : x.ty ≡ y.ty) where
    -- entities of one type with the same values are one
    same_entity : ((p : PropId) → Contains (props_of model x.ty) p → value_of model x p ≡ value_of model y p) → x ≡ y
    same_entity agree =
        let beside : (p : PropId) → value_beside p (props_of model y.ty) y.values ≡ value_beside p (props_of model x.ty) y.values =
        λ p. ap (λ t. value_beside p (props_of model t) y.values) (sym types) in
        let values : x.values ≡ y.values = same_values (props_of model x.ty) x.values y.values (value_count c legal_c s x has_x)
        (value_count d legal_d s y has_y ∙ ap (λ t. length (props_of model t)) (sym types)) (props_once model sound x.ty) (λ p among. agree p among ∙ beside p) in
        λ k. record { ty = types k; values = values k }

    -- different ones differ in some property
    pub property_differs : x ≢ y → (p : PropId) × Contains (props_of model x.ty) p × (value_of model x p ≢ value_of model y p)
    property_differs different = ⊎_elim
        (λ (found : (p : PropId) × Contains (props_of model x.ty) p × (value_of model x p ≢ value_of model y p)). found)
        (λ (none : (p : PropId) → Contains (props_of model x.ty) p → ¬ (value_of model x p ≢ value_of model y p)).
        absurd (different (same_entity (λ p among. ⊎_elim
        (λ (same : value_of model x p ≡ value_of model y p). same)
        (λ (other : value_of model x p ≢ value_of model y p). absurd (none p among other))
        (value_or_not (value_of model x p) (value_of model y p))))))
        (any_or_none (λ (p : PropId). value_of model x p ≢ value_of model y p) (λ p. not_or (value_or_not (value_of model x p) (value_of model y p))) (props_of model x.ty))

-- the one value; null where there are several
abbrev value_alone : Possible → Value
value_alone (single v) = v
value_alone (multi nullable) = Null

-- the value that a property can have alone
pub single_value : (basis : Basis) (region : Region) (values : Valuation) → IsAllowed basis region values → (p : PropId) (v : Value)
    → possible basis.schema.model region.atoms (symbol.Prop p) ≡ single v → values.prop p ≡ v
single_value basis region values allowed p v = by (atom_at region.atoms p) refl
  where
    by : (found : Option Atom) → atom_at region.atoms p ≡ found → option_map_or of_atom found (multi (is_nullable basis.schema.model p)) ≡ single v → values.prop p ≡ v
    by None here can = absurd (let never : multi (is_nullable basis.schema.model p) ≡ single v = can in cc)
    by (Some atom.Null) here can = lies_in basis region values allowed p atom.Null here ∙ ap value_alone can
    by (Some (atom.Is w)) here can = lies_in basis region values allowed p (atom.Is w) here ∙ ap value_alone can
    by (Some atom.Other) here can = absurd (let never : multi false ≡ single v = can in cc)
