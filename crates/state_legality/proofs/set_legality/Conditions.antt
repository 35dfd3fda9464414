-- Legal sets by what each entity keeps.
use Rattle.std.proofs.Common.{List, All, get_or, subst, sym}
use Rattle.emc_base.proofs.Mapped.{contains_at}
use Rattle.round_trip.specs.Words.{EntityModel, EntitySet, Entity, Prop, PropId, Value, props_of, value_of, HasAllowedNulls, HasFittingType, HasProp, HasValuesInDomain, IsLegalSet}
use Rattle.round_trip.specs.soundness.models.Models.{IsSoundModel}
use Rattle.entity_state.proofs.breach_order.Turns.{all_as}
use Rattle.state_legality.specs.set_legality.Props.{FitsProp, FitsProps}
use Rattle.state_legality.specs.set_legality.Tells.{FitsSet, KeysApart}
use Rattle.state_legality.proofs.set_legality.Beside.{place_in, value_at_place}

module _ (model : EntityModel) (sound : IsSoundModel model) where
  -- what an entity's value of a property keeps, where its values at their places keep it
  module _ (entity : Entity) (fits : FitsProps model entity) (prop : PropId) (declared : Prop) (has : HasProp model entity prop declared) where
    fits_here : FitsProp (value_of model entity prop) declared
    fits_here =
        let place = place_in (props_of model entity.ty) prop has.among in
        let P : Value → Type 0 = λ value. FitsProp value declared in
        subst P (sym (value_at_place model sound entity place.0 prop place.1)) ((fits.each place.0 prop place.1).told declared has.is_declared)

  module _ (set : EntitySet) (entities : List Entity) where
    pub set_legal : All (FitsSet model set) entities → KeysApart model entities → IsLegalSet model set entities
    set_legal fit apart = record {
      types = all_as (FitsSet model set) (HasFittingType model set) (λ entity fits. fits.typed) entities fit;
      nulls = all_as (FitsSet model set) (HasAllowedNulls model) (λ entity fits prop declared has. (fits_here entity fits.props prop declared has).null) entities fit;
      domains = all_as (FitsSet model set) (HasValuesInDomain model) (λ entity fits prop declared has. (fits_here entity fits.props prop declared has).domain) entities fit;
      keys = apart;
    }

    pub legal_fits : IsLegalSet model set entities → All (FitsSet model set) entities
    legal_fits legal = λ k d within. record {
      typed = legal.types k d within;
      props = record {
        each = λ j prop is_prop. record {
          told = λ declared is_declared.
              (let entity : Entity = get_or entities k d in
              let has : HasProp model entity prop declared = record { among = contains_at (props_of model entity.ty) j prop is_prop; is_declared = is_declared } in
              let P : Value → Type 0 = λ value. FitsProp value declared in
              subst P (value_at_place model sound entity j prop is_prop) (record { null = legal.nulls k d within prop declared has; domain = legal.domains k d within prop declared has }));
        };
      };
    }
