-- In a type that has each property once, the value beside a property is that at its place.
use Rattle.std.proofs.Common.{◌≡◌, ◌==◌, ℕ, zero, suc, ◌<◌, List, [], ◌∷◌, length, true, slice_get, unwrap_or, Contains, if◌then◌else◌, refl, sym, ap, ◌∙◌, Some, arith}
use Rattle.std.proofs.lemmas.Bool.{false_from_ne_true}
use Rattle.std.proofs.lemmas.Bool.Decides.{Decides-eqb}
use Rattle.std.proofs.lemmas.Option.{get_or_from_slice_get, same_Some, slice_get-get_or, slice_get_within}
use Rattle.emc_base.specs.Lists.{At, AreApart}
use Rattle.round_trip.specs.Words.{EntityModel, Entity, PropId, Value, Null, props_of, value_beside, value_of}
use Rattle.round_trip.specs.soundness.models.Models.{IsSoundModel}
use Rattle.schema_laws.proofs.sound_types.Once.{props_once}
use Rattle.state_legality.specs.set_legality.Props.{value_numbered}

beside_at : (props : List PropId) (values : List Value) (j : ℕ) (prop : PropId) → AreApart props → At props j prop
    → value_beside prop props values ≡ unwrap_or (slice_get values j) Null
beside_at [] values j prop apart here = absurd (let within : j < 0 = slice_get_within [] j prop here in omega arith)
beside_at (p ∷ props) [] zero prop apart here = refl
beside_at (p ∷ props) [] (suc j) prop apart here = refl
beside_at (p ∷ props) (value ∷ values) zero prop apart here =
    ap (λ test. if test then value else value_beside prop props values) ((Decides-eqb p.index prop.index).1 (ap (λ (q : PropId). q.index) (same_Some p prop here)))
beside_at (p ∷ props) (value ∷ values) (suc j) prop apart here =
    ap (λ test. if test then value else value_beside prop props values) (false_from_ne_true (p.index == prop.index) other) ∙ beside_at props values j prop rest here
  where
    within : j < length props
    within = slice_get_within props j prop here

    other : (p.index == prop.index) ≡ true → ⊥
    other is =
        let number : p.index ≡ prop.index = (Decides-eqb p.index prop.index).0 is in
        let same : p ≡ prop = λ i. record { index = number i } in
        apart 0 (suc j) prop (omega arith) (omega (arith, within)) (same ∙ sym (get_or_from_slice_get props j prop prop here))

    rest : AreApart props
    rest i k d below inside = apart (suc i) (suc k) d (omega (arith, below)) (omega (arith, inside))

-- the value of an entity at a property's place
pub value_at_place : (model : EntityModel) → IsSoundModel model → (entity : Entity) (j : ℕ) (prop : PropId) → At (props_of model entity.ty) j prop
    → value_of model entity prop ≡ value_numbered entity j
value_at_place model sound entity j prop here = beside_at (props_of model entity.ty) entity.values j prop (props_once model sound entity.ty) here

-- the place of what stands in a list
pub place_in : (props : List PropId) (prop : PropId) → Contains props prop → (j : ℕ) × At props j prop
place_in props prop has = (has.0, slice_get-get_or props has.0 prop has.1 ∙ ap Some has.2)
