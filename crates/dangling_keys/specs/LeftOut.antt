-- Each entity of a state has the key of a number, or a key that is read off the focus or a forced entity.
-- Source: this project's choice of the states that it shows; CSDL version 3, ReferentialConstraint.
use Rattle.std.specs.Prelude.{◌≡◌, ◌≢◌, ◌⊎◌, ◌↔◌, ◌<◌, ℕ, List, Contains, Option, None, Some}
use Rattle.round_trip.specs.Words.{SetId, PropId, Value, Kind, Entity, IsLegal, State, entities_in, key_of, value_beside, value_of}
use Rattle.round_trip.specs.soundness.Lookups.{IsUnderElement, set_key}
use Rattle.schema_laws.specs.short_values.Fresh.{added_value, fresh, fresh_at}
use Rattle.regions.specs.Basis.{Basis}
use Rattle.regions.specs.Patterns.{Valuation, value_under}
use Rattle.regions.specs.declared.pattern.Focus.{Focus}
use Rattle.regions.specs.declared.pattern.Symbol.{Symbol}
use Rattle.population.specs.Numbered.{number_count, numbered_key}
use Rattle.forced_entities.specs.Forced.{IsForced, part_in}
use Rattle.forced_entities.specs.declared.member.Forced.{Forced}
use Rattle.dangling_keys.specs.Dangling.{IsOwn}
use Rattle.dangling_keys.specs.Flow.{IsFlow}
use Rattle.dangling_keys.specs.Outer.{IsOuter}

module _ (basis : Basis) where
  -- the key is that of a number
  pub record IsNumberKey (outer : ℕ) (u : SetId) (key : List Value) : Type 0 where
    pub number : ℕ
    pub below : number < number_count basis.schema.model
    pub is : key ≡ numbered_key basis.schema.model outer u number

  -- the focus itself, or what it forces
  abbrev pub IsMember : Focus → List PropId → Forced → Type 0
  IsMember of not_null one = IsOwn basis of one ⊎ IsForced basis of not_null one

module _ (basis : Basis) (outer : ℕ) (of : Focus) (values : Valuation) where
  -- a part of a key that is known is the symbol's value, which is numbered; one that is unknown is that of number zero
  abbrev pub ReadsPart : Option Symbol → PropId → Value → Type 0
  ReadsPart (Some one) p value = (i : ℕ) × IsFlow basis of one i × (k : Kind) × (value ≡ fresh k outer i) × (value ≡ value_under values one)
  ReadsPart None p value = value ≡ fresh_at basis.schema.model outer p (added_value 0)

  -- the key of the set is read by such an entity
  pub record IsRead (IsOne : Forced → Type 0) (u : SetId) (key : List Value) : Type 0 where
    pub one : Forced
    pub is_one : IsOne one
    pub of_set : one.set ≡ u
    pub under : IsUnderElement basis.schema.model u one.ty
    pub reads : (p : PropId) → Contains (set_key basis.schema.model u) p → ReadsPart (part_in basis one p) p (value_beside p (set_key basis.schema.model u) key)

  -- each entity of the state is one of a number, or told by the focus or by what this forces; so the entity that a key of symbols tells stands in it exactly
  -- where just this key is forced, and it can be left out where it isn't
  pub record LeavesUnforcedOut (not_null : List PropId) (state : State) : Type 0 where
    pub legal : IsLegal basis.schema.model state
    pub read : (u : SetId) (entity : Entity) → Contains (entities_in state u) entity
        → IsNumberKey basis outer u (key_of basis.schema.model entity) ⊎ IsRead (IsMember basis of not_null) u (key_of basis.schema.model entity)
    pub exact : (u : SetId) (part : PropId → Symbol) → ((p : PropId) → Contains (set_key basis.schema.model u) p → (i : ℕ) × IsFlow basis of (part p) i)
        → ((entity : Entity) × Contains (entities_in state u) entity × ((p : PropId) → Contains (set_key basis.schema.model u) p → value_of basis.schema.model entity p ≡ value_under values (part p)))
        ↔ ((one : Forced) × IsMember basis of not_null one × (one.set ≡ u) × ((p : PropId) → Contains (set_key basis.schema.model u) p → part_in basis one p ≡ Some (part p)))

  -- no part of a key of the state is outside of the row of numbers, so none is a value that is set apart from it; and a symbol for a part of a key doesn't have the value of a part that is unknown
  pub record SetsApart (state : State) : Type 0 where
    pub numbered : (u : SetId) (entity : Entity) → Contains (entities_in state u) entity → (p : PropId) → Contains (set_key basis.schema.model u) p → ¬ IsOuter outer (value_of basis.schema.model entity p)
    pub unknown : (u : SetId) (p : PropId) → Contains (set_key basis.schema.model u) p → (one : Symbol) (i : ℕ) → IsFlow basis of one i
        → value_under values one ≢ fresh_at basis.schema.model outer p (added_value 0)
