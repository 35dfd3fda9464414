-- The entity that has the key that is shown in the state of a focus: its parts are numbered, and what tells its key fits.
use Rattle.std.proofs.Common.{◌≡◌, ◌≢◌, ◌⊎◌, ℕ, ◌<◌, ◌≤◌, List, Contains, sym, subst}
use Rattle.std.proofs.lemmas.List.Elements.{All-contains}
use Rattle.round_trip.specs.Words.{Entity, EntityModel, ForeignKey, IsLegal, Kind, Null, Pair, PropId, SetId, State, entities_in, key_of, key_props, value_of}
use Rattle.round_trip.specs.soundness.Lookups.{set_key}
use Rattle.schema_laws.specs.short_values.Fresh.{fresh, most_indices}
use Rattle.cells.specs.Limits.{IsWithinLimits}
use Rattle.regions.specs.Basis.{Basis}
use Rattle.regions.specs.Patterns.{Valuation, value_under}
use Rattle.regions.specs.Settled.{Settled, free}
use Rattle.regions.specs.declared.pattern.Focus.{Focus}
use Rattle.regions.specs.declared.pattern.Symbol.{Symbol}
use Rattle.regions.specs.region_laws.IsBasis.{IsBasis}
use Rattle.population.specs.Numbered.{number_count, numbered_key}
use Rattle.population.proofs.plain.Numbered.{set_key_is}
use Rattle.forced_entities.specs.Held.{HoldsForced}
use Rattle.forced_entities.specs.declared.member.Forced.{Forced}
use Rattle.dangling_keys.specs.Dangling.{OwnsTable}
use Rattle.dangling_keys.specs.Flow.{IsFlow}
use Rattle.dangling_keys.specs.LeftOut.{IsMember, IsNumberKey, IsRead}
use Rattle.dangling_keys.specs.Showing.{Fits, shown_at}
use Rattle.dangling_keys.specs.Outer.{IsPartOrOuter}
use Rattle.dangling_keys.proofs.referring.Fitting as fitting
use Rattle.dangling_keys.proofs.referring.KeyNumbers.{key_numbered}
use Rattle.dangling_keys.proofs.left_out.LeftOut.{fresh_there}
use Rattle.dangling_keys.proofs.referring.NoRow.{HasShownKey, fitting_shown}
use Rattle.dangling_keys.proofs.told.Rows.{HoldsSettled}

module _ (basis : Basis) (is : IsBasis basis) (limits : IsWithinLimits basis.schema) (outer : ℕ) (row : outer ≤ 4) (of : Focus) (not_null : List PropId) (values : Valuation) (state : State)
    (legal : IsLegal basis.schema.model state)
    (valued : (it : Symbol) (i : ℕ) → IsFlow basis of it i → value_under values it ≢ Null → (k : Kind) × (value_under values it ≡ fresh k outer i))
    (told : (u : SetId) (entity : Entity) → Contains (entities_in state u) entity
    → IsNumberKey basis outer u (key_of basis.schema.model entity) ⊎ IsRead basis outer of values (IsMember basis of not_null) u (key_of basis.schema.model entity))
    (key : ForeignKey) (u : SetId) (pairing : List Pair) (owns : OwnsTable basis key.to u pairing)
    (cell_parts : (pair : Pair) → Contains pairing pair → IsPartOrOuter basis outer of values (shown_at basis of key pair.col))
    (one : Forced) (fits : Fits basis of key u pairing one) (held : HoldsForced basis state values one) where
  abbrev model : EntityModel
  model = basis.schema.model

  abbrev e : Entity
  e = held.entity

  pub e_stands : Contains (entities_in state u) e
  e_stands = subst (λ (v : SetId). Contains (entities_in state v) e) fits.of_set held.stands

  pub e_shown : HasShownKey basis of key values pairing e
  e_shown = fitting_shown basis of key values u pairing one e fits held.parts

  pub numbered : (p : PropId) → Contains (set_key model u) p → (k : Kind) × (i : ℕ) × (i < most_indices) × (value_of model e p ≡ fresh k outer i)
  numbered = key_numbered basis is limits outer row of not_null values state legal valued u e e_stands (told u e e_stands)

  pub in_key : (pair : Pair) → Contains pairing pair → Contains (set_key model u) pair.prop
  in_key pair among = subst (λ (props : List PropId). Contains props pair.prop) (sym (set_key_is model is.sound.model u owns.owned.set owns.owned.is_set))
      (All-contains (λ (it : Pair). Contains (key_props model owns.owned.set.element) it.prop) pairing pair owns.owned.keyed among)

  seen : (pair : Pair) → Contains pairing pair → HoldsSettled values (shown_at basis of key pair.col) (value_of model e pair.prop)
  seen pair has =
      let shown = e_shown pair has in
      let number = numbered pair.prop (in_key pair has) in
      let holds : HoldsSettled values (free shown.0 shown.1) (value_of model e pair.prop) =
      (shown.3, λ null. absurd (fresh_there number.0 outer number.1 (value_of model e pair.prop) number.3 null)) in
      subst (λ (cell : Settled). HoldsSettled values cell (value_of model e pair.prop)) (sym shown.2) holds

  -- what tells this key fits
  pub told_fits : {IsOne : Forced → Type 0} (read : IsRead basis outer of values IsOne u (key_of model e)) → Fits basis of key u pairing read.one
  told_fits read = fitting.read_fits basis is limits outer row of not_null values state legal valued key u e e_stands pairing owns seen cell_parts read

  pub e_not_numbered : (number : ℕ) → number < number_count model → key_of model e ≢ numbered_key model outer u number
  e_not_numbered = fitting.never_numbered basis is limits outer row of not_null values state legal valued key u e e_stands pairing owns seen cell_parts
