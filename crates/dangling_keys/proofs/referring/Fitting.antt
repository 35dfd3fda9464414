-- An entity that has the key that is shown, in a state whose entities are told by what is forced: just this key is forced.
use Rattle.std.proofs.Common.{◌≡◌, ◌≢◌, ◌⊎◌, inl, inr, ℕ, ◌<◌, ◌≤◌, List, Contains, Option, Some, None, refl, sym, ap, subst, ◌∙◌, arith}
use Rattle.std.proofs.lemmas.List.Elements.{All-contains}
use Rattle.emc_base.proofs.Lists.{all_from_members}
use Rattle.emc_base.proofs.Members.{in_map}
use Rattle.round_trip.specs.Words.{Entity, EntityModel, EntitySet, ForeignKey, IsLegal, Kind, Null, Pair, PropId, SetId, State, Value, At, entities_in, key_of, key_props, value_beside, value_of}
use Rattle.round_trip.specs.soundness.Lookups.{set_key}
use Rattle.schema_laws.specs.state_demand.Owners.{props_in}
use Rattle.round_trip.specs.soundness.models.Inheritance.{IsKeyProp}
use Rattle.schema_laws.specs.short_values.Fresh.{added_value, fresh, fresh_at, most_indices}
use Rattle.schema_laws.proofs.short_values.Places.{fresh_is}
use Rattle.schema_laws.proofs.sound_types.Inherited.{key_prop}
use Rattle.schema_laws.proofs.state_demand.owners.Owners.{beside_map}
use Rattle.cells.specs.Limits.{IsWithinLimits}
use Rattle.regions.specs.Basis.{Basis}
use Rattle.regions.specs.Patterns.{Valuation, value_under}
use Rattle.regions.specs.Settled.{Settled, free, known}
use Rattle.regions.specs.declared.pattern.Focus.{Focus}
use Rattle.regions.specs.declared.pattern.Symbol.{Symbol}
use Rattle.regions.specs.region_laws.IsBasis.{IsBasis}
use Rattle.population.specs.Given.{HasNumbers}
use Rattle.population.specs.Numbered.{number_count, numbered_key}
use Rattle.population.proofs.plain.Numbered.{number_small, set_key_is, some_part}
use Rattle.forced_entities.specs.Forced.{part_in}
use Rattle.forced_entities.specs.declared.member.Forced.{Forced}
use Rattle.dangling_keys.specs.Dangling.{OwnsTable}
use Rattle.dangling_keys.specs.Flow.{IsFlow}
use Rattle.dangling_keys.specs.LeftOut.{IsMember, IsNumberKey, IsRead, ReadsPart}
use Rattle.dangling_keys.specs.Outer.{IsPartOrOuter}
use Rattle.dangling_keys.specs.Showing.{Fits, IsShownPart, shown_at}
use Rattle.dangling_keys.proofs.left_out.Flow.{flow_small}
use Rattle.dangling_keys.proofs.left_out.LeftOut.{not_added, shows, the_part}
use Rattle.dangling_keys.proofs.told.Rows.{HoldsSettled}

module _ (basis : Basis) (is : IsBasis basis) (limits : IsWithinLimits basis.schema) (outer : ℕ) (row : outer ≤ 4) (of : Focus) (not_null : List PropId) (values : Valuation) (state : State)
    (legal : IsLegal basis.schema.model state)
    (valued : (one : Symbol) (i : ℕ) → IsFlow basis of one i → value_under values one ≢ Null → (k : Kind) × (value_under values one ≡ fresh k outer i))
    (key : ForeignKey) (u : SetId) (entity : Entity) (stands : Contains (entities_in state u) entity) (pairing : List Pair) (owns : OwnsTable basis key.to u pairing)
    (seen : (pair : Pair) → Contains pairing pair → HoldsSettled values (shown_at basis of key pair.col) (value_of basis.schema.model entity pair.prop))
    (parts : (pair : Pair) → Contains pairing pair → IsPartOrOuter basis outer of values (shown_at basis of key pair.col)) where
  abbrev model : EntityModel
  model = basis.schema.model

  has : HasNumbers model outer
  has = record { sound = is.sound.model; few = limits.model.0; row = row }

  abbrev set : EntitySet
  set = owns.owned.set

  abbrev here : At model.sets u.index set
  here = owns.owned.is_set

  in_key : (pair : Pair) → Contains pairing pair → Contains (set_key model u) pair.prop
  in_key pair among = subst (λ (props : List PropId). Contains props pair.prop) (sym (set_key_is model is.sound.model u set here))
      (All-contains (λ (one : Pair). Contains (key_props model set.element) one.prop) pairing pair owns.owned.keyed among)

  -- a value of no symbol is none that is shown
  not_shown : (pair : Pair) → Contains pairing pair → (n : ℕ) → added_value n < most_indices → value_of model entity pair.prop ≡ fresh_at model outer pair.prop (added_value n) → ⊥
  not_shown pair among n small is_added = by (shown_at basis of key pair.col) (seen pair among) (parts pair among)
    where
      own : IsKeyProp model pair.prop
      own = key_prop model is.sound.model pair.prop set.element (All-contains (λ (one : Pair). Contains (key_props model set.element) one.prop) pairing pair owns.owned.keyed among)

      fresh_one : value_of model entity pair.prop ≡ fresh own.declared.kind outer (added_value n)
      fresh_one = is_added ∙ fresh_is model pair.prop own.declared own.is_declared outer (added_value n)

      by : (cell : Settled) → HoldsSettled values cell (value_of model entity pair.prop) → IsPartOrOuter basis outer of values cell → ⊥
      by (known value) held outside = outside own.declared.kind (added_value n) small (sym held ∙ fresh_one)
      by (free one nullable) held (inr outside) = outside own.declared.kind (added_value n) small (sym held.0 ∙ fresh_one)
      by (free one nullable) held (inl (i, flow)) =
          not_added basis is limits outer row of not_null values state legal valued u set here entity stands pair.prop (in_key pair among) one i n flow held.0 is_added

  -- what is read is shown
  read_shown : (one : Forced) (pair : Pair) → Contains pairing pair → (cell : Settled) → HoldsSettled values cell (value_of model entity pair.prop) → IsPartOrOuter basis outer of values cell
      → (found : Option Symbol) → ReadsPart basis outer of values found pair.prop (value_beside pair.prop (set_key model u) (key_of model entity))
      → (found ≡ part_in basis one pair.prop) → IsShownPart cell (part_in basis one pair.prop)
  read_shown one pair among cell held part None read is_it =
      absurd (not_shown pair among 0 (number_small model outer has 0 (omega arith)) (sym (shows basis is limits outer row of not_null values state legal valued u set here entity stands pair.prop (in_key pair among)) ∙ read))
  read_shown one pair among (known value) held outside (Some other) read is_it =
      let small = flow_small basis is limits of other read.0 read.1 in
      absurd (outside read.2 read.0 (omega (arith, small)) (sym held ∙ sym (shows basis is limits outer row of not_null values state legal valued u set here entity stands pair.prop (in_key pair among)) ∙ read.3))
  read_shown one pair among (free symbol nullable) held (inr outside) (Some other) read is_it =
      let small = flow_small basis is limits of other read.0 read.1 in
      absurd (outside read.2 read.0 (omega (arith, small)) (sym held.0 ∙ sym (shows basis is limits outer row of not_null values state legal valued u set here entity stands pair.prop (in_key pair among)) ∙ read.3))
  read_shown one pair among (free symbol nullable) held (inl (i, flow)) (Some other) read is_it =
      sym is_it ∙ the_part basis is limits outer row of not_null values state legal valued u set here entity stands one pair.prop (in_key pair among) symbol i flow held.0 (Some other) read

  some_pair : (pair : Pair) × Contains pairing pair
  some_pair =
      let part = some_part model is.sound.model u set here in
      let keyed : Contains (key_props model set.element) part.0 = subst (λ (props : List PropId). Contains props part.0) (set_key_is model is.sound.model u set here) part.1 in
      let found = in_map (λ (pair : Pair). pair.prop) pairing part.0 (All-contains (Contains (props_in pairing)) (key_props model set.element) part.0 owns.owned.paired keyed) in
      (found.0, found.1)

  -- its key is none of a number
  pub never_numbered : (number : ℕ) → number < number_count model → key_of model entity ≢ numbered_key model outer u number
  never_numbered number below is_key =
      let pair = some_pair in
      let at : PropId → Value = λ q. fresh_at model outer q (added_value number) in
      not_shown pair.0 pair.1 number (number_small model outer has number below)
      (sym (shows basis is limits outer row of not_null values state legal valued u set here entity stands pair.0.prop (in_key pair.0 pair.1))
      ∙ ap (value_beside pair.0.prop (set_key model u)) is_key ∙ beside_map at (set_key model u) pair.0.prop (in_key pair.0 pair.1))

  -- what tells its key fits
  pub read_fits : {IsOne : Forced → Type 0} (read : IsRead basis outer of values IsOne u (key_of model entity)) → Fits basis of key u pairing read.one
  read_fits read = record {
    of_set = read.of_set;
    parts = all_from_members (λ (pair : Pair). IsShownPart (shown_at basis of key pair.col) (part_in basis read.one pair.prop)) pairing (λ pair among.
        read_shown read.one pair among (shown_at basis of key pair.col) (seen pair among) (parts pair among) (part_in basis read.one pair.prop) (read.reads pair.prop (in_key pair among)) refl);
  }

  pub fitting_one : IsNumberKey basis outer u (key_of model entity) ⊎ IsRead basis outer of values (IsMember basis of not_null) u (key_of model entity)
      → (one : Forced) × IsMember basis of not_null one × Fits basis of key u pairing one
  fitting_one (inl numbered) = absurd (never_numbered numbered.number numbered.below numbered.is)
  fitting_one (inr read) = (read.one, read.is_one, read_fits read)
