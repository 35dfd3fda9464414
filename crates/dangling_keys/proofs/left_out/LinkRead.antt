-- Each entity of the state with a link is one of a number, or its key is told by what the link forces.
use Rattle.std.proofs.Common.{◌≡◌, ◌≢◌, ◌⊎◌, ⊎_elim, ℕ, ◌+◌, ◌≤◌, List, [], ◌∷◌, map, flat_map, AllPairs, Contains, Bool, true, false, Option, Some, refl, sym, ap, subst, ◌∙◌, arith}
use Rattle.std.specs.Option.{option_map_or}
use Rattle.emc_base.proofs.Joined.{in_flat_map}
use Rattle.emc_base.proofs.Lists.{at_once}
use Rattle.emc_base.proofs.Mapped.{contains_at}
use Rattle.emc_base.proofs.Members.{contains_cons_cases, contains_nil}
use Rattle.round_trip.specs.Words.{SetId, AssocId, PropId, Value, Null, Kind, Assoc, End, Entity, EntityModel, At, State, entities_in, key_of, key_props, value_beside}
use Rattle.round_trip.specs.soundness.Lookups.{set_key}
use Rattle.round_trip.specs.soundness.models.Constraints.{IsSoundEnd}
use Rattle.round_trip.specs.soundness.models.Inheritance.{IsKeyProp}
use Rattle.schema_laws.specs.short_values.Fresh.{fresh, fresh_at}
use Rattle.schema_laws.specs.short_values.Places.{place_in}
use Rattle.schema_laws.proofs.short_values.Places.{fresh_is}
use Rattle.schema_laws.proofs.sound_demand.owners.Pairing.{end_key}
use Rattle.schema_laws.proofs.sound_types.Inherited.{key_prop}
use Rattle.schema_laws.proofs.state_demand.owners.Owners.{beside_map}
use Rattle.regions.specs.Basis.{Basis}
use Rattle.regions.specs.Patterns.{Valuation, by_link, value_under}
use Rattle.regions.specs.declared.pattern.Focus.{Focus}
use Rattle.regions.specs.declared.pattern.Focus.TheVariants as focus
use Rattle.regions.specs.declared.pattern.Symbol.{Symbol}
use Rattle.regions.specs.declared.pattern.Symbol.TheVariants as symbol
use Rattle.regions.specs.region_laws.IsBasis.{IsBasis}
use Rattle.regions.specs.region_laws.pattern.Allowed.{end_at}
use Rattle.population.specs.Given.{HasNumbers}
use Rattle.population.specs.LinkStates.{PlainEnd, at_end, at_first, at_second, entity_at, key_at, key_from, link_state, of_assoc, placed_at, plain_link}
use Rattle.population.specs.Principals.{principals}
use Rattle.population.specs.Support.{IsTaken, support}
use Rattle.population.specs.declared.placed.Placed.{Placed}
use Rattle.population.specs.declared.placed.PlacedKey.{PlacedKey}
use Rattle.population.proofs.plain.Numbered.{sound_end}
use Rattle.population.proofs.plain.Pairs.{pairs_two}
use Rattle.population.proofs.principals.Asked.{asked_of}
use Rattle.population.proofs.supporting.Ends.{are_given, are_keys, end_has_key, given_end}
use Rattle.population.proofs.supporting.Entities.{entities_are}
use Rattle.forced_entities.specs.Forced.{IsForced, begins, forced_at, part_in}
use Rattle.forced_entities.specs.declared.member.Forced.{Forced}
use Rattle.forced_entities.proofs.Beside.{part_map}
use Rattle.failure_laws.specs.Witnesses.{empty_state}
use Rattle.dangling_keys.specs.Flow.{IsFlow, IsLinkPart, end_part}
use Rattle.dangling_keys.specs.FlowStates.{flow_state, values_of_focus}
use Rattle.dangling_keys.specs.LeftOut.{IsMember, IsNumberKey, IsRead, ReadsPart}
use Rattle.dangling_keys.proofs.left_out.Reading.{as_member, beyond_zero, stands_read}
use Rattle.dangling_keys.proofs.left_out.Serving.{plain_leads}

module _ (basis : Basis) (is : IsBasis basis) (outer : ℕ) (has : HasNumbers basis.schema.model outer) (a : AssocId) (assoc : Assoc) (here : At basis.schema.model.assocs a.index assoc) (not_null : List PropId) where
  abbrev model : EntityModel
  model = basis.schema.model

  abbrev pub The : Focus
  The = focus.Link a

  -- the values of the link
  abbrev pub link_values : Valuation
  link_values = by_link model assoc (plain_link model outer assoc)

  abbrev pub Read : SetId → List Value → Type 0
  Read u key = IsRead basis outer The link_values (IsForced basis The not_null) u key

  is_assoc : Contains model.assocs assoc
  is_assoc = contains_at model.assocs a.index assoc here

  the_assoc : (other : Assoc) → At model.assocs a.index other → other ≡ assoc
  the_assoc other there = at_once model.assocs a.index other assoc there here

  here_too : {b : AssocId} {side : Bool} {p : PropId} (by : IsLinkPart basis a b side p) → At model.assocs a.index by.assoc
  here_too by = subst (λ (c : AssocId). At model.assocs c.index by.assoc) by.of_assoc by.is_assoc

  -- an end of the link, whose parts have these indices
  module _ (side : Bool) (end : End) (sound : IsSoundEnd model end) (index : ℕ)
      (value_is : (p : PropId) → value_under link_values (symbol.End a side p) ≡ value_beside p (key_props model end.ty) (key_from model outer end.set index)) where
    abbrev keys : List PropId
    keys = key_props model end.ty

    abbrev one : Forced
    one = forced_at basis end.set end.ty (λ p. Some (symbol.End a side p))

    -- the value of a part, and the key whose parts have these values
    abbrev value_at : List PropId → PropId → Value
    value_at props p = fresh_at model outer p (index + place_in p props)

    abbrev key_of_parts : List PropId → List Value
    key_of_parts props = map (value_at props) props

    same_keys : keys ≡ set_key model end.set
    same_keys = end_key basis.schema is.sound end sound

    beside_at : (p : PropId) → Contains keys p → (k : Kind) × (value_beside p keys (key_of_parts keys) ≡ fresh k outer (index + place_in p keys))
    beside_at p part =
        let own : IsKeyProp model p = key_prop model has.sound p end.ty part in
        (own.declared.kind, beside_map (value_at keys) keys p part ∙ fresh_is model p own.declared own.is_declared outer (index + place_in p keys))

    symbol_at : (p : PropId) → value_beside p keys (key_of_parts keys) ≡ value_under link_values (symbol.End a side p)
    symbol_at p = ap (λ props. value_beside p keys (key_of_parts props)) same_keys ∙ sym (value_is p)

    -- a part has the value of its number
    end_value : (p : PropId) → Contains keys p → (k : Kind) × (value_under link_values (symbol.End a side p) ≡ fresh k outer (index + place_in p keys))
    end_value p part = let told = beside_at p part in (told.0, sym (symbol_at p) ∙ told.1)

    abbrev ReadsParts : List PropId → Type 0
    ReadsParts props = (p : PropId) → Contains props p → ReadsPart basis outer The link_values (part_in basis one p) p (value_beside p props (key_of_parts props))

    module _ (flow : (p : PropId) → Contains (key_props model end.ty) p → IsFlow basis The (symbol.End a side p) (index + place_in p (key_props model end.ty)))
        (forced : IsForced basis The not_null (forced_at basis end.set end.ty (λ p. Some (symbol.End a side p)))) where
      own_parts : ReadsParts keys
      own_parts p part =
          let told = beside_at p part in
          subst (λ (found : Option Symbol). ReadsPart basis outer The link_values found p (value_beside p keys (key_of_parts keys))) (sym (part_map (λ q. Some (symbol.End a side q)) keys p part))
          (index + place_in p keys, flow p part, told.0, told.1, symbol_at p)

      read_end : Read end.set (key_from model outer end.set index)
      read_end = record { one = one; is_one = forced; of_set = refl; under = sound.under; reads = subst ReadsParts same_keys own_parts }

  abbrev pub end : Bool → PlainEnd
  end side = at_end model outer side assoc

  abbrev pub both : List PlainEnd
  both = at_first model outer assoc ∷ (at_second model outer assoc ∷ [])

  pub sound_at : (side : Bool) → IsSoundEnd model (end side).end
  sound_at true = sound_end model has.sound assoc is_assoc true
  sound_at false = sound_end model has.sound assoc is_assoc false

  end_read : (side : Bool) → Read (end side).end.set (key_at model outer (end side))
  end_read true = read_end true assoc.first (sound_at true) 8 (λ p. refl)
      (λ p part. (record { of_assoc = refl; assoc = assoc; is_assoc = here; part = part }, refl))
      (begins (forced_at basis assoc.first.set assoc.first.ty (λ p. Some (symbol.End a true p))) (record { assoc = assoc; is_assoc = here; first = true; is = refl }))
  end_read false = read_end false assoc.second (sound_at false) 12 (λ p. refl)
      (λ p part. (record { of_assoc = refl; assoc = assoc; is_assoc = here; part = part }, refl))
      (begins (forced_at basis assoc.second.set assoc.second.ty (λ p. Some (symbol.End a false p))) (record { assoc = assoc; is_assoc = here; first = false; is = refl }))

  -- by the entities of the ends' types
  pub end_told : (side : Bool) → (read : Read (end side).end.set (key_at model outer (end side))) × (read.one.ty ≡ (end side).end.ty)
  unfolding end_read read_end
  end_told true = (end_read true, refl)
  end_told false = (end_read false, refl)

  -- a symbol that stands for a part has the value of its number
  pub link_value : (one : Symbol) (i : ℕ) → IsFlow basis The one i → (k : Kind) × (value_under link_values one ≡ fresh k outer i)
  link_value symbol.Null i by = absurd by
  link_value (symbol.Const value) i by = absurd by
  link_value (symbol.Prop p) i by = absurd by
  link_value (symbol.End b first p) i (by, is) = part_value first by is
    where
      part_value : (side : Bool) (by : IsLinkPart basis a b side p) → i ≡ end_part side (place_in p (key_props model (end_at side by.assoc).ty))
          → (k : Kind) × (value_under link_values (symbol.End b side p) ≡ fresh k outer i)
      part_value true by is =
          let part : Contains (key_props model assoc.first.ty) p = subst (λ (it : Assoc). Contains (key_props model it.first.ty) p) (the_assoc by.assoc (here_too by)) by.part in
          let told = end_value true assoc.first (sound_at true) 8 (λ q. refl) p part in
          (told.0, told.1 ∙ ap (fresh told.0 outer) (sym (is ∙ ap (λ (it : Assoc). 8 + place_in p (key_props model it.first.ty)) (the_assoc by.assoc (here_too by)))))
      part_value false by is =
          let part : Contains (key_props model assoc.second.ty) p = subst (λ (it : Assoc). Contains (key_props model it.second.ty) p) (the_assoc by.assoc (here_too by)) by.part in
          let told = end_value false assoc.second (sound_at false) 12 (λ q. refl) p part in
          (told.0, told.1 ∙ ap (fresh told.0 outer) (sym (is ∙ ap (λ (it : Assoc). 12 + place_in p (key_props model it.second.ty)) (the_assoc by.assoc (here_too by)))))

  -- an end of these is one of the two
  which : (one : PlainEnd) → Contains both one → (side : Bool) × (one ≡ end side)
  which one there = ⊎_elim
      (λ (is : one ≡ at_first model outer assoc). (true, is))
      (λ (later : Contains (at_second model outer assoc ∷ []) one). ⊎_elim
      (λ (is : one ≡ at_second model outer assoc). (false, is))
      (λ (never : Contains [] one). absurd (contains_nil one never))
      (contains_cons_cases (at_second model outer assoc) [] one later))
      (contains_cons_cases (at_first model outer assoc) (at_second model outer assoc ∷ []) one there)

  pub small_at : (side : Bool) → (end side).index ≤ 1900
  small_at true = omega arith
  small_at false = omega arith

  pub sound : (one : PlainEnd) → Contains both one → IsSoundEnd model one.end
  sound one there = let of = which one there in subst (λ (it : PlainEnd). IsSoundEnd model it.end) (sym of.1) (sound_at of.0)

  pub small : (one : PlainEnd) → Contains both one → one.index ≤ 1900
  small one there = let of = which one there in subst (λ (it : PlainEnd). it.index ≤ 1900) (sym of.1) (small_at of.0)

  pub apart : AllPairs (λ one two. one.index ≢ two.index) both
  apart = pairs_two (λ (one two : PlainEnd). one.index ≢ two.index) (at_first model outer assoc) (at_second model outer assoc) (λ equal. absurd (omega (arith, equal)))

  one_read : (one : PlainEnd) → Contains both one → Read one.end.set (key_at model outer one)
  one_read one there = let of = which one there in subst (λ (it : PlainEnd). Read it.end.set (key_at model outer it)) (sym of.1) (end_read of.0)

  abbrev pub given : List Placed
  given = map (placed_at model outer) both

  abbrev wanted : List PlacedKey
  wanted = flat_map (λ one. principals model one.end.set (entity_at model outer one)) both

  -- what an end asks for is forced, or taken
  asked_end : (to : PlacedKey) → Contains wanted to → ¬ IsTaken model outer given to → Read to.set to.key
  asked_end to asked free =
      let found = in_flat_map (λ (one : PlainEnd). principals model one.end.set (entity_at model outer one)) both to asked in
      let one : PlainEnd = found.0 in
      let is_sound : IsSoundEnd model one.end = sound one found.1 in
      plain_leads basis outer has The not_null link_values one.end.set one.end.ty (key_at model outer one) is_sound.concrete is_sound.under (one_read one found.1) to
      (asked_of model has.sound one.end.set (entity_at model outer one) to found.2) (beyond_zero basis outer has The not_null link_values given wanted to free)

  abbrev pub Told : Valuation → SetId → Entity → Type 0
  Told values u one = IsNumberKey basis outer u (key_of model one) ⊎ IsRead basis outer The values (IsMember basis The not_null) u (key_of model one)

  state_read : (u : SetId) (one : Entity) → Contains (entities_in (link_state model outer a assoc) u) one → Told link_values u one
  state_read u one stands =
      let Member : SetId → List Value → Type 0 = λ v key. IsRead basis outer The link_values (IsMember basis The not_null) v key in
      stands_read basis outer has The not_null link_values given wanted asked_end (are_given model outer has both sound small apart) (are_keys model outer has both sound small apart)
      (λ v other there.
      (let found = given_end model outer has both sound small apart v other there in
      let key : key_of model other ≡ key_at model outer found.0 = ap (key_of model) (sym found.3) ∙ end_has_key model outer has found.0 (sound found.0 found.1) (small found.0 found.1) in
      subst (Member v) (sym key) (subst (λ (w : SetId). Member w (key_at model outer found.0)) found.2
      (as_member basis outer has The not_null link_values given wanted found.0.end.set (key_at model outer found.0) (one_read found.0 found.1)))))
      u one (subst (λ (list : List Entity). Contains list one)
      (entities_are model outer given (support model outer given wanted) (of_assoc model outer a (plain_link model outer assoc) ∷ []) u) stands)

  -- the values and the state of the focus are these
  pub link_values_are : values_of_focus basis outer The not_null ≡ link_values
  link_values_are = ap (λ found. option_map_or (λ (one : Assoc). by_link model one (plain_link model outer one)) found (record { prop = λ p. Null; part = λ b first p. Null })) here

  pub link_state_is : flow_state basis outer The not_null ≡ link_state model outer a assoc
  link_state_is = ap (λ found. option_map_or (link_state model outer a) found (empty_state model)) here

  pub own_read : (u : SetId) (one : Entity) → Contains (entities_in (flow_state basis outer The not_null) u) one → Told link_values u one
  own_read u one stands = state_read u one (subst (λ (state : State). Contains (entities_in state u) one) link_state_is stands)

  pub link_read : (u : SetId) (one : Entity) → Contains (entities_in (flow_state basis outer The not_null) u) one → Told (values_of_focus basis outer The not_null) u one
  link_read u one stands = subst (λ (values : Valuation). Told values u one) (sym link_values_are) (own_read u one stands)
