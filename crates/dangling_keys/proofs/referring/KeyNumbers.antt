-- The parts of keys in a state whose entities are told by what is forced are numbered; and an association is hosted at one of its ends.
use Rattle.std.proofs.Common.{◌≡◌, ◌≢◌, ◌⊎◌, inl, inr, ℕ, ◌<◌, ◌≤◌, List, map, Contains, Bool, true, false, Option, Some, None, refl, sym, ap, subst, ◌∙◌, arith}
use Rattle.std.proofs.lemmas.List.Elements.{All-contains}
use Rattle.emc_base.proofs.Members.{in_map}
use Rattle.round_trip.specs.Words.{Assoc, AssocId, ColId, Entity, EntityModel, EntitySet, IsLegal, Kind, LinkFragment, Null, Pair, PropId, SetId, State, TableId, Value, At, entities_in, key_columns, key_of, key_props, value_beside, value_of}
use Rattle.round_trip.specs.FailsAt.{IsHostedAt}
use Rattle.round_trip.specs.soundness.Lookups.{set_key}
use Rattle.round_trip.specs.soundness.models.Inheritance.{IsKeyProp}
use Rattle.round_trip.specs.soundness.mappings.Owners.{LinkMaps}
use Rattle.schema_laws.specs.state_demand.Owners.{IsOwned, props_in}
use Rattle.schema_laws.proofs.sound_demand.owners.Owned.{owned}
use Rattle.emc_base.proofs.Mapped.{contains_map}
use Rattle.schema_laws.specs.short_values.Fresh.{added_value, fresh, fresh_at, most_indices}
use Rattle.schema_laws.proofs.short_values.Places.{fresh_is}
use Rattle.schema_laws.proofs.sound_types.Inherited.{key_prop}
use Rattle.schema_laws.proofs.state_demand.owners.Owners.{beside_map}
use Rattle.cells.specs.Limits.{IsWithinLimits}
use Rattle.regions.specs.Basis.{Basis, Host}
use Rattle.regions.specs.Patterns.{Valuation, value_under}
use Rattle.regions.specs.declared.pattern.Focus.{Focus}
use Rattle.regions.specs.declared.pattern.Symbol.{Symbol}
use Rattle.regions.specs.region_laws.IsBasis.{IsBasis, IsHostOf}
use Rattle.regions.proofs.region_laws.entities.Held.{set_of_entity}
use Rattle.regions.proofs.region_laws.pattern.symbols.Hosting.{one_link, side_alike}
use Rattle.regions.proofs.region_laws.pattern.symbols.Origins.{side}
use Rattle.population.specs.Given.{HasNumbers}
use Rattle.population.proofs.plain.Numbered.{number_small, set_key_is, some_part}
use Rattle.forced_entities.specs.Forced.{part_in}
use Rattle.dangling_keys.specs.Flow.{IsFlow}
use Rattle.dangling_keys.specs.LeftOut.{IsMember, IsNumberKey, IsRead, ReadsPart}
use Rattle.dangling_keys.proofs.left_out.Flow.{flow_small}
use Rattle.dangling_keys.proofs.left_out.LeftOut.{shows}

module _ (basis : Basis) (is : IsBasis basis) (limits : IsWithinLimits basis.schema) (outer : ℕ) (row : outer ≤ 4) (of : Focus) (not_null : List PropId) (values : Valuation) (state : State)
    (legal : IsLegal basis.schema.model state)
    (valued : (one : Symbol) (i : ℕ) → IsFlow basis of one i → value_under values one ≢ Null → (k : Kind) × (value_under values one ≡ fresh k outer i))
    (u : SetId) (entity : Entity) (stands : Contains (entities_in state u) entity) where
  abbrev model : EntityModel
  model = basis.schema.model

  abbrev IsNumbered : PropId → Type 0
  IsNumbered p = (k : Kind) × (i : ℕ) × (i < most_indices) × (value_of model entity p ≡ fresh k outer i)

  has : HasNumbers model outer
  has = record { sound = is.sound.model; few = limits.model.0; row = row }

  module _ (set : EntitySet) (here : At model.sets u.index set) where
    added_part : (p : PropId) → Contains (set_key model u) p → (n : ℕ) → added_value n < most_indices → value_of model entity p ≡ fresh_at model outer p (added_value n) → IsNumbered p
    added_part p part n small is_added =
        let own : IsKeyProp model p = key_prop model is.sound.model p set.element (subst (λ (props : List PropId). Contains props p) (set_key_is model is.sound.model u set here) part) in
        (own.declared.kind, added_value n, small, is_added ∙ fresh_is model p own.declared own.is_declared outer (added_value n))

    read_part : (p : PropId) → Contains (set_key model u) p → (found : Option Symbol) → ReadsPart basis outer of values found p (value_beside p (set_key model u) (key_of model entity)) → IsNumbered p
    read_part p part None read = added_part p part 0 (number_small model outer has 0 (omega arith)) (sym (shows basis is limits outer row of not_null values state legal valued u set here entity stands p part) ∙ read)
    read_part p part (Some one) read =
        let small = flow_small basis is limits of one read.0 read.1 in
        (read.2, read.0, omega (arith, small), sym (shows basis is limits outer row of not_null values state legal valued u set here entity stands p part) ∙ read.3)

    by_read : IsNumberKey basis outer u (key_of model entity) ⊎ IsRead basis outer of values (IsMember basis of not_null) u (key_of model entity) → (p : PropId) → Contains (set_key model u) p → IsNumbered p
    by_read (inl numbered) p part =
        let at : PropId → Value = λ q. fresh_at model outer q (added_value numbered.number) in
        added_part p part numbered.number (number_small model outer has numbered.number numbered.below)
        (sym (shows basis is limits outer row of not_null values state legal valued u set here entity stands p part) ∙ ap (value_beside p (set_key model u)) numbered.is ∙ beside_map at (set_key model u) p part)
    by_read (inr read) p part = read_part p part (part_in basis read.one p) (read.reads p part)

  pub key_numbered : IsNumberKey basis outer u (key_of model entity) ⊎ IsRead basis outer of values (IsMember basis of not_null) u (key_of model entity)
      → (p : PropId) → Contains (set_key model u) p → (k : Kind) × (i : ℕ) × (i < most_indices) × (value_of model entity p ≡ fresh k outer i)
  key_numbered told p part = let set = set_of_entity basis state legal u entity stands in by_read set.0 set.1 told p part

-- a table that a set owns has a column in its primary key
owned_col : (basis : Basis) → IsBasis basis → (t : TableId) (u : SetId) (pairing : List Pair) → IsOwned basis.schema t u pairing → (col : ColId) × Contains (key_columns basis.schema.store t) col
owned_col basis is t u pairing own =
    let model : EntityModel = basis.schema.model in
    let part = some_part model is.sound.model u own.set own.is_set in
    let keyed : Contains (key_props model own.set.element) part.0 = subst (λ (props : List PropId). Contains props part.0) (set_key_is model is.sound.model u own.set own.is_set) part.1 in
    let found = in_map (λ (pair : Pair). pair.prop) pairing part.0 (All-contains (Contains (props_in pairing)) (key_props model own.set.element) part.0 own.paired keyed) in
    (found.0.col, subst (λ list. Contains list found.0.col) own.cols (contains_map (λ (pair : Pair). pair.col) pairing found.0 found.1))

-- and so has one that hosts an association
some_key : (basis : Basis) → IsBasis basis → (fragment : LinkFragment) (assoc : Assoc) → Contains basis.schema.mapping.links fragment → At basis.schema.model.assocs fragment.assoc.index assoc → (first : Bool)
    → IsHostedAt basis.schema fragment.table (side first fragment) → (col : ColId) × Contains (key_columns basis.schema.store fragment.table) col
some_key basis is fragment assoc mapped here = by
  where
    maps : LinkMaps basis.schema fragment.table fragment assoc
    maps = record { is_fragment = mapped; is_assoc = here; to_table = refl }

    by : (first : Bool) → IsHostedAt basis.schema fragment.table (side first fragment) → (col : ColId) × Contains (key_columns basis.schema.store fragment.table) col
    by true at = let own = owned basis.schema is.sound fragment.table assoc.first.set fragment.first (inr (fragment, assoc, maps, inl (at, refl, refl))) in
        owned_col basis is fragment.table assoc.first.set own.0 own.1
    by false at = let own = owned basis.schema is.sound fragment.table assoc.second.set fragment.second (inr (fragment, assoc, maps, inr (at, refl, refl))) in
        owned_col basis is fragment.table assoc.second.set own.0 own.1

-- of an association that is hosted at two sets, the ends are one
pub same_side : (basis : Basis) → IsBasis basis → (s u : SetId) (host other : Host) → Contains (basis.hosts s) host → Contains (basis.hosts u) other → host.assoc ≡ other.assoc
    → host.first_hosts ≡ other.first_hosts
same_side basis is s u host other hosted also same_assoc =
    let one : IsHostOf basis.schema s host = (is.hosts s host).0 hosted in
    let two : IsHostOf basis.schema u other = (is.hosts u other).0 also in
    let same : two.fragment ≡ one.fragment = one_link basis is two.fragment one.fragment two.is_fragment one.is_fragment (two.of_assoc ∙ sym same_assoc ∙ sym one.of_assoc) in
    let too : IsHostedAt basis.schema one.fragment.table (side other.first_hosts one.fragment) = subst (λ (f : LinkFragment). IsHostedAt basis.schema f.table (side other.first_hosts f)) same two.hosted in
    let here = subst (λ (a : AssocId). At basis.schema.model.assocs a.index one.assoc) (sym one.of_assoc) one.is_assoc in
    let col = some_key basis is one.fragment one.assoc one.is_fragment here host.first_hosts one.hosted in
    let first = in_map (λ (pair : Pair). pair.col) (side host.first_hosts one.fragment) col.0
    (All-contains (λ (c : ColId). Contains (map (λ (pair : Pair). pair.col) (side host.first_hosts one.fragment)) c) (key_columns basis.schema.store one.fragment.table) col.0 one.hosted.whole col.1) in
    let second = in_map (λ (pair : Pair). pair.col) (side other.first_hosts one.fragment) col.0
    (All-contains (λ (c : ColId). Contains (map (λ (pair : Pair). pair.col) (side other.first_hosts one.fragment)) c) (key_columns basis.schema.store one.fragment.table) col.0 too.whole col.1) in
    side_alike basis is one.fragment one.is_fragment host.first_hosts other.first_hosts first.0 second.0 first.1 second.1 (first.2 ∙ sym second.2)
