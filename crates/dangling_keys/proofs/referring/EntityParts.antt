-- The values that an entity's row shows in the columns of a foreign key: parts of keys, or values that the chosen row of numbers doesn't have.
use Rattle.std.proofs.Common.{◌≡◌, ◌≢◌, ◌⊎◌, ⊎_elim, inl, inr, ℕ, ◌≤◌, List, [], length, Contains, Bool, true, Option, Some, None, refl, sym, ap, subst, ◌∙◌, arith}
use Rattle.std.specs.Option.{option_map_or}
use Rattle.std.proofs.lemmas.List.{length-map}
use Rattle.emc_base.proofs.FoundItems.{contains_flat_map}
use Rattle.emc_base.proofs.Mapped.{contains_map}
use Rattle.emc_base.proofs.Members.{contains_head}
use Rattle.round_trip.specs.Words.{AssocId, ColId, Entity, ForeignKey, Kind, Null, Pair, Prop, PropId, SetId, Value, entities_in, key_columns, key_of, value_beside}
use Rattle.round_trip.specs.soundness.Lookups.{set_key}
use Rattle.round_trip.specs.soundness.mappings.Joined.{prop}
use Rattle.schema_laws.specs.short_values.Fresh.{fresh}
use Rattle.schema_laws.specs.state_demand.WellWritten.{cols_of}
use Rattle.schema_laws.proofs.sound_types.Inherited.{declared_above}
use Rattle.cells.specs.Limits.{IsWithinLimits}
use Rattle.regions.specs.Basis.{Basis}
use Rattle.regions.specs.Patterns.{Valuation, value_under}
use Rattle.regions.specs.Regions.{regions_of}
use Rattle.regions.specs.Settled.{Settled, free, known}
use Rattle.regions.specs.declared.pattern.Focus.{Focus}
use Rattle.regions.specs.declared.pattern.Focus.TheVariants as focus
use Rattle.regions.specs.declared.pattern.Symbol.{Symbol}
use Rattle.regions.specs.declared.pattern.Symbol.TheVariants as symbol
use Rattle.regions.specs.declared.region.Region.{Region}
use Rattle.regions.specs.region_laws.Held.{LinkedEntity}
use Rattle.regions.specs.region_laws.IsBasis.{IsBasis}
use Rattle.region_states.specs.defaults.Candidates.{first_free}
use Rattle.region_states.proofs.Entities.{has_value}
use Rattle.forced_entities.specs.Forced.{part_in}
use Rattle.forced_entities.specs.declared.member.Forced.{Forced}
use Rattle.forced_entities.specs.Held.{values_at}
use Rattle.dangling_keys.specs.Dangling.{IsRowFocus}
use Rattle.dangling_keys.specs.Flow.{IsFlow}
use Rattle.dangling_keys.specs.FlowStates.{AreOpen, values_of_focus}
use Rattle.dangling_keys.specs.Laws.{ShowsApart}
use Rattle.dangling_keys.specs.LeftOut.{IsMember, IsNumberKey, IsRead, ReadsPart}
use Rattle.dangling_keys.specs.Outer.{IsOuter, IsPartOrOuter, outer_row, outer_value, outer_values}
use Rattle.dangling_keys.specs.Showing.{MayRefer, cell_at, not_null_for, nullable_in, shown_at}
use Rattle.dangling_keys.proofs.left_out.EntityRead.{entity_read}
use Rattle.dangling_keys.proofs.left_out.FlowValues.{flow_value, free_some, several_value}
use Rattle.dangling_keys.proofs.left_out.LeftOut as left
use Rattle.dangling_keys.proofs.referring.Listing.{IsPlainProp, are_open, few_cols, free_listed, key_is_sound, link_symbol, shown_symbol}
use Rattle.dangling_keys.proofs.told.Matching.{HasBeside, from_there}
use Rattle.dangling_keys.proofs.referring.Outer.{row_free, row_outer}

-- the row of numbers of a foreign key at a focus
module _ (basis : Basis) (is : IsBasis basis) (key : ForeignKey) (is_key : Contains basis.schema.store.keys key) (of : Focus) where
  few_values : length (outer_values basis of key) ≤ 4
  few_values =
      let few = few_cols basis is key is_key in
      let count = length-map key.from_cols (λ (col : ColId). outer_value basis (cell_at basis of key.from col)) in
      omega (arith, few, count)

  pub outer_small : outer_row basis of key ≤ 4
  outer_small = (row_free (outer_values basis of key) few_values).0

  pub cell_outer : (col : ColId) → Contains key.from_cols col → IsOuter (outer_row basis of key) (outer_value basis (cell_at basis of key.from col))
  cell_outer col has = row_outer (outer_values basis of key) few_values (outer_value basis (cell_at basis of key.from col))
      (contains_map (λ (one : ColId). outer_value basis (cell_at basis of key.from one)) key.from_cols col has)

  -- what is so of the cells is so of what is shown
  pub shown_parts : (values : Valuation) → ((col : ColId) → Contains key.from_cols col → IsPartOrOuter basis (outer_row basis of key) of values (cell_at basis of key.from col))
      → (pairing : List Pair) → cols_of pairing ≡ key_columns basis.schema.store key.to → (pair : Pair) → Contains pairing pair
      → IsPartOrOuter basis (outer_row basis of key) of values (shown_at basis of key pair.col)
  shown_parts values each pairing cols pair has =
      let among : Contains (key_columns basis.schema.store key.to) pair.col = subst (λ list. Contains list pair.col) cols (contains_map (λ (one : Pair). one.col) pairing pair has) in
      let beside : HasBeside key.to_cols key.from_cols pair.col = from_there basis.schema.store key (key_is_sound basis is key is_key) pair.col among in
      let P : Option ColId → Type 0 = λ found. IsPartOrOuter basis (outer_row basis of key) of values (option_map_or (cell_at basis of key.from) found (known Null)) in
      subst P (sym beside.is) (each beside.from beside.among)

module _ (basis : Basis) (is : IsBasis basis) (limits : IsWithinLimits basis.schema) (s : SetId) (region : Region) (listed : Contains (regions_of basis s) region) (key : ForeignKey)
    (is_key : Contains basis.schema.store.keys key) (may : MayRefer basis (focus.Entity region) key) where
  abbrev pub The : Focus
  The = focus.Entity region

  abbrev pub outer : ℕ
  outer = outer_row basis The key

  abbrev pub not_null : List PropId
  not_null = not_null_for basis The key

  pub row : outer ≤ 4
  row = outer_small basis is key is_key The

  pub open_ : AreOpen basis region not_null
  open_ = are_open basis is s region listed key is_key may.row

  abbrev pub linked : LinkedEntity basis
  linked = left.linked basis is limits outer row s region listed not_null open_

  abbrev pub values : Valuation
  values = values_at basis linked

  abbrev pub usual : Valuation
  usual = left.own_values basis is limits outer row s region listed not_null open_

  symbol_is : (one : Symbol) (i : ℕ) → IsFlow basis The one i → value_under values one ≡ value_under usual one
  symbol_is = left.symbol_held basis is limits outer row s region listed not_null open_

  -- a symbol that stands for a part of a key has a numbered value
  pub valued : (one : Symbol) (i : ℕ) → IsFlow basis The one i → value_under values one ≢ Null → (k : Kind) × (value_under values one ≡ fresh k outer i)
  valued one i flow there =
      let told = flow_value basis outer s region (left.of basis is limits outer row s region listed not_null open_) not_null open_ one i flow (subst (λ (v : Value). v ≢ Null) (symbol_is one i flow) there) in
      (told.0, symbol_is one i flow ∙ told.1)

  pub reads_as : (found : Option Symbol) (p : PropId) (value : Value) → ReadsPart basis outer The usual found p value → ReadsPart basis outer The values found p value
  reads_as None p value read = read
  reads_as (Some one) p value read = (read.0, read.1, read.2, read.3, read.4 ∙ sym (symbol_is one read.0 read.1))

  -- what tells a key by the values of the state tells it by the entity's
  abbrev pub as_read : (IsOne : Forced → Type 0) (u : SetId) (at : List Value) → IsRead basis outer The usual IsOne u at → IsRead basis outer The values IsOne u at
  as_read IsOne u at read = record {
    one = read.one;
    is_one = read.is_one;
    of_set = read.of_set;
    under = read.under;
    reads = λ p part. reads_as (part_in basis read.one p) p (value_beside p (set_key basis.schema.model u) at) (read.reads p part);
  }

  -- each entity of the state is one of a number, or told by what is forced
  pub told_read : (u : SetId) (one : Entity) → Contains (entities_in linked.state u) one
      → IsNumberKey basis outer u (key_of basis.schema.model one) ⊎ IsRead basis outer The values (IsMember basis The not_null) u (key_of basis.schema.model one)
  told_read u one stands = ⊎_elim
      (λ (numbered : IsNumberKey basis outer u (key_of basis.schema.model one)). inl numbered)
      (λ (read : IsRead basis outer The usual (IsMember basis The not_null) u (key_of basis.schema.model one)). inr (as_read (IsMember basis The not_null) u (key_of basis.schema.model one) read))
      (entity_read basis outer s region (left.of basis is limits outer row s region listed not_null open_) not_null open_ u one stands)

  -- a property that is no dependent one has the value that was set apart
  plain_usual : (col : ColId) → Contains key.from_cols col → (one : Symbol) (nullable : Bool) → cell_at basis The key.from col ≡ free one nullable → (plain : IsPlainProp basis is region one)
      → usual.prop plain.p ≡ outer_value basis (cell_at basis The key.from col)
  plain_usual col has one nullable told plain =
      let p : PropId = plain.p in
      let declared = declared_above basis.schema.model is.sound.model p region.ty plain.among in
      let one_told : cell_at basis The key.from col ≡ free (symbol.Prop p) nullable = told ∙ ap (λ (it : Symbol). free it nullable) plain.is_prop in
      let several = (free_listed basis is key is_key The may.row col has (symbol.Prop p) nullable one_told).1 in
      let region_of = left.of basis is limits outer row s region listed not_null open_ in
      let given : nullable ≡ true → Contains not_null p = λ so.
      (let cell : cell_at basis The key.from col ≡ free (symbol.Prop p) true = one_told ∙ ap (free (symbol.Prop p)) so in
      contains_flat_map (λ (other : ColId). nullable_in (cell_at basis The key.from other)) key.from_cols col p has
      (subst (λ (it : Settled). Contains (nullable_in it) p) (sym cell) (contains_head p []))) in
      let first : Value = first_free declared.0.kind (basis.constants (prop p)) in
      let set_apart : outer_value basis (free (symbol.Prop p) nullable) ≡ first =
      ap (λ (found : Option Prop). option_map_or (λ (it : Prop). first_free it.kind (basis.constants (prop p))) found Null) declared.1 in
      let is_some : usual.prop p ≡ first = several_value basis outer s region region_of not_null open_ p declared.0 declared.1 plain.no_key nullable several given
      ∙ free_some basis outer s region region_of not_null open_ p declared.0 declared.1 plain.free_of in
      is_some ∙ sym set_apart ∙ ap (outer_value basis) (sym one_told)

  -- so where values have it for such a property, each cell is a part of a key, or outside of the row
  part_of : (these : Valuation) → ((one : Symbol) (plain : IsPlainProp basis is region one) → value_under these one ≡ usual.prop plain.p)
      → (col : ColId) → Contains key.from_cols col → IsPartOrOuter basis outer The these (cell_at basis The key.from col)
  part_of these same col has = by (cell_at basis The key.from col) refl (cell_outer basis is key is_key The col has)
    where
      by : (cell : Settled) → cell_at basis The key.from col ≡ cell → IsOuter outer (outer_value basis (cell_at basis The key.from col)) → IsPartOrOuter basis outer The these cell
      by (known value) told outside = subst (IsOuter outer) (ap (outer_value basis) told) outside
      by (free one nullable) told outside = ⊎_elim
          (λ (flow : (i : ℕ) × IsFlow basis The one i). inl flow)
          (λ (plain : IsPlainProp basis is region one). inr (subst (IsOuter outer) (sym (same one plain ∙ plain_usual col has one nullable told plain)) outside))
          (shown_symbol basis is s region listed key is_key may.row col has one nullable told)

  cell_part : (col : ColId) → Contains key.from_cols col → IsPartOrOuter basis outer The values (cell_at basis The key.from col)
  cell_part = part_of values (λ one plain. ap (value_under values) plain.is_prop ∙ has_value basis region usual plain.p plain.among)

  pub entity_apart : ShowsApart basis The key
  entity_apart = record {
    row = row;
    open_ = λ other same. (let is_it : region ≡ other = (let both : focus.Entity region ≡ focus.Entity other = same in cc) in subst (λ (it : Region). AreOpen basis it not_null) is_it open_);
    cells = part_of usual (λ one plain. ap (value_under usual) plain.is_prop);
  }

  pub entity_parts : (pairing : List Pair) → cols_of pairing ≡ key_columns basis.schema.store key.to → (pair : Pair) → Contains pairing pair
      → IsPartOrOuter basis outer The values (shown_at basis The key pair.col)
  entity_parts = shown_parts basis is key is_key The values cell_part

-- a link shows parts of keys, and constants outside of the row
pub link_part : (basis : Basis) (is : IsBasis basis) (a : AssocId) (key : ForeignKey) → Contains basis.schema.store.keys key → MayRefer basis (focus.Link a) key → (values : Valuation) (col : ColId) → Contains key.from_cols col
    → IsPartOrOuter basis (outer_row basis (focus.Link a) key) (focus.Link a) values (cell_at basis (focus.Link a) key.from col)
link_part basis is a key is_key may values col has = by (cell_at basis (focus.Link a) key.from col) refl (cell_outer basis is key is_key (focus.Link a) col has)
  where
    by : (cell : Settled) → cell_at basis (focus.Link a) key.from col ≡ cell → IsOuter (outer_row basis (focus.Link a) key) (outer_value basis (cell_at basis (focus.Link a) key.from col))
        → IsPartOrOuter basis (outer_row basis (focus.Link a) key) (focus.Link a) values cell
    by (known value) told outside = subst (IsOuter (outer_row basis (focus.Link a) key)) (ap (outer_value basis) told) outside
    by (free one nullable) told outside = inl (link_symbol basis is a key is_key may.row col has one nullable told)

link_apart : (basis : Basis) (is : IsBasis basis) (a : AssocId) (key : ForeignKey) → Contains basis.schema.store.keys key → MayRefer basis (focus.Link a) key → ShowsApart basis (focus.Link a) key
link_apart basis is a key is_key may = record {
  row = outer_small basis is key is_key (focus.Link a);
  open_ = λ region same. absurd (let never : focus.Link a ≡ focus.Entity region = same in cc);
  cells = link_part basis is a key is_key may (values_of_focus basis (outer_row basis (focus.Link a) key) (focus.Link a) (not_null_for basis (focus.Link a) key));
}

pub shows_apart : (basis : Basis) (is : IsBasis basis) (limits : IsWithinLimits basis.schema) (key : ForeignKey) → Contains basis.schema.store.keys key → (of : Focus) → IsRowFocus basis of → MayRefer basis of key
    → ShowsApart basis of key
shows_apart basis is limits key is_key (focus.Entity region) row may = entity_apart basis is limits row.0 region row.1 key is_key may
shows_apart basis is limits key is_key (focus.Link a) row may = link_apart basis is a key is_key may
