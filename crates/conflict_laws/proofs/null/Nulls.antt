-- Which symbols stand for null in a cell, and that those which can be null are so where nothing else is said.
use Rattle.std.proofs.Common.{◌≡◌, ◌⊎◌, ⊎_elim, inl, inr, ◌&&◌, List, [], ◌∷◌, Contains, Bool, true, true≢false, if◌then◌else◌, Option, Some, None, IsTrue, refl, sym, ap, subst, ◌∙◌, arith}
use Rattle.std.specs.Option.{option_map_or}
use Rattle.std.proofs.lemmas.Bool.{and_parts, cond_both}
use Rattle.emc_base.proofs.Lists.{at_once}
use Rattle.round_trip.specs.Words.{ColId, Null, Prop, PropId, SetId, TableId, Value, At, key_props}
use Rattle.round_trip.specs.soundness.models.Inheritance.{IsKeyProp}
use Rattle.condition_logic.specs.declared.atoms.Atom.{Atom}
use Rattle.condition_logic.specs.declared.atoms.Atom.TheVariants as atom
use Rattle.schema_laws.proofs.state_demand.lists.Lists.{head_stands, none_in_nil}
use Rattle.schema_laws.proofs.state_demand.writings.Selecting.{Decides-value}
use Rattle.cells.specs.Limits.{IsWithinLimits}
use Rattle.regions.specs.declared.region.Region.{Region}
use Rattle.regions.specs.declared.pattern.Focus.{Focus}
use Rattle.regions.specs.declared.pattern.Focus.TheVariants as focus
use Rattle.regions.specs.declared.pattern.Symbol.{Symbol}
use Rattle.regions.specs.declared.pattern.Symbol.TheVariants as symbol
use Rattle.regions.specs.Atoms.{atom_at}
use Rattle.regions.specs.Basis.{Basis}
use Rattle.regions.specs.Patterns.{Valuation, pattern_of, value_under}
use Rattle.regions.specs.Regions.{regions_of}
use Rattle.regions.specs.Settled.{Possible, is_nullable, multi, of_atom, possible, single}
use Rattle.regions.specs.region_laws.IsBasis.{IsBasis}
use Rattle.regions.specs.region_laws.pattern.Allowed.{CanBe, told_of}
use Rattle.regions.specs.region_laws.pattern.Listed.{Lists}
use Rattle.regions.proofs.region_laws.pattern.Laws.{symbol_possible}
use Rattle.regions.proofs.region_laws.pattern.values.Possible.{null_of_nullable}
use Rattle.region_states.specs.defaults.Defaults.{declared_value, default_valuation, default_value, some_value, value_by}
use Rattle.schema_laws.specs.short_values.Places.{is_among, place_in}
use Rattle.schema_laws.specs.short_values.Fresh.{focus_key, fresh}
use Rattle.schema_laws.proofs.sound_types.Inherited.{key_prop}
use Rattle.region_states.proofs.defaults.Defaults.{default_admissible}
use Rattle.schema_laws.proofs.short_values.Places.{Decides-among}
use Rattle.region_states.specs.conflicts.Facts.{can_be_null, lists, stands_for_null}
use Rattle.conflict_laws.proofs.clash.Listed.{Decides-lists}

-- where a symbol has the value null, null is possible
pub null_possible : (can : Possible) → CanBe can Null → IsTrue (can_be_null can)
null_possible (single value) is = (Decides-value value Null).1 (sym is)
null_possible (multi nullable) may = may refl

-- the one possible value is null, or there are several with null among them
null_or_several : (can : Possible) (value : Value) → IsTrue (can_be_null can) → CanBe can value → (value ≡ Null) ⊎ (can ≡ multi true)
null_or_several (single one) value told is = inl (is ∙ (Decides-value one Null).0 told)
null_or_several (multi nullable) value told may = inr (ap multi told)

module _ (basis : Basis) (of : Focus) where
  -- what stands for null beside other symbols is listed and can be null
  pub stands_listed : (cell : List Symbol) (one other : Symbol) → Contains cell other → IsTrue (stands_for_null basis of cell one)
      → Contains cell one × IsTrue (can_be_null (possible basis.schema.model (told_of of) one))
  stands_listed [] one other has told = absurd (none_in_nil other has)
  stands_listed (first ∷ rest) one other has told =
      let both = and_parts _ _ told in ((Decides-lists (first ∷ rest) one).0 both.0, both.1)

  -- where each listed symbol can be null, or none is listed, some symbol stands for null
  pub some_stands : (cell : List Symbol) → ((one : Symbol) → Contains cell one → IsTrue (can_be_null (possible basis.schema.model (told_of of) one)))
      → (one : Symbol) × IsTrue (stands_for_null basis of cell one)
  some_stands [] each = (symbol.Null, refl)
  some_stands (first ∷ rest) each = (
    first,
    let listed : IsTrue (lists (first ∷ rest) first) = (Decides-lists (first ∷ rest) first).1 (head_stands first rest) in
        let null : IsTrue (can_be_null (possible basis.schema.model (told_of of) first)) = each first (head_stands first rest) in
        (λ k. listed k && null k),
  )

module _ (basis : Basis) (is : IsBasis basis) where
  module _ (region : Region) (p : PropId) (declared : Prop) (here : At basis.schema.model.props p.index declared) (nullable : IsTrue declared.nullable) where
    abbrev keys : List PropId
    keys = key_props basis.schema.model region.ty

    -- a nullable property is no part of the key
    no_key : ¬ Contains keys p
    no_key key =
        let is_key : IsKeyProp basis.schema.model p = key_prop basis.schema.model is.sound.model p region.ty key in
        let same : is_key.declared ≡ declared = at_once basis.schema.model.props p.index is_key.declared declared is_key.is_declared here in
        true≢false (sym nullable ∙ sym (ap (λ (one : Prop). one.nullable) same) ∙ is_key.needed)

    -- and it is null where nothing is told of it
    null_by : (found : Option Atom) → option_map_or of_atom found (multi (is_nullable basis.schema.model p)) ≡ multi true
        → value_by basis 0 region.ty p declared found ≡ Null
    null_by None several = ap (λ (b : Bool). if b then Null else some_value basis 0 region.ty p declared) nullable
    null_by (Some atom.Null) several = cc
    null_by (Some (atom.Is one)) several = cc
    null_by (Some atom.Other) several = cc

    several_null : possible basis.schema.model region.atoms (symbol.Prop p) ≡ multi true → default_value basis 0 region p ≡ Null
    several_null several =
        ap (λ found. option_map_or (declared_value basis 0 region p) found Null) here
        ∙ cond_both (is_among p keys) (fresh declared.kind 0 (focus_key (place_in p keys))) (value_by basis 0 region.ty p declared (atom_at region.atoms p))
        (λ value. value ≡ Null)
        (λ told. absurd (no_key ((Decides-among keys p).0 told)))
        (λ told. null_by (atom_at region.atoms p) several)

  -- a listed symbol that can be null is null where nothing else is said
  pub default_null : IsWithinLimits basis.schema → (s : SetId) (region : Region) → Contains (regions_of basis s) region → (t : TableId) (col : ColId) (one : Symbol)
      → Lists (pattern_of basis (focus.Entity region)) t col one → IsTrue (can_be_null (possible basis.schema.model region.atoms one))
      → value_under (default_valuation basis 0 region) one ≡ Null
  default_null limits s region has t col one lists told =
      let values : Valuation = default_valuation basis 0 region in
      let can : Possible = possible basis.schema.model region.atoms one in
      let Several : Symbol → Type 0 = λ other. possible basis.schema.model region.atoms other ≡ multi true in
      ⊎_elim
      (λ (null : value_under values one ≡ Null). null)
      (λ (several : Several one).
      let found = null_of_nullable basis.schema.model region.atoms one several in
      ap (value_under values) found.2 ∙ several_null region found.0 found.1 found.3 found.4 (subst Several found.2 several))
      (null_or_several can (value_under values one) told
      (symbol_possible basis is (record {
        of = focus.Entity region;
        is_focus = (s, has);
        values = values;
        allowed = (default_admissible basis is limits s region has 0 (omega arith)).allowed;
      }) t col one lists))
