-- What a free cell may hold on which there is a condition, or which a link fragment writes a part of a key to.
use Rattle.std.proofs.Common.{◌≡◌, ◌≢◌, ⊎_elim, [], Bool, Contains, refl, sym, ap, subst, ◌∙◌}
use Rattle.std.specs.Option.{option_map_or}
use Rattle.round_trip.specs.Words.{SetId, TableId, ColId, AssocId, PropId, Value, Null, Cond, key_columns, props_of}
use Rattle.edm_types.specs.declared.mapping.CondOn.TheVariants as on
use Rattle.edm_types.specs.declared.mapping.Test.TheVariants.{Equals}
use Rattle.round_trip.specs.soundness.mappings.Joined.{HostsPartner, IsNoKey, Joined, col, prop}
use Rattle.round_trip.specs.soundness.mappings.Joined as joined
use Rattle.condition_logic.specs.declared.atoms.Atom.{Atom}
use Rattle.condition_logic.specs.declared.atoms.Atom.TheVariants as atom
use Rattle.member_groups.specs.Tested.{HasCondition, IsImplied, IsTested}
use Rattle.regions.specs.region_laws.IsBasis.{IsBasis}
use Rattle.regions.specs.declared.region.Region.{Region}
use Rattle.regions.specs.declared.pattern.Symbol.{Symbol}
use Rattle.regions.specs.declared.pattern.Symbol.TheVariants as symbol
use Rattle.regions.specs.declared.pattern.Focus.{Focus}
use Rattle.regions.specs.declared.pattern.Focus.TheVariants as focus
use Rattle.regions.specs.Atoms.{LiesIn}
use Rattle.regions.specs.Basis.{Basis}
use Rattle.regions.specs.Patterns.{Valuation, value_under}
use Rattle.regions.specs.Regions.{regions_of}
use Rattle.regions.specs.Settled.{is_nullable, multi, of_atom, possible}
use Rattle.regions.specs.region_laws.pattern.Allowed.{AreAllowed, IsAllowed, IsAllowedLink, IsFocus, told_of}
use Rattle.regions.proofs.region_laws.pattern.types.Groups.{asked_by, asked_tested, compared_constant, implied_tested, joined_tested, no_key_asked, partner_uncompared, told_tested}
use Rattle.regions.proofs.region_laws.pattern.symbols.Origins.{From}
use Rattle.regions.proofs.region_laws.pattern.values.Possible.{end_not_null, key_not_null}
use Rattle.regions.proofs.region_laws.pattern.types.Regions.{atom_there, lies_in}
use Rattle.regions.proofs.region_laws.pattern.symbols.Standing.{StandsFree, StandsInKey, end_of, end_stands, joined_by, link_no_prop, listed_prop, prop_stands}
use Rattle.schema_laws.proofs.sound_types.Inherited.{part_of_type}

-- several values, of an atom, are those of the atom Other
other_of : (told : Atom) (n : Bool) → of_atom told ≡ multi n → told ≡ atom.Other
other_of atom.Null n is = cc
other_of (atom.Is value) n is = cc
other_of atom.Other n is = refl

module _ (basis : Basis) (is : IsBasis basis) where
  -- a value that no condition can tell: not null, and none with which the condition compares
  pub record IsUntold (cond : Cond) (value : Value) : Type 0 where
    pub not_null : value ≢ Null
    pub not_equal : (constant : Value) → cond.test ≡ Equals constant → value ≢ constant

  -- a tested property that has several values
  module _ (s : SetId) (region : Region) (has : Contains (regions_of basis s) region) (valuation : Valuation) (allowed : IsAllowed basis region valuation)
      (t : TableId) (c : ColId) (p : PropId) (n : Bool) (several : possible basis.schema.model region.atoms (symbol.Prop p) ≡ multi n)
      (from : From basis (focus.Entity region) t c (symbol.Prop p)) where
    among : Contains (props_of basis.schema.model region.ty) p
    among = listed_prop basis is s region has t c p from

    lies_other : StandsFree basis t c p → IsTested basis.schema (col t c) → LiesIn (basis.constants (prop p)) atom.Other (valuation.prop p)
    lies_other free tested =
        let joins = joined_by basis t c p free in
        let told = told_tested basis is (prop p) free.free_prop (joined_tested basis is (col t c) (prop p) (joined.back (prop p) (col t c) joins) tested) in
        let found = atom_there basis is s region has p among told in
        let one : of_atom found.0 ≡ multi n = sym (ap (λ o. option_map_or of_atom o (multi (is_nullable basis.schema.model p))) found.1) ∙ several in
        let P : Atom → Type 0 = λ told_atom. LiesIn (basis.constants (prop p)) told_atom (valuation.prop p) in
        subst P (other_of found.0 n one) (lies_in basis region valuation allowed p found.0 found.1)

    prop_untold : (cond : Cond) → HasCondition basis.schema t cond → cond.on ≡ on.Col c → IsUntold cond (valuation.prop p)
    prop_untold cond asked on_col = ⊎_elim
        (λ (key : StandsInKey basis t c p). absurd (no_key_asked basis is t c cond asked on_col key.key_col))
        (λ (free : StandsFree basis t c p).
        let lies = lies_other free (asked_tested basis is t c free.free_col (asked_by basis is t c cond asked on_col)) in
        record {
          not_null = lies.0;
          not_equal = λ constant equals same. lies.1 (subst (Contains (basis.constants (prop p))) (sym same)
              (compared_constant basis is p t c (joined_by basis t c p free) cond asked on_col constant equals));
        })
        (prop_stands basis is (focus.Entity region) (s, has) t c p from)

    prop_not_null : IsImplied basis.schema (col t c) → valuation.prop p ≢ Null
    prop_not_null implied = ⊎_elim
        (λ (key : StandsInKey basis t c p).
        key_not_null basis is s region has valuation allowed p among (part_of_type basis.schema.model is.sound.model p region.ty among key.part))
        (λ (free : StandsFree basis t c p). (lies_other free (implied_tested basis is t c free.free_col implied)).0)
        (prop_stands basis is (focus.Entity region) (s, has) t c p from)

  -- an end
  end_untold : (of : Focus) (valuation : Valuation) → AreAllowed basis of valuation → (t : TableId) (c : ColId) (a : AssocId) (first : Bool) (p : PropId)
      → From basis of t c (symbol.End a first p) → (cond : Cond) → HasCondition basis.schema t cond → cond.on ≡ on.Col c → IsUntold cond (valuation.part a first p)
  end_untold of valuation allowed t c a first p from cond asked on_col =
      let by = end_of basis of t c a first p from in
      record {
        not_null = end_not_null basis is valuation t c a first p of allowed by;
        not_equal = λ constant equals same. ⊎_elim
            (λ (key : Contains (key_columns basis.schema.store t) c). no_key_asked basis is t c cond asked on_col key)
            (λ (hosts : HostsPartner basis.schema t c). partner_uncompared basis is t c hosts cond asked on_col constant equals)
            (end_stands basis is of t c a first p by);
      }

  region_untold : (s : SetId) (region : Region) → Contains (regions_of basis s) region → (valuation : Valuation) → IsAllowed basis region valuation → (t : TableId) (c : ColId)
      → (one : Symbol) (n : Bool) → possible basis.schema.model region.atoms one ≡ multi n → From basis (focus.Entity region) t c one
      → (cond : Cond) → HasCondition basis.schema t cond → cond.on ≡ on.Col c → IsUntold cond (value_under valuation one)
  region_untold s region has valuation allowed t c symbol.Null n several from cond asked on_col = cc
  region_untold s region has valuation allowed t c (symbol.Const value) n several from cond asked on_col = cc
  region_untold s region has valuation allowed t c (symbol.Prop p) n several from cond asked on_col =
      prop_untold s region has valuation allowed t c p n several from cond asked on_col
  region_untold s region has valuation allowed t c (symbol.End a first p) n several from cond asked on_col =
      end_untold (focus.Entity region) valuation allowed t c a first p from cond asked on_col

  link_untold : (b : AssocId) (valuation : Valuation) → IsAllowedLink basis b valuation → (t : TableId) (c : ColId)
      → (one : Symbol) (n : Bool) → possible basis.schema.model [] one ≡ multi n → From basis (focus.Link b) t c one
      → (cond : Cond) → HasCondition basis.schema t cond → cond.on ≡ on.Col c → IsUntold cond (value_under valuation one)
  link_untold b valuation allowed t c symbol.Null n several from cond asked on_col = cc
  link_untold b valuation allowed t c (symbol.Const value) n several from cond asked on_col = cc
  link_untold b valuation allowed t c (symbol.Prop p) n several from cond asked on_col = absurd (link_no_prop basis is b t c p from)
  link_untold b valuation allowed t c (symbol.End a first p) n several from cond asked on_col = end_untold (focus.Link b) valuation allowed t c a first p from cond asked on_col

  pub untold : (of : Focus) → IsFocus basis of → (valuation : Valuation) → AreAllowed basis of valuation → (t : TableId) (c : ColId) (one : Symbol) (n : Bool)
      → possible basis.schema.model (told_of of) one ≡ multi n → From basis of t c one → (cond : Cond) → HasCondition basis.schema t cond → cond.on ≡ on.Col c
      → IsUntold cond (value_under valuation one)
  untold (focus.Entity region) (s, has) valuation allowed t c one n several from cond asked on_col =
      region_untold s region has valuation allowed t c one n several from cond asked on_col
  untold (focus.Link b) here valuation allowed t c one n several from cond asked on_col = link_untold b valuation allowed t c one n several from cond asked on_col

  region_not_null : (s : SetId) (region : Region) → Contains (regions_of basis s) region → (valuation : Valuation) → IsAllowed basis region valuation → (t : TableId) (c : ColId)
      → (one : Symbol) (n : Bool) → possible basis.schema.model region.atoms one ≡ multi n → From basis (focus.Entity region) t c one → IsImplied basis.schema (col t c)
      → value_under valuation one ≢ Null
  region_not_null s region has valuation allowed t c symbol.Null n several from implied = cc
  region_not_null s region has valuation allowed t c (symbol.Const value) n several from implied = cc
  region_not_null s region has valuation allowed t c (symbol.Prop p) n several from implied = prop_not_null s region has valuation allowed t c p n several from implied
  region_not_null s region has valuation allowed t c (symbol.End a first p) n several from implied =
      end_not_null basis is valuation t c a first p (focus.Entity region) allowed (end_of basis (focus.Entity region) t c a first p from)

  link_not_null : (b : AssocId) (valuation : Valuation) → IsAllowedLink basis b valuation → (t : TableId) (c : ColId)
      → (one : Symbol) (n : Bool) → possible basis.schema.model [] one ≡ multi n → From basis (focus.Link b) t c one → value_under valuation one ≢ Null
  link_not_null b valuation allowed t c symbol.Null n several from = cc
  link_not_null b valuation allowed t c (symbol.Const value) n several from = cc
  link_not_null b valuation allowed t c (symbol.Prop p) n several from = absurd (link_no_prop basis is b t c p from)
  link_not_null b valuation allowed t c (symbol.End a first p) n several from =
      end_not_null basis is valuation t c a first p (focus.Link b) allowed (end_of basis (focus.Link b) t c a first p from)

  pub not_null : (of : Focus) → IsFocus basis of → (valuation : Valuation) → AreAllowed basis of valuation → (t : TableId) (c : ColId) (one : Symbol) (n : Bool)
      → possible basis.schema.model (told_of of) one ≡ multi n → From basis of t c one → IsImplied basis.schema (col t c) → value_under valuation one ≢ Null
  not_null (focus.Entity region) (s, has) valuation allowed t c one n several from implied = region_not_null s region has valuation allowed t c one n several from implied
  not_null (focus.Link b) here valuation allowed t c one n several from implied = link_not_null b valuation allowed t c one n several from
