-- Where a cell lists an end of a link, a symbol of it that can have one value alone stands for null.
use Rattle.std.proofs.Common.{◌≡◌, ⊎_elim, inl, inr, Contains, Option, Some, None, Bool, refl, subst}
use Rattle.std.specs.Option.{option_map_or}
use Rattle.round_trip.specs.Words.{SetId, TableId, ColId, AssocId, PropId, Value, Null, Test, Schema, key_columns}
use Rattle.edm_types.specs.declared.mapping.Test.TheVariants.{IsNull, Equals}
use Rattle.round_trip.specs.soundness.mappings.Joined.{HostsPartner, Joined, Member, col, prop}
use Rattle.round_trip.specs.soundness.mappings.Joined as joined
use Rattle.condition_logic.specs.declared.atoms.Atom.{Atom}
use Rattle.condition_logic.specs.declared.atoms.Atom.TheVariants as atom
use Rattle.member_groups.specs.Tested.{IsConstant}
use Rattle.member_groups.proofs.Numbering.{free_member}
use Rattle.schema_laws.proofs.state_demand.lists.Lists.{none_in_nil}
use Rattle.regions.specs.declared.region.Region.{Region}
use Rattle.regions.specs.declared.pattern.Symbol.{Symbol}
use Rattle.regions.specs.declared.pattern.Symbol.TheVariants as symbol
use Rattle.regions.specs.declared.pattern.Focus.TheVariants as focus
use Rattle.regions.specs.Atoms.{atom_at}
use Rattle.regions.specs.Basis.{Basis}
use Rattle.regions.specs.Patterns.{pattern_of}
use Rattle.regions.specs.Regions.{regions_of}
use Rattle.regions.specs.Settled.{is_nullable, multi, of_atom, possible, single}
use Rattle.regions.specs.region_laws.IsBasis.{IsBasis}
use Rattle.regions.specs.region_laws.pattern.Listed.{Lists}
use Rattle.regions.specs.region_laws.pattern.Plain.{IsPlain}
use Rattle.regions.proofs.region_laws.pattern.types.Groups.{is_plain, partner_uncompared}
use Rattle.regions.proofs.region_laws.pattern.Laws.{listed_from, same_group}
use Rattle.regions.proofs.region_laws.pattern.symbols.Origins.{From, GivesSymbol, by_cond, by_end, by_host, by_pair}
use Rattle.regions.proofs.region_laws.pattern.symbols.Standing.{StandsFree, StandsInKey, end_of, end_stands, joined_by, prop_stands}
use Rattle.region_states.proofs.defaults.Candidates.{plain_kind}
use Rattle.region_states.proofs.defaults.Listed.{IsTold, found_told}
use Rattle.region_states.proofs.defaults.Valued.{atom_tells}

-- what is joined has the same constants
constant_joined : (schema : Schema) (one other : Member) → Joined schema one other → (v : Value) → IsConstant schema other v → IsConstant schema one v
constant_joined schema one other joins v (inl (third, to, compared)) = inl (third, joined.chain one other third joins to, compared)
constant_joined schema one other joins v (inr ((third, to, makes), (r, enumeration, n, to_r, of_enum, among, same))) =
    inr ((third, joined.chain one other third joins to, makes), (r, enumeration, n, joined.chain one other (prop r) joins to_r, of_enum, among, same))

module _ (basis : Basis) (is : IsBasis basis) (s : SetId) (region : Region) (has : Contains (regions_of basis s) region) (t : TableId) (c : ColId)
    (no_key : ¬ Contains (key_columns basis.schema.store t) c) where
  abbrev Listed : Symbol → Type 0
  Listed one = Lists (pattern_of basis (focus.Entity region)) t c one

  -- a column outside the primary key that lists an end hosts a partner's key
  hosts_partner : (a : AssocId) (first : Bool) (p : PropId) → Listed (symbol.End a first p) → HostsPartner basis.schema t c
  hosts_partner a first p lists = ⊎_elim
      (λ (key : Contains (key_columns basis.schema.store t) c). absurd (no_key key))
      (λ (hosts : HostsPartner basis.schema t c). hosts)
      (end_stands basis is (focus.Entity region) t c a first p
      (end_of basis (focus.Entity region) t c a first p (listed_from basis is (focus.Entity region) t c (symbol.End a first p) lists)))

  module _ (hosts : HostsPartner basis.schema t c) where
    -- no condition gives it a constant
    no_constant : (v : Value) → From basis (focus.Entity region) t c (symbol.Const v) → ⊥
    no_constant v (by_pair fragment pair mapped to among at_col same chosen) = let never = same in cc
    no_constant v (by_host fragment first pair mapped to among at_col same hosting) = let never = same in cc
    no_constant v (by_end fragment first pair mapped to among at_col same partner) = let never = same in cc
    no_constant v (by_cond cond asked on_col gives) = by cond.test refl gives
      where
        by : (test : Test) → cond.test ≡ test → GivesSymbol test (symbol.Const v) → ⊥
        by (IsNull asked_null) is_test given = let never = given.1 in cc
        by (Equals constant) is_test given = partner_uncompared basis is t c hosts cond asked on_col constant is_test

    -- and no property of its group has one value that isn't null
    no_value : (q : PropId) → Listed (symbol.Prop q) → (v : Value) → atom_at region.atoms q ≡ Some (atom.Is v) → ⊥
    no_value q lists v at = ⊎_elim
        (λ (key : StandsInKey basis t c q). no_key key.key_col)
        (λ (free : StandsFree basis t c q).
        let plain : IsPlain basis (col t c) = is_plain basis is (col t c) hosts in
        let told : IsTold basis is s region has q (atom.Is v) = found_told basis is s region has q (atom.Is v) at in
        let kinds = plain.kinds q told.declared told.is_declared (same_group basis is q (record { of = focus.Entity region; t = t; col = c; lists = lists }) (s, has) free.free_prop) in
        let constant : Contains (basis.constants (prop q)) v =
        (atom_tells basis.fits is.domains (basis.constants (prop q)) told.declared (atom.Is v) told.among).1 (plain_kind told.declared.kind kinds.0 kinds.1) in
        let of_prop : IsConstant basis.schema (prop q) v = ((is.constants (prop q) (free_member basis.schema (prop q) free.free_prop)).each v).0 constant in
        let of_col : IsConstant basis.schema (col t c) v =
        constant_joined basis.schema (col t c) (prop q) (joined.back (prop q) (col t c) (joined_by basis t c q free)) v of_prop in
        none_in_nil v (subst (λ list. Contains list v) plain.constants (((is.constants (col t c) (free_member basis.schema (col t c) free.free_col)).each v).1 of_col)))
        (prop_stands basis is (focus.Entity region) (s, has) t c q (listed_from basis is (focus.Entity region) t c (symbol.Prop q) lists))

    -- so what has one value there is null
    one_is_null : (one : Symbol) → Listed one → (v : Value) → possible basis.schema.model region.atoms one ≡ single v → v ≡ Null
    one_is_null symbol.Null lists v one = cc
    one_is_null (symbol.Const w) lists v one = absurd (no_constant w (listed_from basis is (focus.Entity region) t c (symbol.Const w) lists))
    one_is_null (symbol.End b second q) lists v one = cc
    one_is_null (symbol.Prop q) lists v one = by (atom_at region.atoms q) refl one
      where
        by : (found : Option Atom) → atom_at region.atoms q ≡ found → option_map_or of_atom found (multi (is_nullable basis.schema.model q)) ≡ single v → v ≡ Null
        by None at is_one = cc
        by (Some atom.Null) at is_one = cc
        by (Some (atom.Is w)) at is_one = absurd (no_value q lists w at)
        by (Some atom.Other) at is_one = cc

  -- beside an end stands nothing with one value but null
  pub single_null : (a : AssocId) (first : Bool) (p : PropId) → Listed (symbol.End a first p) → (one : Symbol) → Listed one
      → (v : Value) → possible basis.schema.model region.atoms one ≡ single v → v ≡ Null
  single_null a first p lists one lists_one v is_one = one_is_null (hosts_partner a first p lists) one lists_one v is_one
