-- The values by which two symbols that clash differ.
use Rattle.std.proofs.Common.{◌≡◌, ◌≢◌, ⊎_elim, List, ◌++◌, Contains, Bool, true≢false, IsTrue, refl, sym, subst, ◌∙◌, arith}
use Rattle.std.proofs.lemmas.Bool.Decides.{Decides-not}
use Rattle.std.proofs.lemmas.List.Elements.{Contains-append_cases, Contains-append_left, Contains-append_right}
use Rattle.round_trip.specs.Words.{SetId, TableId, ColId, AssocId, PropId, Value, Null, key_columns}
use Rattle.schema_laws.specs.state_demand.Selecting.{same_value}
use Rattle.schema_laws.proofs.state_demand.lists.Lists.{head_stands, member_cases, tail_stands}
use Rattle.schema_laws.proofs.state_demand.writings.Selecting.{Decides-value}
use Rattle.cells.specs.Limits.{IsWithinLimits}
use Rattle.regions.specs.declared.region.Region.{Region}
use Rattle.regions.specs.declared.pattern.Symbol.{Symbol}
use Rattle.regions.specs.declared.pattern.Symbol.TheVariants as symbol
use Rattle.regions.specs.declared.pattern.Focus.TheVariants as focus
use Rattle.regions.specs.Basis.{Basis}
use Rattle.regions.specs.Patterns.{Valuation, pattern_of, value_under}
use Rattle.regions.specs.Regions.{regions_of}
use Rattle.regions.specs.Settled.{Possible, multi, possible, single}
use Rattle.regions.specs.region_laws.IsBasis.{IsBasis}
use Rattle.regions.specs.region_laws.pattern.Allowed.{CanBe}
use Rattle.regions.specs.region_laws.pattern.Listed.{Lists}
use Rattle.regions.proofs.region_laws.pattern.Laws.{symbol_possible}
use Rattle.region_states.specs.defaults.Admissible.{IsAdmissible}
use Rattle.region_states.specs.defaults.Defaults.{default_valuation}
use Rattle.region_states.proofs.defaults.Defaults.{default_admissible}
use Rattle.region_states.specs.conflicts.Facts.{is_clash}
use Rattle.conflict_laws.specs.clash.ClashValues.{clash_values, differ_under, values_tried, with_others}
use Rattle.conflict_laws.proofs.clash.Found.{found_or}
use Rattle.conflict_laws.proofs.clash.Clashing.{Decides-clash, IsClash}
use Rattle.conflict_laws.proofs.clash.Ends.{ends_differ}
use Rattle.conflict_laws.proofs.clash.Others.{clash_no_key, one_differs, with_others_admissible}
use Rattle.conflict_laws.proofs.clash.Single.{single_null}
use Rattle.conflict_laws.specs.Told.{ClashingCell}

-- what a symbol can be: one value alone, a property of several values, or an end
data Sort (basis : Basis) (region : Region) : Symbol → Type 0 where
  one_value : (one : Symbol) (v : Value) → possible basis.schema.model region.atoms one ≡ single v → Sort basis region one
  several : (p : PropId) (nullable : Bool) → possible basis.schema.model region.atoms (symbol.Prop p) ≡ multi nullable → Sort basis region (symbol.Prop p)
  an_end : (a : AssocId) (first : Bool) (p : PropId) → Sort basis region (symbol.End a first p)

-- each symbol is of such a sort
sort_of : (basis : Basis) (region : Region) (one : Symbol) → Sort basis region one
sort_of basis region symbol.Null = one_value symbol.Null Null refl
sort_of basis region (symbol.Const v) = one_value (symbol.Const v) v refl
sort_of basis region (symbol.End a first p) = an_end a first p
sort_of basis region (symbol.Prop p) = by (possible basis.schema.model region.atoms (symbol.Prop p)) refl
  where
    by : (can : Possible) → possible basis.schema.model region.atoms (symbol.Prop p) ≡ can → Sort basis region (symbol.Prop p)
    by (single v) is = one_value (symbol.Prop p) v is
    by (multi nullable) is = several p nullable is

module _ (basis : Basis) (is : IsBasis basis) (limits : IsWithinLimits basis.schema) (s : SetId) (region : Region) (has : Contains (regions_of basis s) region)
    (t : TableId) (c : ColId) where
  abbrev Listed : Symbol → Type 0
  Listed one = Lists (pattern_of basis (focus.Entity region)) t c one

  abbrev usual : Valuation
  usual = default_valuation basis 0 region

  -- the usual value of a symbol is one that is possible
  usual_can : (one : Symbol) → Listed one → CanBe (possible basis.schema.model region.atoms one) (value_under usual one)
  usual_can one lists = symbol_possible basis is (record {
    of = focus.Entity region;
    is_focus = (s, has);
    values = usual;
    allowed = (default_admissible basis is limits s region has 0 (omega arith)).allowed;
  }) t c one lists

  -- and the only one where only one is
  usual_is : (one : Symbol) → Listed one → (v : Value) → possible basis.schema.model region.atoms one ≡ single v → value_under usual one ≡ v
  usual_is one lists v is_one = let P : Possible → Type 0 = λ can. CanBe can (value_under usual one) in subst P is_one (usual_can one lists)

  module _ (one two : Symbol) (clash : IsClash basis (focus.Entity region) t c one two) where
    abbrev tried : List Valuation
    tried = values_tried basis region one two

    abbrev others : Symbol → List Valuation
    others other = with_others basis region other (possible basis.schema.model region.atoms other)

    -- values that are tried, and by which the symbols differ
    abbrev Differs : Type 0
    Differs = (values : Valuation) × Contains tried values × (value_under values one ≢ value_under values two)

    abbrev no_key : ¬ Contains (key_columns basis.schema.store t) c
    no_key = clash_no_key basis is s region has t c one two clash

    -- the usual values, or others for the one symbol, or for the other
    by_usual : value_under usual one ≢ value_under usual two → Differs
    by_usual different = (usual, head_stands usual (others one ++ others two), different)

    by_one : (values : Valuation) → Contains (others one) values → value_under values one ≢ value_under values two → Differs
    by_one values there different = (values, tail_stands usual (others one ++ others two) values (Contains-append_left (others one) (others two) values there), different)

    by_two : (values : Valuation) → Contains (others two) values → value_under values two ≢ value_under values one → Differs
    by_two values there different =
        (values, tail_stands usual (others one ++ others two) values (Contains-append_right (others one) (others two) values there), λ same. different (sym same))

    -- all values that are tried are admissible
    tried_admissible : (values : Valuation) → Contains tried values → IsAdmissible basis 0 region values
    tried_admissible values there = ⊎_elim
        (λ (here : values ≡ usual). subst (IsAdmissible basis 0 region) (sym here) (default_admissible basis is limits s region has 0 (omega arith)))
        (λ (later : Contains (others one ++ others two) values). ⊎_elim
        (λ (first : Contains (others one) values). with_others_admissible basis is limits s region has t c no_key one clash.lists_one values first)
        (λ (second : Contains (others two) values). with_others_admissible basis is limits s region has t c no_key two clash.lists_two values second)
        (Contains-append_cases (others one) (others two) values later))
        (member_cases usual (others one ++ others two) values there)

  -- an end isn't null
  end_not_null : (a : AssocId) (first : Bool) (p : PropId) → Listed (symbol.End a first p) → value_under usual (symbol.End a first p) ≢ Null
  end_not_null a first p lists null = true≢false (sym (usual_can (symbol.End a first p) lists null))

  -- so it differs from what has one value beside it
  beside_end : (a : AssocId) (first : Bool) (p : PropId) → Listed (symbol.End a first p) → (other : Symbol) → Listed other → ¬ Contains (key_columns basis.schema.store t) c
      → (v : Value) → possible basis.schema.model region.atoms other ≡ single v → value_under usual other ≢ value_under usual (symbol.End a first p)
  beside_end a first p lists other lists_other no_key v is_one same = end_not_null a first p lists
      (sym same ∙ usual_is other lists_other v is_one ∙ single_null basis is s region has t c no_key a first p lists other lists_other v is_one)

  -- by some of the values that are tried the two symbols differ
  some_differ : (one two : Symbol) → Sort basis region one → Sort basis region two → (clash : IsClash basis (focus.Entity region) t c one two) → Differs one two clash
  some_differ (symbol.Prop _) two (several p nullable is_several) sort clash =
      let by = one_differs basis is limits s region has t c (no_key (symbol.Prop p) two clash) p nullable clash.lists_one is_several two (λ same. clash.clash.different (sym same)) in
      by_one (symbol.Prop p) two clash by.0 by.1 by.2
  some_differ one (symbol.Prop _) sort (several p nullable is_several) clash =
      let by = one_differs basis is limits s region has t c (no_key one (symbol.Prop p) clash) p nullable clash.lists_two is_several one clash.clash.different in
      by_two one (symbol.Prop p) clash by.0 by.1 by.2
  some_differ one two (one_value _ v is_v) (one_value _ w is_w) clash = by_usual one two clash
      (λ same. clash.clash.not_alike (
        v,
        is_v,
        is_w ∙ (let back : w ≡ v =
            sym (usual_is two clash.lists_two w is_w) ∙ sym same ∙ usual_is one clash.lists_one v is_v in λ k. single (back k)),
      ))
  some_differ one (symbol.End _ _ _) (one_value _ v is_v) (an_end a first p) clash = by_usual one (symbol.End a first p) clash
      (beside_end a first p clash.lists_two one clash.lists_one (no_key one (symbol.End a first p) clash) v is_v)
  some_differ (symbol.End _ _ _) two (an_end a first p) (one_value _ v is_v) clash = by_usual (symbol.End a first p) two clash
      (λ same. beside_end a first p clash.lists_one two clash.lists_two (no_key (symbol.End a first p) two clash) v is_v (sym same))
  some_differ (symbol.End _ _ _) (symbol.End _ _ _) (an_end a first p) (an_end b second q) clash = by_usual (symbol.End a first p) (symbol.End b second q) clash
      (ends_differ basis is limits region t c a b first second p q clash.lists_one clash.lists_two clash.clash.different)

  -- the first such values are chosen
  told_differ : (one two : Symbol) → IsTrue (is_clash basis (focus.Entity region) t c one two)
      → IsAdmissible basis 0 region (clash_values basis region one two)
      × (value_under (clash_values basis region one two) one ≢ value_under (clash_values basis region one two) two)
  told_differ one two told =
      let clash : IsClash basis (focus.Entity region) t c one two = (Decides-clash basis (focus.Entity region) t c one two).0 told in
      let by = some_differ one two (sort_of basis region one) (sort_of basis region two) clash in
      let decides = λ (values : Valuation). Decides-not (same_value (value_under values one) (value_under values two))
      (Decides-value (value_under values one) (value_under values two)) in
      let found = found_or (differ_under one two) (values_tried basis region one two) by.0 usual by.1 ((decides by.0).1 by.2) in
      (tried_admissible one two clash (clash_values basis region one two) found.0, (decides (clash_values basis region one two)).0 found.1)

pub values_differ : (basis : Basis) → IsBasis basis → IsWithinLimits basis.schema → (at : ClashingCell basis)
    → IsAdmissible basis 0 at.region (clash_values basis at.region at.one at.two)
    × (value_under (clash_values basis at.region at.one at.two) at.one ≢ value_under (clash_values basis at.region at.one at.two) at.two)
values_differ basis is limits at = told_differ basis is limits at.s at.region at.listed at.t at.col at.one at.two at.clash
