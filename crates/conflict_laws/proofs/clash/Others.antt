-- Other values of a property that may have several: they are admissible, and by one of two of them the property differs from each other symbol.
use Rattle.std.proofs.Common.{◌≡◌, ◌≢◌, ⊎_elim, List, [], ◌∷◌, Contains, Option, Bool, refl, sym, ap, subst, ◌∙◌, arith}
use Rattle.std.specs.Option.{option_map_or}
use Rattle.emc_base.proofs.Numbered.{map_contains}
use Rattle.round_trip.specs.Words.{SetId, TableId, ColId, PropId, Pair, Prop, key_columns}
use Rattle.schema_laws.proofs.state_demand.writings.Decisions.{value_or_not}
use Rattle.schema_laws.proofs.state_demand.lists.Lists.{head_stands, member_cases, none_in_nil, tail_stands}
use Rattle.cells.specs.Limits.{IsWithinLimits}
use Rattle.regions.specs.declared.region.Region.{Region}
use Rattle.regions.specs.declared.pattern.Symbol.{Symbol}
use Rattle.regions.specs.declared.pattern.Symbol.TheVariants as symbol
use Rattle.regions.specs.declared.pattern.Focus.TheVariants as focus
use Rattle.regions.specs.Basis.{Basis}
use Rattle.regions.specs.Patterns.{Valuation, pattern_of, value_under}
use Rattle.regions.specs.Regions.{regions_of}
use Rattle.regions.specs.Settled.{Possible, multi, possible, single}
use Rattle.regions.specs.region_laws.IsBasis.{IsBasis}
use Rattle.regions.specs.region_laws.pattern.Listed.{Lists, PatternCell, IsKeyPair}
use Rattle.regions.proofs.region_laws.pattern.Keys.{key_cell, owned_here}
use Rattle.regions.proofs.region_laws.pattern.Laws.{listed_from, part_in_key}
use Rattle.regions.proofs.region_laws.pattern.symbols.Standing.{listed_prop}
use Rattle.schema_laws.proofs.sound_types.Inherited.{declared_above, key_is_part}
use Rattle.region_states.specs.defaults.Admissible.{DifferAt, HasSeveral, IsAdmissible}
use Rattle.region_states.specs.defaults.Defaults.{alone, changed, default_valuation, one_value, other_value}
use Rattle.region_states.proofs.defaults.Changes.{differ_at, two_choices}
use Rattle.region_states.proofs.defaults.Defaults.{default_admissible}
use Rattle.conflict_laws.specs.clash.ClashValues.{with_others}
use Rattle.conflict_laws.proofs.clash.Clashing.{IsClash}

-- two symbols of a cell of the primary key are one
pub clash_no_key : (basis : Basis) → IsBasis basis → (s : SetId) (region : Region) → Contains (regions_of basis s) region → (t : TableId) (c : ColId) (one two : Symbol)
    → IsClash basis (focus.Entity region) t c one two → ¬ Contains (key_columns basis.schema.store t) c
clash_no_key basis is s region has t c one two clash key =
    let owned = owned_here basis is s region has (record { t = t; col = c; cell = clash.lists_one.0; has = clash.lists_one.1 }) in
    let pair = map_contains (λ (one_pair : Pair). one_pair.col) owned.0 c (subst (λ cols. Contains cols c) (sym owned.1.cols) key) in
    let P : ColId → Type 0 = λ d. (other : Symbol) → Lists (pattern_of basis (focus.Entity region)) t d other → other ≡ symbol.Prop pair.0.prop in
    let alone_there : P pair.0.col = λ other lists.
    (let cell : List Symbol = lists.0 in
    let here : PatternCell basis (focus.Entity region) = record { t = t; col = pair.0.col; cell = cell; has = lists.1 } in
    let key_pair : IsKeyPair basis.schema s t pair.0.col pair.0 = record { pairing = owned.0; owned = owned.1; paired = pair.1; at_col = refl } in
    one_stands cell (symbol.Prop pair.0.prop) other (key_cell basis is s region has here pair.0 key_pair) lists.2) in
    let only : P c = subst P pair.2 alone_there in
    clash.clash.different (only one clash.lists_one ∙ sym (only two clash.lists_two))
  where
    one_stands : (cell : List Symbol) (it other : Symbol) → cell ≡ it ∷ [] → Contains cell other → other ≡ it
    one_stands cell it other same listed = ⊎_elim
        (λ (here : other ≡ it). here)
        (λ (none : Contains [] other). absurd (none_in_nil other none))
        (member_cases it [] other (subst (λ list. Contains list other) same listed))

module _ (basis : Basis) (is : IsBasis basis) (limits : IsWithinLimits basis.schema) (s : SetId) (region : Region) (has : Contains (regions_of basis s) region)
    (t : TableId) (c : ColId) (no_key : ¬ Contains (key_columns basis.schema.store t) c) where
  abbrev usual : Valuation
  usual = default_valuation basis 0 region

  module _ (p : PropId) (nullable : Bool) (lists : Lists (pattern_of basis (focus.Entity region)) t c (symbol.Prop p))
      (several : possible basis.schema.model region.atoms (symbol.Prop p) ≡ multi nullable) where
    -- a property that is listed outside the primary key, and may have several values
    has_several : (declared : Prop) × HasSeveral basis region p declared nullable
    has_several =
        let among = listed_prop basis is s region has t c p (listed_from basis is (focus.Entity region) t c (symbol.Prop p) lists) in
        let above = declared_above basis.schema.model is.sound.model p region.ty among in (
          above.0,
          record {
            is_declared = above.1;
            among = among;
            no_key = λ key. no_key (part_in_key basis is p (record { of = focus.Entity region; t = t; col = c; lists = lists }) (s, has)
                (key_is_part basis.schema.model is.sound.model p region.ty key));
            several = several;
          },
        )

    abbrev declared : Prop
    declared = has_several.0

    -- the usual values with one other value of the property
    abbrev with_one : Valuation
    with_one = changed usual (alone p (one_value basis p declared))

    -- and with another one
    abbrev with_other : Valuation
    with_other = changed usual (alone p (other_value basis p declared))

    -- both are admissible, and differ in the property alone
    both : IsAdmissible basis 0 region with_one × IsAdmissible basis 0 region with_other × DifferAt usual with_one with_other p
    both = differ_at basis is 0 (record { s = s; region = region; listed = has; values = usual }) (default_admissible basis is limits s region has 0 (omega arith)) p
        (one_value basis p declared) (other_value basis p declared) (two_choices basis is
        (record { s = s; region = region; listed = has; p = p; declared = declared; nullable = nullable; several = has_several.1 }) limits)

    -- these are the other values that are tried
    others_are : with_others basis region (symbol.Prop p) (possible basis.schema.model region.atoms (symbol.Prop p)) ≡ with_one ∷ with_other ∷ []
    others_are =
        let made : Option Prop → List Valuation = λ found. option_map_or (λ (one : Prop).
        changed usual (alone p (one_value basis p one)) ∷ changed usual (alone p (other_value basis p one)) ∷ []) found [] in
        ap (with_others basis region (symbol.Prop p)) several ∙ ap made has_several.1.is_declared

    -- another symbol has its usual value
    other_usual : (other : Symbol) → other ≢ symbol.Prop p → (values : Valuation) → ((q : PropId) → q ≢ p → values.prop q ≡ usual.prop q) → values.part ≡ usual.part
        → value_under values other ≡ value_under usual other
    other_usual symbol.Null different values props parts = refl
    other_usual (symbol.Const v) different values props parts = refl
    other_usual (symbol.Prop q) different values props parts = props q (λ same. different (λ k. symbol.Prop (same k)))
    other_usual (symbol.End a end q) different values props parts = λ k. parts k a end q

    -- by one of the two the property differs from another symbol
    pub one_differs : (other : Symbol) → other ≢ symbol.Prop p
        → (values : Valuation) × Contains (with_others basis region (symbol.Prop p) (possible basis.schema.model region.atoms (symbol.Prop p))) values
        × (values.prop p ≢ value_under values other)
    one_differs other different =
        let at = both.2 in
        let first_other : value_under with_one other ≡ value_under usual other = other_usual other different with_one at.one_others at.one_parts in
        let second_other : value_under with_other other ≡ value_under usual other = other_usual other different with_other at.two_others at.two_parts in
        let among : (values : Valuation) → Contains (with_one ∷ with_other ∷ []) values
        → Contains (with_others basis region (symbol.Prop p) (possible basis.schema.model region.atoms (symbol.Prop p))) values =
        λ values there. subst (λ list. Contains list values) (sym others_are) there in
        ⊎_elim
        (λ (same : with_one.prop p ≡ value_under with_one other). (
          with_other,
          among with_other (tail_stands with_one (with_other ∷ []) with_other (head_stands with_other [])),
          λ (alike : with_other.prop p ≡ value_under with_other other). at.different (same ∙ first_other ∙ sym second_other ∙ sym alike),
        ))
        (λ (apart : with_one.prop p ≢ value_under with_one other). (with_one, among with_one (head_stands with_one (with_other ∷ [])), apart))
        (value_or_not (with_one.prop p) (value_under with_one other))

    -- and they are admissible
    others_admissible : (values : Valuation) → Contains (with_others basis region (symbol.Prop p) (possible basis.schema.model region.atoms (symbol.Prop p))) values
        → IsAdmissible basis 0 region values
    others_admissible values there = ⊎_elim
        (λ (here : values ≡ with_one). subst (IsAdmissible basis 0 region) (sym here) both.0)
        (λ (later : Contains (with_other ∷ []) values). ⊎_elim
        (λ (here : values ≡ with_other). subst (IsAdmissible basis 0 region) (sym here) both.1)
        (λ (none : Contains [] values). absurd (none_in_nil values none))
        (member_cases with_other [] values later))
        (member_cases with_one (with_other ∷ []) values (subst (λ list. Contains list values) others_are there))

  -- all other values that are tried for a symbol are admissible
  pub with_others_admissible : (one : Symbol) → Lists (pattern_of basis (focus.Entity region)) t c one → (values : Valuation)
      → Contains (with_others basis region one (possible basis.schema.model region.atoms one)) values → IsAdmissible basis 0 region values
  with_others_admissible symbol.Null lists values there = absurd (none_in_nil values there)
  with_others_admissible (symbol.Const v) lists values there = absurd (none_in_nil values there)
  with_others_admissible (symbol.End a first p) lists values there = absurd (none_in_nil values there)
  with_others_admissible (symbol.Prop p) lists values there = by (possible basis.schema.model region.atoms (symbol.Prop p)) refl
    where
      by : (can : Possible) → possible basis.schema.model region.atoms (symbol.Prop p) ≡ can → IsAdmissible basis 0 region values
      by (multi nullable) several = others_admissible p nullable lists several values there
      by (single v) one =
          let others : Possible → List Valuation = with_others basis region (symbol.Prop p) in
          absurd (none_in_nil values (subst (λ list. Contains list values) (ap others one) there))
