-- The values of the entities that are shown are admissible, and their partners have the usual keys.
use Rattle.std.proofs.Common.{◌≡◌, ℕ, ◌≤◌, ⊎_elim, List, [], ◌∷◌, ◌++◌, Contains, find, unwrap_or, slice_get, None, Option, Some, Bool, IsTrue, refl, sym, subst}
use Rattle.std.specs.Option.{option_map_or}
use Rattle.emc_base.proofs.Members.{contains_cons_cases, contains_nil}
use Rattle.std.proofs.lemmas.List.Elements.{Contains-append_cases}
use Rattle.round_trip.specs.Words.{ColId, Entity, SetId, TableId}
use Rattle.cells.specs.Parts.{AreParts}
use Rattle.cells.specs.declared.parts.Parts.{Parts}
use Rattle.regions.specs.Basis.{Basis}
use Rattle.regions.specs.Patterns.{Valuation}
use Rattle.regions.specs.Regions.{regions_of}
use Rattle.regions.specs.Settled.{Possible, multi, possible, single}
use Rattle.regions.specs.declared.pattern.Focus.TheVariants as focus
use Rattle.regions.specs.declared.pattern.Symbol.{Symbol}
use Rattle.regions.specs.declared.pattern.Symbol.TheVariants as symbol
use Rattle.regions.specs.declared.region.Region.{Region}
use Rattle.regions.proofs.region_laws.pattern.Choices.{found_passes}
use Rattle.region_states.specs.conflicts.Facts.{is_clash}
use Rattle.region_states.specs.defaults.Defaults.{alone, changed, default_part, default_valuation, one_value, other_value}
use Rattle.region_states.specs.Entities.{focus_entity}
use Rattle.region_states.specs.region_basis.BasisOf.{basis_of}
use Rattle.region_states.proofs.defaults.Defaults.{default_admissible}
use Rattle.region_states.proofs.region_basis.Bases.{basis_is}
use Rattle.conflict_laws.specs.clash.ClashValues.{clash_values, differ_under, values_tried, with_others}
use Rattle.conflict_laws.proofs.clash.Values.{values_differ}
use Rattle.witness_state.specs.Small.{HasValues}

-- the first that passes, or the one where none does: what is so of all is so of it
chosen_so : {X : Type 0} (P : X → Type 0) (test : X → Bool) (xs : List X) (usual : X) → P usual → ((x : X) → Contains xs x → P x) → P (unwrap_or (find test xs) usual)
chosen_so {X} P test xs usual of_usual of_all = by (find test xs) refl
  where
    by : (found : Option X) → find test xs ≡ found → P (unwrap_or found usual)
    by None is = of_usual
    by (Some x) is = of_all x (found_passes test xs x is).0

module _ (basis : Basis) (region : Region) where
  abbrev HasUsualParts : Valuation → Type 0
  HasUsualParts values = values.part ≡ default_part basis 0

  both_parts : {D : Type 0} (first second : D → Valuation) (found : Option D) (values : Valuation) → ((d : D) → HasUsualParts (first d)) → ((d : D) → HasUsualParts (second d))
      → Contains (option_map_or (λ d. first d ∷ second d ∷ []) found []) values → HasUsualParts values
  both_parts first second None values of_first of_second has = absurd (contains_nil values has)
  both_parts first second (Some d) values of_first of_second has = ⊎_elim
      (λ (here : values ≡ first d). subst HasUsualParts (sym here) (of_first d))
      (λ (later : Contains (second d ∷ []) values). ⊎_elim
      (λ (here : values ≡ second d). subst HasUsualParts (sym here) (of_second d))
      (λ (none : Contains [] values). absurd (contains_nil values none))
      (contains_cons_cases (second d) [] values later))
      (contains_cons_cases (first d) (second d ∷ []) values has)

  others_parts : (one : Symbol) (can : Possible) (values : Valuation) → Contains (with_others basis region one can) values → HasUsualParts values
  others_parts (symbol.Prop p) (multi nullable) values has = both_parts
      (λ declared. changed (default_valuation basis 0 region) (alone p (one_value basis p declared)))
      (λ declared. changed (default_valuation basis 0 region) (alone p (other_value basis p declared)))
      (slice_get basis.schema.model.props p.index) values (λ declared. refl) (λ declared. refl) has
  others_parts (symbol.Prop p) (single v) values has = absurd (contains_nil values has)
  others_parts symbol.Null can values has = absurd (contains_nil values has)
  others_parts (symbol.Const v) can values has = absurd (contains_nil values has)
  others_parts (symbol.End a first p) can values has = absurd (contains_nil values has)

  clash_parts : (one two : Symbol) → HasUsualParts (clash_values basis region one two)
  clash_parts one two =
      let others : Symbol → List Valuation = λ of. with_others basis region of (possible basis.schema.model region.atoms of) in
      chosen_so HasUsualParts (differ_under one two) (values_tried basis region one two) (default_valuation basis 0 region) refl (λ values has. ⊎_elim
      (λ (here : values ≡ default_valuation basis 0 region). subst HasUsualParts (sym here) refl)
      (λ (later : Contains (others one ++ others two) values). ⊎_elim
      (λ (first : Contains (others one) values). others_parts one (possible basis.schema.model region.atoms one) values first)
      (λ (second : Contains (others two) values). others_parts two (possible basis.schema.model region.atoms two) values second)
      (Contains-append_cases (others one) (others two) values later))
      (contains_cons_cases (default_valuation basis 0 region) (others one ++ others two) values has))

module _ (parts : Parts) (are : AreParts parts) (s : SetId) (region : Region) (has : Contains (regions_of (basis_of parts) s) region) where
  abbrev of_parts : Basis
  of_parts = basis_of parts

  -- the usual entity, by any row of numbers
  pub usual_has : (outer : ℕ) → outer ≤ 4 → (entity : Entity) → entity ≡ focus_entity of_parts region (default_valuation of_parts outer region)
      → HasValues of_parts outer region entity (default_valuation of_parts outer region)
  usual_has outer row entity is = record {
    s = s;
    listed = has;
    is = is;
    admissible = default_admissible of_parts (basis_is parts are) are.limits s region has outer row;
    parts = refl;
  }

  -- the one by whose values two symbols differ
  pub clash_has : (t : TableId) (col : ColId) (one two : Symbol) → IsTrue (is_clash of_parts (focus.Entity region) t col one two) → (entity : Entity)
      → entity ≡ focus_entity of_parts region (clash_values of_parts region one two) → HasValues of_parts 0 region entity (clash_values of_parts region one two)
  clash_has t col one two told entity is = record {
    s = s;
    listed = has;
    is = is;
    admissible = (values_differ of_parts (basis_is parts are) are.limits (record { s = s; region = region; listed = has; t = t; col = col; one = one; two = two; clash = told })).0;
    parts = clash_parts of_parts region one two;
  }
