-- What the conditions of a document mean, by what a name of a property stands for and in the table at a place.
use Rattle.std.proofs.Common.{◌≡◌, ℕ, List, Bool, Option, Some, None, MatchOption, option_and_then, option_map, refl, sym, ap, subst, ◌∙◌}
use Rattle.std.proofs.lemmas.Option.{same_Some}
use Rattle.msl_rules.specs.condition_values.Spelled.{IsSpelled, spelled}
use Rattle.edm_types.specs.declared.mapping.CondOn.TheVariants as on
use Rattle.edm_types.specs.declared.mapping.Test.TheVariants.{Equals}
use Rattle.round_trip.specs.Words.{Cond, CondOn, InDomain, Kind, PropId, Schema, Test, Value}
use Rattle.round_trip.specs.soundness.mappings.Conditions.{ComparesInDomain, kind_of}
use Rattle.round_trip.specs.soundness.Kinds.{IsBinary}
use Rattle.emc_base.proofs.FoundItems.{and_then_some, map_some}
use Rattle.msl_rules.specs.declared.msl_lists.raw.RawCond.{RawCond}
use Rattle.msl_rules.specs.Found.{cond_in, kind_on, on_in, table_numbered, test_of}
use Rattle.msl_rules.specs.FragmentRules.{IsNoValue}
use Rattle.msl_rules.proofs.NotBinary.{not_binary}
use Rattle.msl_fragments.proofs.sound_links.Stable.{domain_stable}

-- a condition on a value compares with what its text gives
record IsValueTest (known : Option Kind) (text : Option (List ℕ)) (constant : Value) : Type 0 where
  kind : Kind
  is_kind : known ≡ Some kind
  written : List ℕ
  is_text : text ≡ Some written
  gives : spelled kind written ≡ Some constant

value_test : (known : Option Kind) (text : Option (List ℕ)) (flag : Option Bool) (constant : Value) → test_of known text flag ≡ Some (Equals constant) → IsValueTest known text constant
value_test known (Some text) None constant is =
    let found = map_some Equals (option_and_then (λ kind. spelled kind text) known) (Equals constant) is in
    let of_kind = and_then_some (λ kind. spelled kind text) known found.0 found.1 in
    let same : found.0 ≡ constant = cc in
    record { kind = of_kind.0; is_kind = of_kind.1; written = text; is_text = refl; gives = of_kind.2 ∙ ap Some same }
value_test known (Some text) (Some flag) constant is = absurd cc
value_test known None None constant is = absurd cc
value_test known None (Some flag) constant is = absurd cc

module _ (schema : Schema) (named : List ℕ → Option PropId) (t : ℕ) where
  -- what a condition is on, and what it asks
  pub cond_parts : (raw : RawCond) (cond : Cond) → cond_in schema.model schema.store named t raw ≡ Some cond
      → (on_in schema.model schema.store named t raw ≡ Some cond.on) × (test_of (kind_on schema.model schema.store named t cond.on) raw.value raw.is_null ≡ Some cond.test)
  cond_parts raw cond is =
      let what = and_then_some (λ what. option_map (λ test. record { on = what; test = test }) (test_of (kind_on schema.model schema.store named t what) raw.value raw.is_null))
      (on_in schema.model schema.store named t raw) cond is in
      let cond_of : Test → Cond = λ test. record { on = what.0; test = test } in
      let test = map_some cond_of (test_of (kind_on schema.model schema.store named t what.0) raw.value raw.is_null) cond what.2 in
      let same : what.0 ≡ cond.on = ap (λ (cond : Cond). cond.on) test.2 in
      let P : CondOn → Type 0 = λ what. test_of (kind_on schema.model schema.store named t what) raw.value raw.is_null ≡ Some cond.test in
      (what.1 ∙ ap Some same, subst P same (test.1 ∙ ap (λ (cond : Cond). Some cond.test) test.2))

  -- the kind of what it is on
  kind_is : (what : CondOn) → kind_on schema.model schema.store named t what ≡ kind_of schema (table_numbered t) what
  kind_is (on.Prop prop) = refl
  kind_is (on.Col col) = refl

  -- V34: what it compares with lies in the domain
  pub compares_in_domain : (raw : RawCond) (cond : Cond) → cond_in schema.model schema.store named t raw ≡ Some cond → ¬ MatchOption raw.value ⊥ (IsNoValue schema named t raw)
      → ComparesInDomain schema (table_numbered t) cond
  compares_in_domain raw cond is fine constant equals kind has =
      let parts = cond_parts raw cond is in
      let test = value_test (kind_on schema.model schema.store named t cond.on) raw.value raw.is_null constant (parts.1 ∙ ap Some equals) in
      let same : test.kind ≡ kind = same_Some test.kind kind (sym test.is_kind ∙ kind_is cond.on ∙ has) in
      let P : Kind → Type 0 = λ kind. InDomain constant kind × ¬ IsBinary kind in
      subst P same (domain_stable constant test.kind (lies test parts.0), not_binary test.kind test.written constant test.gives)
    where
      lies : (test : IsValueTest (kind_on schema.model schema.store named t cond.on) raw.value constant) → on_in schema.model schema.store named t raw ≡ Some cond.on
          → ¬ (¬ InDomain constant test.kind)
      lies test what outside =
          let none : (value : Value) → ¬ IsSpelled test.kind test.written value = λ value spells.
          let P : Value → Type 0 = λ value. InDomain value test.kind in
          outside (subst P (same_Some value constant (sym spells.0 ∙ test.gives)) spells.1) in
          let Q : Option CondOn → Type 0 = λ what. MatchOption what ⊥
          (λ what. (kind : Kind) × (kind_on schema.model schema.store named t what ≡ Some kind) × ((value : Value) → ¬ IsSpelled kind test.written value)) in
          let bad : IsNoValue schema named t raw test.written = subst Q (sym what) (test.kind, test.is_kind, none) in
          let R : Option (List ℕ) → Type 0 = λ text. MatchOption text ⊥ (IsNoValue schema named t raw) in
          fine (subst R (sym test.is_text) bad)
