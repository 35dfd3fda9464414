-- What the conditions of a MappingFragment mean where the rules are kept. V34, V35, V38; and their ids.
use Rattle.std.proofs.Common.{◌≡◌, inl, inr, ℕ, List, [], ◌∷◌, All, Bool, Contains, Option, Some, None, codes, option_map, refl, sym, ap, subst, ◌∙◌}
use Rattle.std.specs.Option.{option_and_then}
use Rattle.std.proofs.lemmas.Option.{same_Some}
use Rattle.emc_base.proofs.Lists.{all_from_members}
use Rattle.emc_base.specs.declared.value.Kind.TheVariants as kind
use Rattle.graphs.proofs.base_chains.orders.Orders.{place_of_member}
use Rattle.json_form.specs.declared.pointer.Step.{Step}
use Rattle.json_form.specs.declared.pointer.Step.TheVariants.{Item, Member}
use Rattle.layouts.specs.declared.rule.Rule.{Rule}
use Rattle.layouts.specs.declared.rule.Rule.TheVariants as rule
use Rattle.edm_types.specs.declared.mapping.CondOn.TheVariants as on
use Rattle.edm_types.specs.declared.mapping.Test.TheVariants.{Equals}
use Rattle.round_trip.specs.Words.{Cond, CondOn, EntityModel, Kind, InDomain, PropId, Schema, StoreModel, Test, Value}
use Rattle.round_trip.specs.soundness.mappings.Conditions.{AskOf, AskOfNoKeyColumn, AskOfNoKeyProp, ComparesInDomain, kind_of}
use Rattle.round_trip.specs.soundness.mappings.Joined.{ComparesNoBarred}
use Rattle.round_trip.specs.soundness.Lookups.{set_key}
use Rattle.round_trip.specs.soundness.mappings.Mappings.{IsCondId}
use Rattle.msl_rules.specs.condition_values.Spelled.{IsSpelled, spelled}
use Rattle.emc_base.proofs.FoundItems.{and_then_some, member_of, map_some}
use Rattle.layouts.proofs.rule_places.FaultPlaces.{fault_at, in_list}
use Rattle.emc_base.proofs.Joined.{in_found}
use Rattle.emc_base.proofs.facts.Found.{where_found}
use Rattle.schema_names.specs.SchemaNames.{column_named}
use Rattle.msl_rules.specs.declared.msl_lists.raw.RawCond.{RawCond}
use Rattle.msl_rules.specs.declared.msl_lists.raw.RawMapping.{RawMapping}
use Rattle.msl_rules.specs.Found.{col_numbered, cond_in, conds_in, kind_on, named_on, on_in, prop_of_picks, set_numbered, table_numbered, test_of}
use Rattle.msl_rules.specs.FragmentRules.{IsCondFault, IsNoValue, IsOfKey}
use Rattle.msl_rules.specs.KeepsMapping.{KeepsMappingRules}
use Rattle.msl_rules.specs.MappingMeaning.{schema_in}
use Rattle.msl_rules.proofs.NotBinary.{not_binary}
use Rattle.msl_fragments.proofs.sound_fragments.NamesFound.{col_inside, prop_inside}
use Rattle.msl_fragments.proofs.sound_fragments.StableKinds.{lies}
use Rattle.msl_fragments.proofs.sound_fragments.Written.{FoundFragment, no_fragment_fault}

-- a value is compared with: then a text gives it for the kind
pub compared : (known : Option Kind) (value : Option (List ℕ)) (is_null : Option Bool) (constant : Value) → test_of known value is_null ≡ Some (Equals constant)
    → (text : List ℕ) × (value ≡ Some text) × (k : Kind) × (known ≡ Some k) × (spelled k text ≡ Some constant)
compared known (Some text) None constant is =
    let value = map_some Equals (option_and_then (λ k. spelled k text) known) (Equals constant) is in
    let kind = and_then_some (λ k. spelled k text) known value.0 value.1 in
    let one : value.0 ≡ constant = (let same = value.2 in cc) in
    (text, refl, kind.0, kind.1, kind.2 ∙ ap Some one)
compared known None (Some flag) constant is = absurd cc
compared known (Some text) (Some flag) constant is = absurd cc
compared known None None constant is = absurd cc

module _ (model : EntityModel) (store : StoreModel) (named : List ℕ → Option PropId) (t : ℕ) where
  -- a condition on a property names the property
  pub names_prop : (prop col : Option (List ℕ)) (p : PropId) → named_on model store named t prop col ≡ Some (on.Prop p) → (name : List ℕ) × (prop ≡ Some name) × (named name ≡ Some p)
  names_prop (Some name) None p is =
      let found = map_some on.Prop (named name) (on.Prop p) is in
      let one : found.0 ≡ p = (let same = found.2 in cc) in
      (name, refl, found.1 ∙ ap Some one)
  names_prop None (Some name) p is =
      let found = map_some (λ c. on.Col (col_numbered c)) (column_named store t name) (on.Prop p) is in
      let same = found.2 in
      absurd cc
  names_prop (Some name) (Some other) p is = absurd cc
  names_prop None None p is = absurd cc

  -- a condition means what it is on and how it is tested
  pub record MeansCond (cond : RawCond) (found : Cond) : Type 0 where
    pub is_on : on_in model store named t cond ≡ Some found.on
    pub is_test : test_of (kind_on model store named t found.on) cond.value cond.is_null ≡ Some found.test

  pub means_cond : (cond : RawCond) (found : Cond) → cond_in model store named t cond ≡ Some found → MeansCond cond found
  means_cond cond found is =
      let with_test : CondOn → Test → Cond = λ what test. record { on = what; test = test } in
      let what = and_then_some (λ what. option_map (with_test what) (test_of (kind_on model store named t what) cond.value cond.is_null)) (on_in model store named t cond) found is in
      let test = map_some (with_test what.0) (test_of (kind_on model store named t what.0) cond.value cond.is_null) found what.2 in
      let P : CondOn → Type 0 = λ on. test_of (kind_on model store named t on) cond.value cond.is_null ≡ Some found.test in
      let same : what.0 ≡ found.on = λ i. (test.2 i).on in
      record { is_on = what.1 ∙ ap Some same; is_test = subst P same (test.1 ∙ (λ i. Some (test.2 i).test)) }

module _ (model : EntityModel) (store : StoreModel) (raw : RawMapping) (it : FoundFragment model store raw) where
  -- the model, the store and the mapping that is meant
  abbrev schema : Schema
  schema = schema_in model store raw

  -- the key of the set
  abbrev key_here : List PropId
  key_here = set_key model (set_numbered it.s)

  -- what a name of a property stands for
  abbrev named : List ℕ → Option PropId
  named = prop_of_picks model it.types.picks

  -- the conditions that are meant
  abbrev pub conds_here : List Cond
  conds_here = conds_in model store named it.t it.written.conds

  -- the kind of what one is on
  kind_is : (what : CondOn) → kind_of schema (table_numbered it.t) what ≡ kind_on model store named it.t what
  kind_is (on.Prop p) = refl
  kind_is (on.Col c) = refl

  -- each is what one means that is written
  pub cond_of : (found : Cond) → Contains conds_here found → (cond : RawCond) × Contains it.written.conds cond × (cond_in model store named it.t cond ≡ Some found)
  cond_of found has = in_found (cond_in model store named it.t) it.written.conds found has

  -- what a condition is on is in range
  on_inside : (prop col : Option (List ℕ)) (what : CondOn) → named_on model store named it.t prop col ≡ Some what → IsCondId schema (table_numbered it.t) what
  on_inside (Some name) None what is =
      let found = map_some on.Prop (named name) what is in
      subst (IsCondId schema (table_numbered it.t)) found.2 (prop_inside model it.types.picks name found.0 found.1)
  on_inside None (Some name) what is =
      let found = map_some (λ c. on.Col (col_numbered c)) (column_named store it.t name) what is in
      subst (IsCondId schema (table_numbered it.t)) found.2 (col_inside store it.t name found.0 found.1)
  on_inside (Some name) (Some other) what is = absurd cc
  on_inside None None what is = absurd cc

  -- every id is in range
  pub cond_ids : All (λ cond. IsCondId schema (table_numbered it.t) cond.on) conds_here
  cond_ids = all_from_members (λ (cond : Cond). IsCondId schema (table_numbered it.t) cond.on) conds_here (λ found has.
      let cond = cond_of found has in
      on_inside cond.0.prop cond.0.col found.on (means_cond model store named it.t cond.0 found cond.2).is_on)

  module _ (keeps : KeepsMappingRules model store raw) where
    module _ (cond : RawCond) (has : Contains it.written.conds cond) (found : Cond) (is : cond_in model store named it.t cond ≡ Some found) where
      -- with the condition nothing is wrong
      no_cond_fault : (rule : Rule) (rest : List Step) → ¬ IsCondFault schema named it.t key_here has.0 cond (fault_at rule rest)
      no_cond_fault rule rest broken = no_fragment_fault model store raw keeps it (fault_at rule (Member (codes "Condition") ∷ Item has.0 ∷ rest))
          (inr (inr (inl (in_list (IsCondFault schema named it.t key_here) (codes "Condition") it.written.conds has.0 cond rule rest
          (place_of_member it.written.conds cond has) broken))))

      means : MeansCond model store named it.t cond found
      means = means_cond model store named it.t cond found is

      -- V34
      compares_within : ComparesInDomain schema (table_numbered it.t) found
      compares_within constant test k kind =
          let spells = compared (kind_on model store named it.t found.on) cond.value cond.is_null constant (means.is_test ∙ ap Some test) in
          let text = spells.0 in
          let one : spells.2 ≡ k = same_Some spells.2 k (sym spells.3 ∙ sym (kind_is found.on) ∙ kind) in
          let P : Kind → Type 0 = λ kind. spelled kind text ≡ Some constant in
          let gives : spelled k text ≡ Some constant = subst P one spells.4 in (
            lies constant k (λ no. no_cond_fault rule.ConditionValue (Member (codes "Value") ∷ [])
                (inr (inl (
                  where_found (IsNoValue schema named it.t cond) cond.value text spells.1
                      (where_found (λ what. (kind : Kind) × (kind_on model store named it.t what ≡ Some kind) × ((value : Value) → ¬ IsSpelled kind text value)) (on_in model store named it.t cond) found.on means.is_on
                      (k, sym (kind_is found.on) ∙ kind, λ other spelled. let Q : Value → Type 0 = λ value. InDomain value k in no (subst Q (same_Some other constant (sym spelled.0 ∙ gives)) spelled.1))),
                  (refl, refl),
                )))),
            not_binary k text constant gives,
          )

      -- V35
      on_no_key : ¬ IsOfKey schema named it.t key_here found.on
      on_no_key of_key = no_cond_fault rule.KeyCondition []
          (inr (inr (inl (where_found (IsOfKey schema named it.t key_here) (on_in model store named it.t cond) found.on means.is_on of_key, (refl, refl)))))

      -- V38
      compares_own : ComparesNoBarred schema (table_numbered it.t) found
      compares_own constant test barred = no_cond_fault rule.ForeignValue []
          (inr (inr (inr (
            where_found (λ meant. ¬ ComparesNoBarred schema (table_numbered it.t) meant) (cond_in model store named it.t cond) found is
                (λ own. own constant test barred),
            (refl, refl),
          ))))

    -- V34
    pub all_within : All (ComparesInDomain schema (table_numbered it.t)) conds_here
    all_within = all_from_members (ComparesInDomain schema (table_numbered it.t)) conds_here (λ found has.
        let cond = cond_of found has in compares_within cond.0 cond.1 found cond.2)

    -- V35
    never_of_key : (what : CondOn) → AskOf conds_here what → ¬ IsOfKey schema named it.t key_here what
    never_of_key what asks =
        let found = member_of (λ cond. cond.on ≡ what) conds_here asks in
        let cond = cond_of found.0 found.1 in
        subst (λ (on : CondOn). ¬ IsOfKey schema named it.t key_here on) found.2 (on_no_key cond.0 cond.1 found.0 cond.2)

    pub no_key_prop : AskOfNoKeyProp key_here conds_here
    no_key_prop prop asks = never_of_key (on.Prop prop) asks

    pub no_key_column : AskOfNoKeyColumn store (table_numbered it.t) conds_here
    no_key_column col asks = never_of_key (on.Col col) asks

    -- V38
    pub none_barred : All (ComparesNoBarred schema (table_numbered it.t)) conds_here
    none_barred = all_from_members (ComparesNoBarred schema (table_numbered it.t)) conds_here (λ found has.
        let cond = cond_of found has in compares_own cond.0 cond.1 found cond.2)
