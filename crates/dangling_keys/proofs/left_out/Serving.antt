-- What a plain entity asks for whose key is told by a forced one is told by what that leads to, or is of number zero.
use Rattle.std.proofs.Common.{◌≡◌, ◌≢◌, ⊎_elim, ℕ, List, map, Contains, Option, Some, None, true, false, if◌then◌else◌, refl, sym, ap, subst, ◌∙◌}
use Rattle.std.proofs.lemmas.Bool.{cond-true}
use Rattle.std.proofs.lemmas.List.Elements.{All-contains}
use Rattle.emc_base.proofs.FoundItems.{some_member}
use Rattle.emc_base.proofs.Lists.{all_from_members, at_once}
use Rattle.emc_base.proofs.Mapped.{contains_map}
use Rattle.edm_types.specs.IsA.{same as itself}
use Rattle.round_trip.specs.Words.{SetId, PropId, TypeId, Value, Null, Assoc, Constraint, Entity, EntityModel, EntitySet, Prop, At, IsA, dependent_end, key_props, principal_end, props_of, value_beside, value_of, values_of}
use Rattle.round_trip.specs.soundness.Lookups.{HasConcrete, IsElement, IsNeeded, IsUnderElement, set_key}
use Rattle.round_trip.specs.soundness.models.Constraints.{DependsByKey, HasMatchedLists, IsSoundConstraint}
use Rattle.round_trip.specs.soundness.models.Inheritance.{IsKeyProp}
use Rattle.round_trip.specs.soundness.mappings.Joined.{IsDependent}
use Rattle.schema_laws.specs.short_values.Fresh.{added_value, fresh}
use Rattle.schema_laws.specs.short_values.Numbers.{number}
use Rattle.schema_laws.specs.short_values.Places.{is_among, is_dependent}
use Rattle.schema_laws.proofs.short_values.Places.{Decides-among}
use Rattle.schema_laws.proofs.short_values.Short.{number_same}
use Rattle.schema_laws.proofs.sound_demand.Keys.{inherits_keys}
use Rattle.schema_laws.proofs.sound_types.Dependent.{dependent_kind}
use Rattle.schema_laws.proofs.sound_types.Inherited.{inherits_prop, key_prop}
use Rattle.schema_laws.proofs.state_demand.lists.Lists.{any_or_none}
use Rattle.schema_laws.proofs.state_demand.owners.Owners.{beside_map}
use Rattle.schema_laws.proofs.state_demand.writings.Decisions.{so_or_not}
use Rattle.regions.specs.Basis.{Basis}
use Rattle.regions.specs.Patterns.{Valuation}
use Rattle.regions.specs.declared.pattern.Focus.{Focus}
use Rattle.regions.specs.declared.pattern.Symbol.{Symbol}
use Rattle.population.specs.Given.{HasNumbers}
use Rattle.population.specs.Numbered.{numbered_key}
use Rattle.population.specs.Plain.{first_concrete, first_value, plain}
use Rattle.population.specs.Principals.{AsksFor, principal_key}
use Rattle.population.specs.declared.placed.PlacedKey.{PlacedKey}
use Rattle.population.proofs.plain.Numbered.{set_key_is}
use Rattle.population.proofs.plain.Plain.{keys_same, plain_other, plain_part}
use Rattle.population.proofs.principals.Matched.{bare_kind, fresh_matched, part_matched}
use Rattle.population.proofs.principals.PrincipalKeys.{same_length, sound_constraint}
use Rattle.population.proofs.principals.Principals.{is_dependent_by, numbered_principal, plain_dependent, principal_key_is}
use Rattle.forced_entities.specs.Forced.{IsForced, LeadsTo, leads, part_beside, part_in, principal_of}
use Rattle.forced_entities.specs.declared.member.Forced.{Forced}
use Rattle.forced_entities.proofs.Beside.{beside, part_among, part_map}
use Rattle.dangling_keys.specs.LeftOut.{IsRead, ReadsPart}

module _ (basis : Basis) (outer : ℕ) (has : HasNumbers basis.schema.model outer) (of : Focus) (not_null : List PropId) (values : Valuation) where
  abbrev model : EntityModel
  model = basis.schema.model

  abbrev Read : SetId → List Value → Type 0
  Read u key = IsRead basis outer of values (IsForced basis of not_null) u key

  -- a part that is unknown is the same for matched properties
  reads_matched : (part : Option Symbol) (p q : PropId) → bare_kind model p ≡ bare_kind model q → (declared other : Prop) → At model.props p.index declared → At model.props q.index other → (value : Value)
      → ReadsPart basis outer of values part q value → ReadsPart basis outer of values part p value
  reads_matched (Some one) p q kinds declared other here there value reads = reads
  reads_matched None p q kinds declared other here there value reads = reads ∙ sym (fresh_matched model p q kinds declared other here there outer (added_value 0))

  module _ (u : SetId) (t : TypeId) (key : List Value) (concrete : HasConcrete model t) (under : IsUnderElement model u t) (from : Read u key) (to : PlacedKey)
      (asks : AsksFor model u (plain model outer 0 t key) to) where
    abbrev entity : Entity
    entity = plain model outer 0 t key

    abbrev assoc : Assoc
    assoc = asks.assoc

    abbrev constraint : Constraint
    constraint = asks.constraint

    abbrev parts : List PropId
    parts = key_props model (first_concrete model t)

    sound_one : IsSoundConstraint model assoc constraint
    sound_one = sound_constraint model has.sound assoc constraint asks.is_assoc asks.constrained

    lists : HasMatchedLists model assoc constraint
    lists = sound_one.lists

    keys_are : parts ≡ key_props model (dependent_end assoc constraint).ty
    keys_are = (inherits_keys model has.sound).same (first_concrete model t) (dependent_end assoc constraint).ty asks.covers

    of_type : (d : PropId) → Contains constraint.dependent d → Contains (props_of model (first_concrete model t)) d
    of_type d among = inherits_prop model has.sound d (first_concrete model t) (dependent_end assoc constraint).ty asks.covers
        (All-contains (Contains (props_of model (dependent_end assoc constraint).ty)) constraint.dependent d lists.dependent among)

    there : (d : PropId) → Contains constraint.dependent d → value_of model entity d ≢ Null
    there d among = All-contains (λ (v : Value). v ≢ Null) (values_of model entity constraint.dependent) (value_of model entity d) asks.there
        (contains_map (value_of model entity) constraint.dependent d among)

    dependent_by : (d : PropId) → Contains constraint.dependent d → IsDependent model d
    dependent_by d among = is_dependent_by model has.sound assoc constraint asks.is_assoc asks.constrained d among

    -- none of its dependent properties may be null
    needed : (d : PropId) → Contains constraint.dependent d → IsNeeded model d
    needed d among = ⊎_elim
        (λ (part : Contains parts d). let is_key : IsKeyProp model d = key_prop model has.sound d (first_concrete model t) part in (is_key.declared, is_key.is_declared, is_key.needed))
        (λ (no_part : ¬ Contains parts d).
        let declared = dependent_kind model has.sound d (dependent_by d among) in
        (declared.0, declared.1, by declared.0 declared.1 no_part declared.0.nullable refl))
        (so_or_not (is_among d parts) (Decides-among parts d))
      where
        by : (declared : Prop) → At model.props d.index declared → ¬ Contains parts d → (nullable : _) → declared.nullable ≡ nullable → declared.nullable ≡ false
        by declared here no_part true may =
            absurd (there d among (plain_other model has.sound outer 0 t key d declared here (of_type d among) no_part
            ∙ cond-true declared.nullable Null (if is_dependent model d then fresh declared.kind outer (added_value 0) else first_value declared.kind) may))
        by declared here no_part false may = may

    -- one of them is a part of the key, where the principal isn't of number zero
    by_key : to.key ≢ numbered_key model outer to.set 0 → DependsByKey model assoc constraint
    by_key beyond = ⊎_elim
        (λ (some : (d : PropId) × Contains constraint.dependent d × Contains (key_props model (dependent_end assoc constraint).ty) d).
        some_member (Contains (key_props model (dependent_end assoc constraint).ty)) constraint.dependent some.0 some.1 some.2)
        (λ (none : (d : PropId) → Contains constraint.dependent d → ¬ Contains (key_props model (dependent_end assoc constraint).ty) d).
        let is_zero = numbered_principal model has.sound outer 0 assoc constraint asks.is_assoc asks.constrained entity (λ d among.
        plain_dependent model has.sound outer 0 t key d (dependent_by d among) (of_type d among)
        (λ part. none d among (subst (λ (props : List PropId). Contains props d) keys_are part)) (there d among)) in
        let P : PlacedKey → Type 0 = λ one. one.key ≡ numbered_key model outer one.set 0 in
        absurd (beyond (subst P (sym asks.is) is_zero)))
        (any_or_none (Contains (key_props model (dependent_end assoc constraint).ty))
        (λ d. so_or_not (is_among d (key_props model (dependent_end assoc constraint).ty)) (Decides-among (key_props model (dependent_end assoc constraint).ty) d)) constraint.dependent)

    abbrev next : Forced
    next = principal_of basis assoc constraint (part_in basis from.one)

    -- so what is forced leads to it
    leads_on : to.key ≢ numbered_key model outer to.set 0 → LeadsTo basis from.one next
    leads_on beyond =
        let by : DependsByKey model assoc constraint = by_key beyond in
        let element : IsElement model u (dependent_end assoc constraint).ty = subst (λ (v : SetId). IsElement model v (dependent_end assoc constraint).ty) asks.at_end (sound_one.element by) in
        let same_set = same_element element.0 from.under.0 element.1 from.under.1 in
        let covers : IsA model from.one.ty (dependent_end assoc constraint).ty = subst (IsA model from.one.ty) (ap (λ (one : EntitySet). one.element) (sym same_set) ∙ element.2) from.under.2 in
        record {
          assoc = assoc;
          is_assoc = asks.is_assoc;
          by = record {
            constraint = constraint;
            constrained = asks.constrained;
            at_end = asks.at_end ∙ sym from.of_set;
            covers = covers;
            asks = (by, all_from_members (IsNeeded model) constraint.dependent needed);
            is = refl;
          };
        }
      where
        same_element : (one other : EntitySet) → At model.sets u.index one → At model.sets u.index other → one ≡ other
        same_element one other here also = at_once model.sets u.index one other here also

    abbrev principal_key_props : List PropId
    principal_key_props = key_props model (principal_end assoc constraint).ty

    -- a part of its key is read
    read_part : (p : PropId) → Contains principal_key_props p
        → ReadsPart basis outer of values (part_in basis next p) p (value_beside p principal_key_props (map (λ (q : PropId). value_beside q constraint.principal (values_of model entity constraint.dependent)) principal_key_props))
    read_part p among =
        let in_list : Contains constraint.principal p = All-contains (Contains constraint.principal) principal_key_props p lists.principal.all among in
        let by = beside constraint.principal constraint.dependent (sym (same_length model assoc constraint sound_one)) p in_list in
        let matched = part_matched model has.sound assoc constraint asks.is_assoc asks.constrained p among in
        let at : PropId → Value = λ q. value_beside q constraint.principal (values_of model entity constraint.dependent) in
        let told : PropId → Option Symbol = λ q. part_beside q constraint.principal (map (part_in basis from.one) constraint.dependent) in
        let part_is : part_in basis next p ≡ part_in basis from.one by.other = part_map told principal_key_props p among ∙ by.part (part_in basis from.one) in
        let value_is : value_beside p principal_key_props (map at principal_key_props) ≡ value_of model entity by.other = beside_map at principal_key_props p among ∙ by.value (value_of model entity) in
        let same_other : matched.other ≡ by.other = same_prop matched.other by.other (sym (matched.beside as_number) ∙ by.value as_number) in
        let kinds : bare_kind model p ≡ bare_kind model by.other = matched.kinds ∙ ap (bare_kind model) same_other in
        let declared = dependent_kind model has.sound by.other (dependent_by by.other by.among) in
        let own : IsKeyProp model p = key_prop model has.sound p (principal_end assoc constraint).ty among in
        subst (λ (part : Option Symbol). ReadsPart basis outer of values part p (value_beside p principal_key_props (map at principal_key_props))) (sym part_is)
        (subst (ReadsPart basis outer of values (part_in basis from.one by.other) p) (sym value_is)
        (reads_matched (part_in basis from.one by.other) p by.other kinds own.declared declared.0 own.is_declared declared.1 (value_of model entity by.other) (read_dependent by.other by.among)))
      where
        -- a property as a value
        as_number : PropId → Value
        as_number q = number q.index

        same_prop : (q r : PropId) → as_number q ≡ as_number r → q ≡ r
        same_prop q r same = let index = number_same q.index r.index same in λ k. record { index = index k }

        read_dependent : (d : PropId) → Contains constraint.dependent d → ReadsPart basis outer of values (part_in basis from.one d) d (value_of model entity d)
        read_dependent d among_d = ⊎_elim
            (λ (part : Contains parts d).
            subst (ReadsPart basis outer of values (part_in basis from.one d) d) (sym (plain_part model has.sound outer 0 t key d part ∙ ap (λ (props : List PropId). value_beside d props key) own_parts))
            (from.reads d (subst (λ (props : List PropId). Contains props d) own_parts part)))
            (λ (no_part : ¬ Contains parts d).
            subst (λ (told : Option Symbol). ReadsPart basis outer of values told d (value_of model entity d)) (sym (unknown no_part (part_in basis from.one d) refl))
            (plain_dependent model has.sound outer 0 t key d (dependent_by d among_d) (of_type d among_d) no_part (there d among_d)))
            (so_or_not (is_among d parts) (Decides-among parts d))
          where
            own_parts : parts ≡ set_key model u
            own_parts = keys_same model has.sound u t concrete under

            from_parts : key_props model from.one.ty ≡ set_key model u
            from_parts = (inherits_keys model has.sound).same from.one.ty from.under.0.element from.under.2 ∙ sym (set_key_is model has.sound u from.under.0 from.under.1)

            unknown : ¬ Contains parts d → (found : Option Symbol) → part_in basis from.one d ≡ found → found ≡ None
            unknown no_part None is = refl
            unknown no_part (Some one) is =
                absurd (no_part (subst (λ (props : List PropId). Contains props d) (from_parts ∙ sym own_parts) (part_among (key_props model from.one.ty) from.one.key d one is)))

    -- it is told by what is led to, where it isn't of number zero
    pub plain_leads : to.key ≢ numbered_key model outer to.set 0 → Read to.set to.key
    plain_leads beyond =
        let element = lists.element in
        let end = principal_end assoc constraint in
        let P : PlacedKey → Type 0 = λ one. Read one.set one.key in
        let values_there : List Value = values_of model entity constraint.dependent in
        let Reads : List PropId → Type 0 = λ props. (p : PropId) → Contains props p → ReadsPart basis outer of values (part_in basis next p) p (value_beside p props (principal_key model assoc constraint values_there)) in
        let made : Read end.set (principal_key model assoc constraint values_there) = record {
          one = next;
          is_one = leads from.one next from.is_one (leads_on beyond);
          of_set = refl;
          under = (element.0, element.1, subst (IsA model end.ty) (sym element.2) (itself end.ty));
          reads = subst Reads (sym (principal_key_is model has.sound assoc constraint asks.is_assoc asks.constrained)) read_part;
        } in
        subst P (sym asks.is) made
