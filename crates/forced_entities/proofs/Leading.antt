-- What is listed as forced by the focus itself, and as led to, is just what is forced so.
use Rattle.std.proofs.Common.{◌≡◌, ◌↔◌, ⊎_elim, inl, inr, ◌==◌, ◌&&◌, ◌||◌, List, [], ◌∷◌, filter, flat_map, slice_get, All, Contains, Bool, true, false, not, Decides, Option, Some, None, if◌then◌else◌, refl, sym, ap, subst, ◌∙◌}
use Rattle.std.specs.List.{list_all, list_any}
use Rattle.std.specs.Option.{option_map_or}
use Rattle.std.proofs.lemmas.Bool.{cond-true, cond_both}
use Rattle.std.proofs.lemmas.Bool.Decides.{Decides-and, Decides-not, Decides-or}
use Rattle.std.proofs.lemmas.List.Elements.{Contains-append_cases, Contains-append_left, Contains-append_right}
use Rattle.emc_base.proofs.FoundItems.{contains_flat_map, member_of, some_member}
use Rattle.emc_base.proofs.Joined.{in_flat_map}
use Rattle.emc_base.proofs.Mapped.{contains_filter}
use Rattle.emc_base.proofs.Members.{contains_cons_cases, contains_head, contains_nil, contains_tail}
use Rattle.emc_base.proofs.Numbered.{filter_contains}
use Rattle.round_trip.specs.Words.{AssocId, PropId, SetId, TypeId, Value, Null, Assoc, Constraint, EntityModel, IsA, Prop, dependent_end, key_props}
use Rattle.round_trip.specs.soundness.Lookups.{IsNeeded}
use Rattle.round_trip.specs.soundness.mappings.Joined.{prop}
use Rattle.condition_logic.specs.declared.atoms.Atom.{Atom}
use Rattle.condition_logic.specs.declared.atoms.Atom.TheVariants as atom
use Rattle.condition_logic.specs.declared.atoms.AtomOf.{AtomOf}
use Rattle.schema_laws.specs.short_values.Places.{is_among}
use Rattle.schema_laws.specs.state_demand.Selecting.{same_value}
use Rattle.schema_laws.proofs.short_values.Places.{Decides-among}
use Rattle.schema_laws.proofs.state_demand.lists.Ids.{Decides-prop, Decides-set}
use Rattle.schema_laws.proofs.state_demand.lists.Lists.{Decides-all, Decides-any}
use Rattle.schema_laws.proofs.state_demand.writings.Selecting.{Decides-value}
use Rattle.regions.specs.Atoms.{LiesIn}
use Rattle.regions.specs.Basis.{Basis, Host, partner_end}
use Rattle.regions.specs.Symbols.{is_linked}
use Rattle.regions.specs.declared.pattern.Focus.{Focus}
use Rattle.regions.specs.declared.pattern.Focus.TheVariants as focus
use Rattle.regions.specs.declared.pattern.Symbol.{Symbol}
use Rattle.regions.specs.declared.pattern.Symbol.TheVariants as symbol
use Rattle.regions.specs.declared.region.Region.{Region}
use Rattle.regions.specs.region_laws.IsBasis.{IsBasis}
use Rattle.regions.proofs.region_laws.writings.Patterns.{Decides-linked}
use Rattle.forced_entities.specs.Forced.{HasValueAtom, IsArrow, IsAskedBy, IsAskedFrom, IsBegun, IsKnown, IsLinkEnd, IsPartner, LeadsTo, forced_at, part_in, principal_of}
use Rattle.forced_entities.specs.Listed.{asked_by, begun, has_value, is_arrow, is_covered, is_known, is_needed, link_end, partner_by, steps}
use Rattle.forced_entities.specs.declared.member.Forced.{Forced}

-- what is decided alike is decided
like : {P Q : Type 0} (b : Bool) → (P → Q) → (Q → P) → Decides b P → Decides b Q
like b over back decided = (λ told. over (decided.0 told), λ is. decided.1 (back is))

Decides-value_atom : (constants : List Value) (one : Atom) → Decides (has_value one) (¬ LiesIn constants one Null)
Decides-value_atom constants atom.Null = ((λ told. absurd (let never : false ≡ true = told in cc)), (λ not. absurd (not refl)))
Decides-value_atom constants (atom.Is value) = like (has_value (atom.Is value)) (λ differ lies. differ (sym lies)) (λ not same. not (sym same))
    (Decides-not (same_value value Null) (Decides-value value Null))
Decides-value_atom constants atom.Other = ((λ told lies. lies.0 refl), (λ not. refl))

module _ (basis : Basis) (is_basis : IsBasis basis) where
  abbrev model : EntityModel
  model = basis.schema.model

  Decides-needed : (p : PropId) → Decides (is_needed basis p) (IsNeeded model p)
  Decides-needed p = by (slice_get model.props p.index) refl
    where
      by : (found : Option Prop) → slice_get model.props p.index ≡ found → Decides (option_map_or (λ declared. not declared.nullable) found false) (IsNeeded model p)
      by None none = (
        (λ told. absurd (let never : false ≡ true = told in cc)),
        (λ needed. absurd (let never : None ≡ Some needed.0 = sym none ∙ needed.1 in cc)),
      )
      by (Some declared) here = (
        (λ told. (declared, here, not_told declared.nullable told)),
        (λ needed. (let same : Some declared ≡ Some needed.0 = sym here ∙ needed.1 in
            let one : declared ≡ needed.0 = cc in
            ap (λ (d : Prop). not d.nullable) one ∙ ap not needed.2)),
      )
        where
          not_told : (b : Bool) → not b ≡ true → b ≡ false
          not_told true told = cc
          not_told false told = refl

  Decides-arrow : (assoc : Assoc) (constraint : Constraint) → Decides (is_arrow basis assoc constraint) (IsArrow basis assoc constraint)
  Decides-arrow assoc constraint =
      let keys = key_props model (dependent_end assoc constraint).ty in
      Decides-and (list_any (λ d. is_among d keys) constraint.dependent) (list_all (is_needed basis) constraint.dependent)
      (Decides-any (λ (d : PropId). is_among d keys) (Contains keys) (λ d. Decides-among keys d) constraint.dependent)
      (Decides-all (is_needed basis) (IsNeeded model) Decides-needed constraint.dependent)

  module _ (region : Region) (not_null : List PropId) where
    -- an atom of the property in which null doesn't lie
    abbrev Told : PropId → AtomOf → Type 0
    Told p told = (told.prop ≡ p) × ¬ LiesIn (basis.constants (prop p)) told.atom Null

    Decides-atom : (p : PropId) → Decides (list_any (λ told. (told.prop.index == p.index) && has_value told.atom) region.atoms) (HasValueAtom basis region p)
    Decides-atom p = like (list_any (λ told. (told.prop.index == p.index) && has_value told.atom) region.atoms)
        (λ any. let found = member_of (Told p) region.atoms any in record { told = found.0; is_told = found.1; of = found.2.0; some = found.2.1 })
        (λ has. some_member (Told p) region.atoms has.told has.is_told (has.of, has.some))
        (Decides-any (λ (told : AtomOf). (told.prop.index == p.index) && has_value told.atom) (Told p)
        (λ told. Decides-and (told.prop.index == p.index) (has_value told.atom) (Decides-prop told.prop p) (Decides-value_atom (basis.constants (prop p)) told.atom)) region.atoms)

    Decides-known : (p : PropId) → Decides (is_known basis region not_null p) (IsKnown basis region not_null p)
    Decides-known p =
        let keys = key_props model region.ty in
        let atoms = list_any (λ told. (told.prop.index == p.index) && has_value told.atom) region.atoms in
        Decides-or (is_among p keys) (is_needed basis p || (atoms || is_among p not_null)) (Decides-among keys p)
        (Decides-or (is_needed basis p) (atoms || is_among p not_null) (Decides-needed p) (Decides-or atoms (is_among p not_null) (Decides-atom p) (Decides-among not_null p)))

  module _ (asks : Assoc → Constraint → Bool) (Asks : Assoc → Constraint → Type 0) (decides : (assoc : Assoc) (constraint : Constraint) → Decides (asks assoc constraint) (Asks assoc constraint))
      (u : SetId) (t : TypeId) (told : PropId → Option Symbol) where
    abbrev IsAsked : Assoc → Constraint → Type 0
    IsAsked assoc constraint = (((dependent_end assoc constraint).set ≡ u) × IsA model t (dependent_end assoc constraint).ty) × Asks assoc constraint

    Decides-asked : (assoc : Assoc) (constraint : Constraint) → Decides (is_covered basis u t assoc constraint && asks assoc constraint) (IsAsked assoc constraint)
    Decides-asked assoc constraint =
        let end = dependent_end assoc constraint in
        Decides-and (is_covered basis u t assoc constraint) (asks assoc constraint)
        (Decides-and (end.set.index == u.index) (basis.is_a t end.ty) (Decides-set end.set u) (is_basis.types.tells t end.ty)) (decides assoc constraint)

    abbrev by_one : Assoc → Constraint → List Forced
    by_one assoc constraint = if is_covered basis u t assoc constraint && asks assoc constraint then principal_of basis assoc constraint told ∷ [] else []

    in_asked : (assoc : Assoc) (to : Forced) → Contains (asked_by basis asks u t told assoc) to → IsAskedBy basis Asks u t told assoc to
    in_asked assoc to has = by assoc.constraint refl has
      where
        by : (found : Option Constraint) → assoc.constraint ≡ found → Contains (option_map_or (by_one assoc) found []) to → IsAskedBy basis Asks u t told assoc to
        by None none in_none = absurd (contains_nil to in_none)
        by (Some constraint) constrained in_some =
            let one : Forced = principal_of basis assoc constraint told in
            let P : List Forced → Type 0 = λ list. Contains list to → IsAskedBy basis Asks u t told assoc to in
            cond_both (is_covered basis u t assoc constraint && asks assoc constraint) (one ∷ []) [] P
            (λ yes among.
            (let asked = (Decides-asked assoc constraint).0 yes in
            record {
              constraint = constraint;
              constrained = constrained;
              at_end = asked.0.0;
              covers = asked.0.1;
              asks = asked.1;
              is = ⊎_elim (λ (here : to ≡ one). here) (λ (later : Contains [] to). absurd (contains_nil to later)) (contains_cons_cases one [] to among);
            }))
            (λ no among. absurd (contains_nil to among)) in_some

    asked_in : (assoc : Assoc) (to : Forced) → IsAskedBy basis Asks u t told assoc to → Contains (asked_by basis asks u t told assoc) to
    asked_in assoc to asked =
        let one : Forced = principal_of basis assoc asked.constraint told in
        let P : Option Constraint → Type 0 = λ found. Contains (option_map_or (by_one assoc) found []) to in
        let yes = (Decides-asked assoc asked.constraint).1 ((asked.at_end, asked.covers), asked.asks) in
        subst P (sym asked.constrained) (subst (λ (list : List Forced). Contains list to)
        (sym (cond-true (is_covered basis u t assoc asked.constraint && asks assoc asked.constraint) (one ∷ []) [] yes))
        (subst (Contains (one ∷ [])) (sym asked.is) (contains_head one [])))

    pub in_all : (to : Forced) → Contains (flat_map (asked_by basis asks u t told) model.assocs) to ↔ IsAskedFrom basis Asks u t told to
    in_all to = (
      (λ has. let found = in_flat_map (asked_by basis asks u t told) model.assocs to has in record { assoc = found.0; is_assoc = found.1; by = in_asked found.0 to found.2 }),
      (λ asked. contains_flat_map (asked_by basis asks u t told) model.assocs asked.assoc to asked.is_assoc (asked_in asked.assoc to asked.by)),
    )

  -- what an entity leads to
  pub in_steps : (from to : Forced) → Contains (steps basis from) to ↔ LeadsTo basis from to
  in_steps from to = in_all (is_arrow basis) (IsArrow basis) Decides-arrow from.set from.ty (part_in basis from) to

  -- partners
  in_partners : (region : Region) (to : Forced) → Contains (flat_map (partner_by basis) (filter (λ host. is_linked basis region.linked host.assoc) (basis.hosts region.set))) to ↔ IsPartner basis region to
  in_partners region to = (over, back)
    where
      linked : Host → Bool
      linked host = is_linked basis region.linked host.assoc

      partner : Host → Assoc → Forced
      partner host assoc =
          forced_at basis (partner_end host.first_hosts assoc).set (partner_end host.first_hosts assoc).ty (λ p. Some (symbol.End host.assoc (not host.first_hosts) p))

      over : Contains (flat_map (partner_by basis) (filter (λ host. is_linked basis region.linked host.assoc) (basis.hosts region.set))) to → IsPartner basis region to
      over has =
          let found = in_flat_map (partner_by basis) (filter linked (basis.hosts region.set)) to has in
          let host : Host = found.0 in
          let kept = filter_contains linked (basis.hosts region.set) host found.1 in
          by host kept.0 ((Decides-linked region.linked host.assoc).0 kept.1) (slice_get model.assocs host.assoc.index) refl found.2
        where
          by : (host : Host) → Contains (basis.hosts region.set) host → Contains region.linked host.assoc → (there : Option Assoc) → slice_get model.assocs host.assoc.index ≡ there
              → Contains (option_map_or (λ assoc. partner host assoc ∷ []) there []) to → IsPartner basis region to
          by host hosts flag None none among = absurd (contains_nil to among)
          by host hosts flag (Some assoc) is among = record {
            host = host;
            hosts = hosts;
            linked = flag;
            assoc = assoc;
            is_assoc = is;
            is = ⊎_elim (λ (here : to ≡ partner host assoc). here) (λ (later : Contains [] to). absurd (contains_nil to later)) (contains_cons_cases (partner host assoc) [] to among);
          }

      back : IsPartner basis region to → Contains (flat_map (partner_by basis) (filter (λ host. is_linked basis region.linked host.assoc) (basis.hosts region.set))) to
      back by =
          let P : Option Assoc → Type 0 = λ there. Contains (option_map_or (λ assoc. partner by.host assoc ∷ []) there []) to in
          contains_flat_map (partner_by basis) (filter linked (basis.hosts region.set)) by.host to
          (contains_filter linked (basis.hosts region.set) by.host by.hosts ((Decides-linked region.linked by.host.assoc).1 by.linked))
          (subst P (sym by.is_assoc) (subst (Contains (partner by.host by.assoc ∷ [])) (sym by.is) (contains_head (partner by.host by.assoc) [])))

  -- both ends of a link
  in_ends : (a : AssocId) (to : Forced) → Contains (option_map_or (λ assoc. link_end basis a true assoc ∷ link_end basis a false assoc ∷ []) (slice_get model.assocs a.index) []) to ↔ IsLinkEnd basis a to
  in_ends a to = (over (slice_get model.assocs a.index) refl, back)
    where
      ends : Assoc → List Forced
      ends assoc = link_end basis a true assoc ∷ link_end basis a false assoc ∷ []

      over : (there : Option Assoc) → slice_get model.assocs a.index ≡ there → Contains (option_map_or (λ assoc. link_end basis a true assoc ∷ link_end basis a false assoc ∷ []) there []) to
          → IsLinkEnd basis a to
      over None none among = absurd (contains_nil to among)
      over (Some assoc) is among = ⊎_elim
          (λ (here : to ≡ link_end basis a true assoc). record { assoc = assoc; is_assoc = is; first = true; is = here })
          (λ (later : Contains (link_end basis a false assoc ∷ []) to). ⊎_elim
          (λ (here : to ≡ link_end basis a false assoc). record { assoc = assoc; is_assoc = is; first = false; is = here })
          (λ (none : Contains [] to). absurd (contains_nil to none))
          (contains_cons_cases (link_end basis a false assoc) [] to later))
          (contains_cons_cases (link_end basis a true assoc) (link_end basis a false assoc ∷ []) to among)

      one_of : (first : Bool) (assoc : Assoc) → Contains (ends assoc) (link_end basis a first assoc)
      one_of true assoc = contains_head (link_end basis a true assoc) (link_end basis a false assoc ∷ [])
      one_of false assoc = contains_tail (link_end basis a true assoc) (link_end basis a false assoc ∷ []) (link_end basis a false assoc) (contains_head (link_end basis a false assoc) [])

      back : IsLinkEnd basis a to → Contains (option_map_or (λ assoc. link_end basis a true assoc ∷ link_end basis a false assoc ∷ []) (slice_get model.assocs a.index) []) to
      back end =
          let P : Option Assoc → Type 0 = λ there. Contains (option_map_or (λ assoc. link_end basis a true assoc ∷ link_end basis a false assoc ∷ []) there []) to in
          subst P (sym end.is_assoc) (subst (Contains (ends end.assoc)) (sym end.is) (one_of end.first end.assoc))

  -- what the focus forces by itself
  pub in_begun : (of : Focus) (not_null : List PropId) (to : Forced) → Contains (begun basis of not_null) to ↔ IsBegun basis of not_null to
  in_begun (focus.Link a) not_null to = in_ends a to
  in_begun (focus.Entity region) not_null to =
      let partners : List Forced = flat_map (partner_by basis) (filter (λ host. is_linked basis region.linked host.assoc) (basis.hosts region.set)) in
      let asked : List Forced = flat_map (asked_by basis (λ _ constraint. list_all (is_known basis region not_null) constraint.dependent) region.set region.ty (λ p. Some (symbol.Prop p))) model.assocs in
      let told = in_all (λ _ constraint. list_all (is_known basis region not_null) constraint.dependent) (λ _ constraint. All (IsKnown basis region not_null) constraint.dependent)
      (λ assoc constraint. Decides-all (is_known basis region not_null) (IsKnown basis region not_null) (Decides-known region not_null) constraint.dependent)
      region.set region.ty (λ p. Some (symbol.Prop p)) to in (
        (λ has. ⊎_elim
            (λ (first : Contains partners to). inl ((in_partners region to).0 first))
            (λ (second : Contains asked to). inr (told.0 second))
            (Contains-append_cases partners asked to has)),
        (λ is. ⊎_elim
            (λ (first : IsPartner basis region to). Contains-append_left partners asked to ((in_partners region to).1 first))
            (λ second. Contains-append_right partners asked to (told.1 second))
            is),
      )
