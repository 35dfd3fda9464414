-- Changes that are made, or refused, by what is known to stand in a state.
use Rattle.std.proofs.Common.{◌≡◌, ◌≢◌, ◌↔◌, ◌==◌, ◌<◌, ◌⊎◌, ⊎_elim, inl, inr, ℕ, List, [], ◌∷◌, ◌++◌, map, filter, length, Contains, Option, None, Some, IsSome, IsTrue, Bool, true, false, not, cond, if◌then◌else◌, refl, sym, ap, subst, ◌∙◌}
use Rattle.std.specs.BTreeMap.{BTreeMap, get}
use Rattle.std.specs.BTreeSet.{BTreeSet, contains}
use Rattle.std.proofs.lemmas.Bool.{cases_eq}
use Rattle.std.proofs.lemmas.Bool.Decides.{Decides-eqb}
use Rattle.emc_base.proofs.Mapped.{contains_filter}
use Rattle.emc_base.proofs.Numbered.{filter_contains}
use Rattle.round_trip.specs.Words.{SetId, AssocId, TypeId, Value, EntityModel, Entity, Link, State, entities_in, links_in, key_of}
use Rattle.schema_laws.specs.state_demand.Selecting.{same_key}
use Rattle.entity_changes.specs.declared.change.Change.TheVariants as change
use Rattle.entity_changes.specs.declared.change.Reason.{Reason}
use Rattle.entity_changes.specs.declared.change.Reason.TheVariants as reason
use Rattle.entity_changes.specs.declared.making.standing.Standing.{Standing}
use Rattle.entity_changes.specs.declared.making.types.Types.{Types}
use Rattle.entity_changes.specs.declared.making.types.Types.TheVariants.{One, Several}
use Rattle.entity_changes.specs.Changes.{same_link, with_entities, with_links}
use Rattle.entity_changes.specs.Refusals.{IsRefused}
use Rattle.entity_changes.specs.Spots.{Spot, key_spot, link_spot, same_spot, spot_cmp}
use Rattle.entity_changes.specs.making.Standing.{AddsLink, IsTaken, Takes, TakesLink, TellsStanding}
use Rattle.entity_changes.specs.making.Types.{AreTypes, DeletesTypes, InsertsTypes, update_reason}
use Rattle.entity_changes.proofs.Afterwards.{entities_elsewhere, entities_here, links_elsewhere, links_here, same_assoc, same_set}
use Rattle.entity_changes.proofs.SpotOrder.{Decides-link, Decides-spot}
use Rattle.entity_changes.proofs.Pushes.{clash, false_from, push_cases, push_last, push_old}
use Rattle.entity_changes.proofs.making.TypesOf.{another, has_one, none_left, one_more, others_left, replaced_types}

module _ (model : EntityModel) (state : State) (old : Standing) (known : TellsStanding model state old) where
  module _ (s : SetId) (within : s.index < length state.entities) (entities : List Entity) (types : BTreeMap Spot Types)
      (own : (key : List Value) → AreTypes model entities key (get spot_cmp types (key_spot s key)))
      (others : (q : Spot) → q.0 ≢ s.index → get spot_cmp types q ≡ get spot_cmp old.entities q) where
    -- what is known when a set has other entities
    pub known_then : TellsStanding model (with_entities state s entities) record { entities = types; links = old.links }
    known_then = record { entities = each; links = known.links }
      where
        each : (t : SetId) (key : List Value) → AreTypes model (entities_in (with_entities state s entities) t) key (get spot_cmp types (key_spot t key))
        each t key = ⊎_elim
            (λ (same : t.index ≡ s.index). subst (λ (u : SetId). AreTypes model (entities_in (with_entities state s entities) u) key
            (get spot_cmp types (key_spot u key)))
            (same_set s t (sym same)) (subst (λ list. AreTypes model list key (get spot_cmp types (key_spot s key)))
            (sym (entities_here state s entities within)) (own key)))
            (λ (apart : t.index ≢ s.index). subst (λ list. AreTypes model list key (get spot_cmp types (key_spot t key)))
            (sym (entities_elsewhere state s entities t apart))
            (subst (AreTypes model (entities_in state t) key) (sym (others (key_spot t key) apart)) (known.entities t key)))
            (cases_eq t.index s.index)

  module _ (a : AssocId) (within : a.index < length state.links) (links : List Link) (spots : BTreeSet Spot)
      (own : (link : Link) → IsTrue (contains spot_cmp spots (link_spot a link)) ↔ Contains links link)
      (others : (q : Spot) → q.0 ≢ a.index → contains spot_cmp spots q ≡ contains spot_cmp old.links q) where
    -- and when an association set has other links
    pub known_links : TellsStanding model (with_links state a links) record { entities = old.entities; links = spots }
    known_links = record { entities = known.entities; links = each }
      where
        each : (b : AssocId) (link : Link) → IsTrue (contains spot_cmp spots (link_spot b link)) ↔ Contains (links_in (with_links state a links) b) link
        each b link = ⊎_elim
            (λ (same : b.index ≡ a.index). subst (λ (d : AssocId). IsTrue (contains spot_cmp spots (link_spot d link)) ↔ Contains
            (links_in (with_links state a links) d) link)
            (same_assoc a b (sym same)) (subst (λ list. IsTrue (contains spot_cmp spots (link_spot a link)) ↔ Contains list link)
            (sym (links_here state a links within)) (own link)))
            (λ (apart : b.index ≢ a.index). subst (λ list. IsTrue (contains spot_cmp spots (link_spot b link)) ↔ Contains list link)
            (sym (links_elsewhere state a links b apart))
            (subst (λ is. IsTrue is ↔ Contains (links_in state b) link) (sym (others (link_spot b link) apart)) (known.links b link)))
            (cases_eq b.index a.index)

-- what a map holds where one entry is put
module _ {V : Type 0} (spot q : Spot) (now was : V) where
  pub at_spot : spot ≡ q → cond (same_spot spot q) now was ≡ now
  at_spot same = ap (λ b. cond b now was) ((Decides-spot spot q).1 same)

  pub beside_spot : spot ≢ q → cond (same_spot spot q) now was ≡ was
  beside_spot apart = ap (λ b. cond b now was) (false_from (same_spot spot q) (λ told. apart ((Decides-spot spot q).0 told)))

-- a spot of another set
other_number : (s : ℕ) (key : List Value) (q : Spot) → q.0 ≢ s → (s, key, []) ≢ q
other_number s key q apart same = apart (ap (λ (p : Spot). p.0) (sym same))

other_link_number : (a : AssocId) (link : Link) (q : Spot) → q.0 ≢ a.index → link_spot a link ≢ q
other_link_number a link q apart same = apart (ap (λ (p : Spot). p.0) (sym same))

pub same_or_not : (key other : List Value) → (key ≡ other) ⊎ (key ≢ other)
same_or_not key other = by (same_spot (0, key, []) (0, other, [])) refl
  where
    by : (b : Bool) → same_spot (0, key, []) (0, other, []) ≡ b → (key ≡ other) ⊎ (key ≢ other)
    by true told = inl (ap (λ (p : Spot). p.1) ((Decides-spot (0, key, []) (0, other, [])).0 told))
    by false told = inr (λ same. clash (same_spot (0, key, []) (0, other, [])) ((Decides-spot (0, key, []) (0, other, [])).1 (λ i. (0, same i, []))) told)

module _ (model : EntityModel) where
  key_apart : (s : SetId) (key other : List Value) → key ≢ other → key_spot s key ≢ key_spot s other
  key_apart s key other apart same = apart (ap (λ (p : Spot). p.1) same)

  module _ (s : SetId) (entity : Entity) (old : Standing) (types : BTreeMap Spot Types) where
    abbrev k : List Value
    k = key_of model entity

    -- an insert
    insert_refused : (state : State) → AreTypes model (entities_in state s) k None → (why : Reason) → ¬ IsRefused model state (change.Insert s entity) why
    insert_refused state none reason.Exists (other, (has, is)) = none other has is
    insert_refused state none reason.Absent told = told
    insert_refused state none reason.TypeChanged told = told
    insert_refused state none reason.LinkExists told = told
    insert_refused state none reason.LinkAbsent told = told

    pub inserts : (found : Option Reason) → InsertsTypes (key_spot s k) entity.ty old.entities types found
        → Takes model (change.Insert s entity) old record { entities = types; links = old.links } found
    inserts None (absent, updates) state within known =
        let none : AreTypes model (entities_in state s) k None = subst (AreTypes model (entities_in state s) k) absent (known.entities s k) in (
          insert_refused state none,
          known_then model state old known s within (entities_in state s ++ entity ∷ []) types own
              (λ q apart. updates q ∙ beside_spot (key_spot s k) q (Some (One entity.ty)) (get spot_cmp old.entities q) (other_number s.index k q apart)),
        )
      where
        own : (key : List Value) → AreTypes model (entities_in state s ++ entity ∷ []) key (get spot_cmp types (key_spot s key))
        own key = ⊎_elim
            (λ (same : k ≡ key). subst (AreTypes model (entities_in state s ++ entity ∷ []) key)
            (sym (updates (key_spot s key) ∙ at_spot (key_spot s k) (key_spot s key) (Some (One entity.ty)) (get spot_cmp old.entities (key_spot s key))
            (ap (key_spot s) same)))
            (one_more model (entities_in state s) entity key None same
            (subst (AreTypes model (entities_in state s) key) (ap (λ q. get spot_cmp old.entities (key_spot s q)) (sym same) ∙ absent) (known.entities s key))))
            (λ (apart : k ≢ key). subst (AreTypes model (entities_in state s ++ entity ∷ []) key)
            (sym (updates (key_spot s key) ∙ beside_spot (key_spot s k) (key_spot s key) (Some (One entity.ty)) (get spot_cmp old.entities (key_spot s key))
            (key_apart s k key apart)))
            (another model (entities_in state s) entity key (get spot_cmp old.entities (key_spot s key)) apart (known.entities s key)))
            (same_or_not k key)
    inserts (Some why) (some, is) state within known = subst (IsRefused model state (change.Insert s entity)) (sym is)
        (there (get spot_cmp old.entities (key_spot s k)) some (known.entities s k))
      where
        there : (held : Option Types) → IsSome held → AreTypes model (entities_in state s) k held → IsRefused model state (change.Insert s entity) reason.Exists
        there None some are = cc
        there (Some held) some are = let one = has_one model (entities_in state s) k held are in (one.0, (one.1, one.2))

    -- an update
    update_refused : (state : State) (types_of : AreTypes model (entities_in state s) k (Some (One entity.ty))) → (why : Reason)
        → ¬ IsRefused model state (change.Update s entity) why
    update_refused state are reason.Exists told = told
    update_refused state are reason.Absent told = told are.0.0 (are.0.1, are.0.2)
    update_refused state are reason.TypeChanged (other, (has, is), apart) = apart (are.1 other has is)
    update_refused state are reason.LinkExists told = told
    update_refused state are reason.LinkAbsent told = told

    updates_none : (held : Option Types) → update_reason held entity.ty ≡ None → held ≡ Some (One entity.ty)
    updates_none None told = cc
    updates_none (Some Several) told = cc
    updates_none (Some (One ty)) told = by (ty.index == entity.ty.index) refl told
      where
        by : (b : Bool) → (ty.index == entity.ty.index) ≡ b → (if b then None else Some reason.TypeChanged) ≡ None → Some (One ty) ≡ Some (One entity.ty)
        by true same told = let is : ty ≡ entity.ty = λ i. record { index = (Decides-eqb ty.index entity.ty.index).0 same i } in ap (λ t. Some (One t)) is
        by false same told = cc

    updates_some : (state : State) (held : Option Types) (why : Reason) → update_reason held entity.ty ≡ Some why → AreTypes model (entities_in state s) k held
        → IsRefused model state (change.Update s entity) why
    updates_some state None why told are =
        let is : reason.Absent ≡ why = cc in
        subst (IsRefused model state (change.Update s entity)) is (λ other has. are other has.0 has.1)
    updates_some state (Some Several) why told (one, other, one_has, other_has, one_is, other_is, apart) =
        let is : reason.TypeChanged ≡ why = cc in
        subst (IsRefused model state (change.Update s entity)) is (by (one.ty.index == entity.ty.index) refl)
      where
        by : (b : Bool) → (one.ty.index == entity.ty.index) ≡ b → IsRefused model state (change.Update s entity) reason.TypeChanged
        by true same = (other, (other_has, other_is), λ its. apart ((λ i. record { index = (Decides-eqb one.ty.index entity.ty.index).0 same i }) ∙ sym its))
        by false same = (
          one,
          (one_has, one_is),
          λ its. clash (one.ty.index == entity.ty.index)
              ((Decides-eqb one.ty.index entity.ty.index).1 (ap (λ (t : TypeId). t.index) its)) same,
        )
    updates_some state (Some (One ty)) why told ((first, has, is), all) = by (ty.index == entity.ty.index) refl told
      where
        by : (b : Bool) → (ty.index == entity.ty.index) ≡ b → (if b then None else Some reason.TypeChanged) ≡ Some why
            → IsRefused model state (change.Update s entity) why
        by true same told = cc
        by false same told =
            let its : reason.TypeChanged ≡ why = cc in
            subst (IsRefused model state (change.Update s entity)) its (
              first,
              (has, is),
              λ one. clash (ty.index == entity.ty.index) ((Decides-eqb ty.index entity.ty.index).1 (ap (λ (t : TypeId). t.index) (sym (all first has is) ∙ one))) same,
            )

    pub updates : (found : Option Reason) → found ≡ update_reason (get spot_cmp old.entities (key_spot s k)) entity.ty
        → Takes model (change.Update s entity) old old found
    updates None told state within known =
        let held : get spot_cmp old.entities (key_spot s k) ≡ Some (One entity.ty) = updates_none (get spot_cmp old.entities (key_spot s k)) (sym told) in (
          update_refused state (subst (AreTypes model (entities_in state s) k) held (known.entities s k)),
          known_then model state old known s within (map (λ other. if same_key (key_of model other) k then entity else other) (entities_in state s)) old.entities
              (λ key. replaced_types model (entities_in state s) entity key (get spot_cmp old.entities (key_spot s key))
              (λ same. ap (λ q. get spot_cmp old.entities (key_spot s q)) same ∙ held) (known.entities s key))
              (λ q apart. refl),
        )
    updates (Some why) told state within known = updates_some state (get spot_cmp old.entities (key_spot s k)) why (sym told) (known.entities s k)

  module _ (s : SetId) (key : List Value) (old : Standing) (types : BTreeMap Spot Types) where
    delete_refused : (state : State) → (entity : Entity) × Contains (entities_in state s) entity × (key_of model entity ≡ key) → (why : Reason)
        → ¬ IsRefused model state (change.Delete s key) why
    delete_refused state one reason.Exists told = told
    delete_refused state one reason.Absent told = told one.0 (one.1, one.2)
    delete_refused state one reason.TypeChanged told = told
    delete_refused state one reason.LinkExists told = told
    delete_refused state one reason.LinkAbsent told = told

    -- a delete
    pub deletes : (found : Option Reason) → DeletesTypes (key_spot s key) old.entities types found
        → Takes model (change.Delete s key) old record { entities = types; links = old.links } found
    deletes None (some, told) state within known = (
      delete_refused state (there (get spot_cmp old.entities (key_spot s key)) some (known.entities s key)),
      known_then model state old known s within (filter (λ other. not (same_key (key_of model other) key)) (entities_in state s)) types own
          (λ q apart. told q ∙ beside_spot (key_spot s key) q None (get spot_cmp old.entities q) (other_number s.index key q apart)),
    )
      where
        there : (held : Option Types) → IsSome held → AreTypes model (entities_in state s) key held → (entity : Entity) × Contains (entities_in state s) entity
            × (key_of model entity ≡ key)
        there None some are = cc
        there (Some held) some are = has_one model (entities_in state s) key held are

        own : (other : List Value) → AreTypes model (filter (λ one. not (same_key (key_of model one) key)) (entities_in state s)) other
            (get spot_cmp types (key_spot s other))
        own other = ⊎_elim
            (λ (same : key ≡ other). subst (AreTypes model (filter (λ one. not (same_key (key_of model one) key)) (entities_in state s)) other)
            (sym (told (key_spot s other) ∙ at_spot (key_spot s key) (key_spot s other) None (get spot_cmp old.entities (key_spot s other)) (ap (key_spot s) same)))
            (none_left model (entities_in state s) other key (sym same)))
            (λ (apart : key ≢ other). subst (AreTypes model (filter (λ one. not (same_key (key_of model one) key)) (entities_in state s)) other)
            (sym (told (key_spot s other) ∙ beside_spot (key_spot s key) (key_spot s other) None (get spot_cmp old.entities (key_spot s other))
            (key_apart s key other apart)))
            (others_left model (entities_in state s) other key (get spot_cmp old.entities (key_spot s other)) (λ same. apart (sym same)) (known.entities s other)))
            (same_or_not key other)
    deletes (Some why) (absent, is) state within known =
        let none : AreTypes model (entities_in state s) key None = subst (AreTypes model (entities_in state s) key) absent (known.entities s key) in
        subst (IsRefused model state (change.Delete s key)) (sym is) (λ entity has. none entity has.0 has.1)

  module _ (a : AssocId) (link : Link) (old : Standing) (spots : BTreeSet Spot) where
    abbrev there : Bool
    there = contains spot_cmp old.links (link_spot a link)

    link_same : (other : Link) → link_spot a link ≡ link_spot a other → other ≡ link
    link_same other same = λ i. record { first = (sym same i).1; second = (sym same i).2 }

    -- a link
    link_refused : (state : State) → ¬ Contains (links_in state a) link → (why : Reason) → ¬ IsRefused model state (change.Link a link) why
    link_refused state none reason.Exists told = told
    link_refused state none reason.Absent told = told
    link_refused state none reason.TypeChanged told = told
    link_refused state none reason.LinkExists told = none told
    link_refused state none reason.LinkAbsent told = told

    pub links : (found : Option Reason) → AddsLink (link_spot a link) old.links spots found
        → Takes model (change.Link a link) old record { entities = old.entities; links = spots } found
    links found (told, updates) state within known = by there refl
      where
        own : (other : Link) → IsTrue (contains spot_cmp spots (link_spot a other)) ↔ Contains (links_in state a ++ link ∷ []) other
        own other = by (same_spot (link_spot a link) (link_spot a other)) refl
          where
            by : (b : Bool) → same_spot (link_spot a link) (link_spot a other) ≡ b
                → IsTrue (contains spot_cmp spots (link_spot a other)) ↔ Contains (links_in state a ++ link ∷ []) other
            by true same =
                let is : other ≡ link = link_same other ((Decides-spot (link_spot a link) (link_spot a other)).0 same) in (
                  (λ _. subst (Contains (links_in state a ++ link ∷ [])) (sym is) (push_last (links_in state a) link)),
                  (λ _. updates (link_spot a other) ∙ ap (λ b. cond b true (contains spot_cmp old.links (link_spot a other))) same),
                )
            by false same =
                let kept : contains spot_cmp spots (link_spot a other) ≡ contains spot_cmp old.links (link_spot a other) =
                updates (link_spot a other) ∙ ap (λ b. cond b true (contains spot_cmp old.links (link_spot a other))) same in (
                  (λ told. push_old (links_in state a) link other ((known.links a other).0 (sym kept ∙ told))),
                  (λ has. kept ∙ (known.links a other).1 (⊎_elim (λ (before : Contains (links_in state a) other). before)
                      (λ (last : other ≡ link). absurd (clash (same_spot (link_spot a link) (link_spot a other))
                      ((Decides-spot (link_spot a link) (link_spot a other)).1 (ap (link_spot a) (sym last))) same))
                      (push_cases (links_in state a) link other has))),
                )

        by : (b : Bool) → there ≡ b → IsTaken model state (change.Link a link) record { entities = old.entities; links = spots } found
        by true is =
            subst (IsTaken model state (change.Link a link) record { entities = old.entities; links = spots })
            (sym (told ∙ ap (λ b. if b then Some reason.LinkExists else None) is)) ((known.links a link).0 is)
        by false is =
            subst (IsTaken model state (change.Link a link) record { entities = old.entities; links = spots })
            (sym (told ∙ ap (λ b. if b then Some reason.LinkExists else None) is)) (
              link_refused state (λ has. clash there ((known.links a link).1 has) is),
              known_links model state old known a within (links_in state a ++ link ∷ []) spots own
                  (λ q apart. updates q ∙ beside_spot (link_spot a link) q true (contains spot_cmp old.links q) (other_link_number a link q apart)),
            )

    unlink_refused : (state : State) → Contains (links_in state a) link → (why : Reason) → ¬ IsRefused model state (change.Unlink a link) why
    unlink_refused state has reason.Exists told = told
    unlink_refused state has reason.Absent told = told
    unlink_refused state has reason.TypeChanged told = told
    unlink_refused state has reason.LinkExists told = told
    unlink_refused state has reason.LinkAbsent told = told has

    -- an unlink
    pub unlinks : (found : Option Reason) → TakesLink (link_spot a link) old.links spots found
        → Takes model (change.Unlink a link) old record { entities = old.entities; links = spots } found
    unlinks found (told, updates) state within known = by there refl
      where
        own : (other : Link) → IsTrue (contains spot_cmp spots (link_spot a other)) ↔ Contains (filter (λ one. not (same_link one link)) (links_in state a)) other
        own other = by (same_link other link) refl
          where
            by : (b : Bool) → same_link other link ≡ b
                → IsTrue (contains spot_cmp spots (link_spot a other)) ↔ Contains (filter (λ one. not (same_link one link)) (links_in state a)) other
            by true same =
                let is : other ≡ link = (Decides-link other link).0 same in
                let none : contains spot_cmp spots (link_spot a other) ≡ false =
                updates (link_spot a other) ∙ at_spot (link_spot a link) (link_spot a other) false (contains spot_cmp old.links (link_spot a other))
                (ap (link_spot a) (sym is)) in (
                  (λ told. absurd (clash (contains spot_cmp spots (link_spot a other)) told none)),
                  (λ has. absurd (clash (not (same_link other link)) (filter_contains (λ one. not (same_link one link)) (links_in state a) other has).1 (ap not same))),
                )
            by false same =
                let kept : contains spot_cmp spots (link_spot a other) ≡ contains spot_cmp old.links (link_spot a other) =
                updates (link_spot a other) ∙ beside_spot (link_spot a link) (link_spot a other) false (contains spot_cmp old.links (link_spot a other))
                (λ one. clash (same_link other link) ((Decides-link other link).1 (link_same other one)) same) in (
                  (λ told. contains_filter (λ one. not (same_link one link)) (links_in state a) other ((known.links a other).0 (sym kept ∙ told)) (ap not same)),
                  (λ has. kept ∙ (known.links a other).1 (filter_contains (λ one. not (same_link one link)) (links_in state a) other has).0),
                )

        by : (b : Bool) → there ≡ b → IsTaken model state (change.Unlink a link) record { entities = old.entities; links = spots } found
        by true is =
            subst (IsTaken model state (change.Unlink a link) record { entities = old.entities; links = spots })
            (sym (told ∙ ap (λ b. if b then None else Some reason.LinkAbsent) is)) (
              unlink_refused state ((known.links a link).0 is),
              known_links model state old known a within (filter (λ one. not (same_link one link)) (links_in state a)) spots own
                  (λ q apart. updates q ∙ beside_spot (link_spot a link) q false (contains spot_cmp old.links q) (other_link_number a link q apart)),
            )
        by false is =
            subst (IsTaken model state (change.Unlink a link) record { entities = old.entities; links = spots })
            (sym (told ∙ ap (λ b. if b then None else Some reason.LinkAbsent) is))
            (λ has. clash there ((known.links a link).1 has) is)
