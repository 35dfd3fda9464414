-- The same changes of the same state: what is refused, and where they lead.
use Rattle.std.proofs.Common.{◌≡◌, ◌≢◌, ◌<◌, ⊎_elim, List, [], ◌∷◌, ◌++◌, map, filter, not, length, Contains, All, IsPermutation, if◌then◌else◌, sym, subst}
use Rattle.std.proofs.lemmas.Bool.{cases_eq}
use Rattle.std.proofs.lemmas.List.Elements.{All-contains, All-head, All-tail, Contains-append_left}
use Rattle.std.proofs.lemmas.List.Sorted.{Contains-permutation, IsPermutation-append_left, IsPermutation-map, IsPermutation-sym}
use Rattle.std.proofs.lemmas.Option.{slice_get_within}
use Rattle.emc_base.proofs.Lists.{all_from_members}
use Rattle.round_trip.specs.Words.{SetId, AssocId, Value, EntityModel, Entity, Link, State, IsSameState, IsState, entities_in, links_in, key_of}
use Rattle.schema_laws.specs.state_demand.Selecting.{same_key}
use Rattle.entity_changes.specs.declared.change.Change.{Change}
use Rattle.entity_changes.specs.declared.change.Change.TheVariants as change
use Rattle.entity_changes.specs.declared.change.Reason.{Reason}
use Rattle.entity_changes.specs.declared.change.Reason.TheVariants as reason
use Rattle.entity_changes.specs.Changes.{after, after_one, same_link, with_entities, with_links, IsChange}
use Rattle.entity_changes.specs.Refusals.{AreAccepted, HasEntity, IsRefused}
use Rattle.entity_changes.proofs.Afterwards.{entities_elsewhere, entities_here, links_elsewhere, links_here, same_assoc, same_set}
use Rattle.entity_changes.proofs.same.Filtered.{filtered_alike}
use Rattle.entity_changes.proofs.same.States.{one_more_state}

-- states of the model with the same entities and links, in any order
record AreAlike (model : EntityModel) (one two : State) : Type 0 where
  is_one : IsState model one
  is_two : IsState model two
  same : IsSameState one two

module _ (model : EntityModel) (one two : State) (alike : AreAlike model one two) where
  back : IsSameState two one
  back = record {
    entities = λ s. IsPermutation-sym (entities_in one s) (entities_in two s) (alike.same.entities s);
    links = λ a. IsPermutation-sym (links_in one a) (links_in two a) (alike.same.links a);
  }

  -- other entities in one set, or other links in one association set
  entities_alike : (s : SetId) → s.index < length model.sets → (of_one of_two : List Entity) → IsPermutation of_one of_two
      → IsSameState (with_entities one s of_one) (with_entities two s of_two)
  entities_alike s within of_one of_two moved = record { entities = each; links = alike.same.links }
    where
      Moved : List Entity → List Entity → Type 0
      Moved = λ first second. IsPermutation first second

      each : (t : SetId) → IsPermutation (entities_in (with_entities one s of_one) t) (entities_in (with_entities two s of_two) t)
      each t = ⊎_elim
          (λ (same : s.index ≡ t.index). subst (λ (u : SetId). IsPermutation (entities_in (with_entities one s of_one) u) (entities_in (with_entities two s of_two) u)) (same_set s t same)
          (subst (λ list. IsPermutation list (entities_in (with_entities two s of_two) s))
          (sym (entities_here one s of_one (subst (λ n. s.index < n) (sym alike.is_one.sets) within)))
          (subst (IsPermutation of_one) (sym (entities_here two s of_two (subst (λ n. s.index < n) (sym alike.is_two.sets) within))) moved)))
          (λ (apart : s.index ≢ t.index).
          let other : t.index ≢ s.index = λ same. apart (sym same) in
          subst (λ list. IsPermutation list (entities_in (with_entities two s of_two) t)) (sym (entities_elsewhere one s of_one t other))
          (subst (IsPermutation (entities_in one t)) (sym (entities_elsewhere two s of_two t other)) (alike.same.entities t)))
          (cases_eq s.index t.index)

  links_alike : (a : AssocId) → a.index < length model.assocs → (of_one of_two : List Link) → IsPermutation of_one of_two
      → IsSameState (with_links one a of_one) (with_links two a of_two)
  links_alike a within of_one of_two moved = record { entities = alike.same.entities; links = each }
    where
      each : (b : AssocId) → IsPermutation (links_in (with_links one a of_one) b) (links_in (with_links two a of_two) b)
      each b = ⊎_elim
          (λ (same : a.index ≡ b.index). subst (λ (d : AssocId). IsPermutation (links_in (with_links one a of_one) d) (links_in (with_links two a of_two) d)) (same_assoc a b same)
          (subst (λ list. IsPermutation list (links_in (with_links two a of_two) a))
          (sym (links_here one a of_one (subst (λ n. a.index < n) (sym alike.is_one.assocs) within)))
          (subst (IsPermutation of_one) (sym (links_here two a of_two (subst (λ n. a.index < n) (sym alike.is_two.assocs) within))) moved)))
          (λ (apart : a.index ≢ b.index).
          let other : b.index ≢ a.index = λ same. apart (sym same) in
          subst (λ list. IsPermutation list (links_in (with_links two a of_two) b)) (sym (links_elsewhere one a of_one b other))
          (subst (IsPermutation (links_in one b)) (sym (links_elsewhere two a of_two b other)) (alike.same.links b)))
          (cases_eq a.index b.index)

  -- one change leads to states with the same entities and links
  same_afterwards : (some : Change) → IsChange model some → IsSameState (after_one model one some) (after_one model two some)
  same_afterwards (change.Insert s entity) good = entities_alike s good.0 (entities_in one s ++ entity ∷ []) (entities_in two s ++ entity ∷ [])
      (IsPermutation-append_left (entity ∷ []) (entities_in one s) (entities_in two s) (alike.same.entities s))
  same_afterwards (change.Update s entity) good =
      let put : Entity → Entity = λ old. if same_key (key_of model old) (key_of model entity) then entity else old in
      entities_alike s good.0 (map put (entities_in one s)) (map put (entities_in two s)) (IsPermutation-map put (entities_in one s) (entities_in two s) (alike.same.entities s))
  same_afterwards (change.Delete s key) good =
      let stays = λ (old : Entity). not (same_key (key_of model old) key) in
      entities_alike s good (filter stays (entities_in one s)) (filter stays (entities_in two s))
      (filtered_alike stays (entities_in one s) (entities_in two s) (alike.same.entities s))
  same_afterwards (change.Link a link) good = links_alike a (slice_get_within model.assocs a.index good.0 good.1) (links_in one a ++ link ∷ []) (links_in two a ++ link ∷ [])
      (IsPermutation-append_left (link ∷ []) (links_in one a) (links_in two a) (alike.same.links a))
  same_afterwards (change.Unlink a link) good =
      let stays = λ (old : Link). not (same_link old link) in
      links_alike a (slice_get_within model.assocs a.index good.0 good.1) (filter stays (links_in one a)) (filter stays (links_in two a)) (filtered_alike stays (links_in one a) (links_in two a) (alike.same.links a))

  alike_afterwards : (some : Change) → IsChange model some → AreAlike model (after_one model one some) (after_one model two some)
  alike_afterwards some good = record {
    is_one = one_more_state model one alike.is_one some good;
    is_two = one_more_state model two alike.is_two some good;
    same = same_afterwards some good;
  }

  -- what is refused in the one is refused in the other
  entity_too : (s : SetId) (key : List Value) (entity : Entity) → HasEntity model one s key entity → HasEntity model two s key entity
  entity_too s key entity has = (Contains-permutation (entities_in one s) (entities_in two s) entity (alike.same.entities s) has.0, has.1)

  entity_from : (s : SetId) (key : List Value) (entity : Entity) → HasEntity model two s key entity → HasEntity model one s key entity
  entity_from s key entity has = (Contains-permutation (entities_in two s) (entities_in one s) entity (back.entities s) has.0, has.1)

  link_too : (a : AssocId) (link : Link) → Contains (links_in one a) link → Contains (links_in two a) link
  link_too a link = Contains-permutation (links_in one a) (links_in two a) link (alike.same.links a)

  link_from : (a : AssocId) (link : Link) → Contains (links_in two a) link → Contains (links_in one a) link
  link_from a link = Contains-permutation (links_in two a) (links_in one a) link (back.links a)

  refused_too : (some : Change) (why : Reason) → IsRefused model one some why → IsRefused model two some why
  refused_too (change.Insert s entity) reason.Exists refused = (refused.0, entity_too s (key_of model entity) refused.0 refused.1)
  refused_too (change.Insert s entity) reason.Absent refused = absurd refused
  refused_too (change.Insert s entity) reason.TypeChanged refused = absurd refused
  refused_too (change.Insert s entity) reason.LinkExists refused = absurd refused
  refused_too (change.Insert s entity) reason.LinkAbsent refused = absurd refused
  refused_too (change.Update s entity) reason.Exists refused = absurd refused
  refused_too (change.Update s entity) reason.Absent refused = λ old has. refused old (entity_from s (key_of model entity) old has)
  refused_too (change.Update s entity) reason.TypeChanged refused = (refused.0, entity_too s (key_of model entity) refused.0 refused.1, refused.2)
  refused_too (change.Update s entity) reason.LinkExists refused = absurd refused
  refused_too (change.Update s entity) reason.LinkAbsent refused = absurd refused
  refused_too (change.Delete s key) reason.Exists refused = absurd refused
  refused_too (change.Delete s key) reason.Absent refused = λ old has. refused old (entity_from s key old has)
  refused_too (change.Delete s key) reason.TypeChanged refused = absurd refused
  refused_too (change.Delete s key) reason.LinkExists refused = absurd refused
  refused_too (change.Delete s key) reason.LinkAbsent refused = absurd refused
  refused_too (change.Link a link) reason.Exists refused = absurd refused
  refused_too (change.Link a link) reason.Absent refused = absurd refused
  refused_too (change.Link a link) reason.TypeChanged refused = absurd refused
  refused_too (change.Link a link) reason.LinkExists refused = link_too a link refused
  refused_too (change.Link a link) reason.LinkAbsent refused = absurd refused
  refused_too (change.Unlink a link) reason.Exists refused = absurd refused
  refused_too (change.Unlink a link) reason.Absent refused = absurd refused
  refused_too (change.Unlink a link) reason.TypeChanged refused = absurd refused
  refused_too (change.Unlink a link) reason.LinkExists refused = absurd refused
  refused_too (change.Unlink a link) reason.LinkAbsent refused = λ has. refused (link_from a link has)

-- so it is after some changes
same_after : (model : EntityModel) (changes : List Change) → All (IsChange model) changes → (one two : State) → AreAlike model one two
    → AreAlike model (after model one changes) (after model two changes)
same_after model [] good one two alike = alike
same_after model (some ∷ changes) good one two alike = same_after model changes (All-tail (IsChange model) some changes good)
    (after_one model one some) (after_one model two some) (alike_afterwards model one two alike some (All-head (IsChange model) some changes good))

module _ (model : EntityModel) (one two : State) (is_one : IsState model one) (is_two : IsState model two) (same : IsSameState one two) (changes : List Change)
    (good : All (IsChange model) changes) where
  alike : AreAlike model one two
  alike = record { is_one = is_one; is_two = is_two; same = same }

  -- they lead to states with the same entities and links
  pub leads_alike : IsSameState (after model one changes) (after model two changes)
  leads_alike = (same_after model changes good one two alike).same

  -- and what is accepted of the one is accepted of the other
  pub accepted_alike : AreAccepted model one changes → AreAccepted model two changes
  accepted_alike accepted before later some why here refused =
      let so_far = same_after model before (all_from_members (IsChange model) before (λ each has. All-contains (IsChange model) changes each good
      (subst (λ list. Contains list each) (sym here) (Contains-append_left before (some ∷ later) each has)))) one two alike in
      let turned : AreAlike model (after model two before) (after model one before) =
      record { is_one = so_far.is_two; is_two = so_far.is_one; same = back model (after model one before) (after model two before) so_far } in
      accepted before later some why here (refused_too model (after model two before) (after model one before) turned some why refused)
