-- What one change more does, before those whose doings are told.
use Rattle.std.proofs.Common.{◌≡◌, ◌≢◌, ◌<◌, ⊎_elim, List, [], ◌∷◌, ◌++◌, map, filter, length, not, if◌then◌else◌, refl, sym, ap, subst, ◌∙◌}
use Rattle.std.proofs.lemmas.Bool.{cases_eq}
use Rattle.std.proofs.lemmas.List.{length-map}
use Rattle.round_trip.specs.Words.{SetId, AssocId, Value, EntityModel, Entity, Link, State, entities_in, links_in, key_of}
use Rattle.schema_laws.specs.state_demand.Selecting.{same_key}
use Rattle.entity_changes.specs.declared.change.Change.{Change}
use Rattle.entity_changes.specs.declared.change.Change.TheVariants as change
use Rattle.entity_changes.specs.declared.making.fates.Fates.{Fates}
use Rattle.entity_changes.specs.Changes.{after, after_one, same_link, with_entities, with_links}
use Rattle.entity_changes.specs.Spots.{Spot, key_spot, link_spot}
use Rattle.entity_changes.specs.making.Fates.{AddsItem, Foretells, ForetellsOneMore, RemovesItems, ReplacesItems, becomes}
use Rattle.entity_changes.proofs.Afterwards.{entities_elsewhere, entities_here, length-entities, length-links, links_elsewhere, links_here, same_assoc, same_set}
use Rattle.entity_changes.proofs.SpotOrder.{apart_spots, key_spot_same, link_spot_same}
use Rattle.entity_changes.proofs.Become.{added, added_elsewhere, removed, removed_elsewhere, replaced, replaced_elsewhere, same_size}

module _ (model : EntityModel) where
  abbrev spot_in : SetId → Entity → Spot
  spot_in s entity = key_spot s (key_of model entity)

  module _ (s : SetId) (one : Change) (entities : State → List Entity) (is_so : (state : State) → after_one model state one ≡ with_entities state s (entities state))
      (old new : Fates Entity) (links : Fates Link) (size : length new.behind.items ≡ length old.behind.items) (within : s.index < length old.behind.items)
      (own : (state : State) → becomes new (spot_in s) s.index (entities_in state s) ≡ becomes old (spot_in s) s.index (entities state))
      (others : (t : SetId) → t.index ≢ s.index → (xs : List Entity) → becomes new (spot_in t) t.index xs ≡ becomes old (spot_in t) t.index xs) where
    -- a change of entities
    pub tells_entities : ForetellsOneMore model one record { entities = old; links = links } record { entities = new; links = links }
    tells_entities = record { size = record { entities = size; links = refl }; told = λ changes told. record { entities = each changes told; links = same_links changes told } }
      where
        same_links : (changes : List Change) → Foretells model changes record { entities = old; links = links } → (state : State)
            → length state.links ≡ length links.behind.items → (a : AssocId)
            → links_in (after model state (one ∷ changes)) a ≡ becomes links (link_spot a) a.index (links_in state a)
        same_links changes told state count a =
            told.links (after_one model state one) (length-links model state one ∙ count) a
            ∙ ap (λ (afterwards : State). becomes links (link_spot a) a.index (links_in afterwards a)) (is_so state)

        each : (changes : List Change) → Foretells model changes record { entities = old; links = links } → (state : State)
            → length state.entities ≡ length new.behind.items → (t : SetId)
            → entities_in (after model state (one ∷ changes)) t ≡ becomes new (spot_in t) t.index (entities_in state t)
        each changes told state count t =
            told.entities (after_one model state one) (length-entities model state one ∙ count ∙ size) t
            ∙ ap (λ (afterwards : State). becomes old (spot_in t) t.index (entities_in afterwards t)) (is_so state)
            ∙ ⊎_elim
            (λ (same : t.index ≡ s.index).
            let P : SetId → Type 0 = λ u. becomes old (spot_in u) u.index (entities_in (with_entities state s (entities state)) u) ≡ becomes new
            (spot_in u) u.index (entities_in state u) in
            subst P (same_set s t (sym same))
            (ap (becomes old (spot_in s) s.index) (entities_here state s (entities state) (subst (λ n. s.index < n) (sym (count ∙ size)) within)) ∙ sym (own state)))
            (λ (apart : t.index ≢ s.index).
            ap (becomes old (spot_in t) t.index) (entities_elsewhere state s (entities state) t apart) ∙ sym (others t apart (entities_in state t)))
            (cases_eq t.index s.index)

  module _ (a : AssocId) (one : Change) (links : State → List Link) (is_so : (state : State) → after_one model state one ≡ with_links state a (links state))
      (old new : Fates Link) (entities : Fates Entity) (size : length new.behind.items ≡ length old.behind.items) (within : a.index < length old.behind.items)
      (own : (state : State) → becomes new (link_spot a) a.index (links_in state a) ≡ becomes old (link_spot a) a.index (links state))
      (others : (b : AssocId) → b.index ≢ a.index → (xs : List Link) → becomes new (link_spot b) b.index xs ≡ becomes old (link_spot b) b.index xs) where
    -- a change of links
    pub tells_links : ForetellsOneMore model one record { entities = entities; links = old } record { entities = entities; links = new }
    tells_links = record { size = record { entities = refl; links = size }; told = λ changes told. record { entities = same_entities changes told; links = each changes told } }
      where
        same_entities : (changes : List Change) → Foretells model changes record { entities = entities; links = old } → (state : State)
            → length state.entities ≡ length entities.behind.items
            → (s : SetId) → entities_in (after model state (one ∷ changes)) s ≡ becomes entities (spot_in s) s.index (entities_in state s)
        same_entities changes told state count s =
            told.entities (after_one model state one) (length-entities model state one ∙ count) s
            ∙ ap (λ (afterwards : State). becomes entities (spot_in s) s.index (entities_in afterwards s)) (is_so state)

        each : (changes : List Change) → Foretells model changes record { entities = entities; links = old } → (state : State)
            → length state.links ≡ length new.behind.items → (b : AssocId)
            → links_in (after model state (one ∷ changes)) b ≡ becomes new (link_spot b) b.index (links_in state b)
        each changes told state count b =
            told.links (after_one model state one) (length-links model state one ∙ count ∙ size) b
            ∙ ap (λ (afterwards : State). becomes old (link_spot b) b.index (links_in afterwards b)) (is_so state)
            ∙ ⊎_elim
            (λ (same : b.index ≡ a.index).
            let P : AssocId → Type 0 = λ u. becomes old (link_spot u) u.index (links_in (with_links state a (links state)) u) ≡ becomes new
            (link_spot u) u.index (links_in state u) in
            subst P (same_assoc a b (sym same))
            (ap (becomes old (link_spot a) a.index) (links_here state a (links state) (subst (λ n. a.index < n) (sym (count ∙ size)) within)) ∙ sym (own state)))
            (λ (apart : b.index ≢ a.index).
            ap (becomes old (link_spot b) b.index) (links_elsewhere state a (links state) b apart) ∙ sym (others b apart (links_in state b)))
            (cases_eq b.index a.index)

  module _ (s : SetId) (old new : Fates Entity) (links : Fates Link) (within : s.index < length old.behind.items) where
    pub inserts : (entity : Entity) → AddsItem s.index (key_spot s (key_of model entity)) entity old new
        → ForetellsOneMore model (change.Insert s entity) record { entities = old; links = links } record { entities = new; links = links }
    inserts entity one = tells_entities s (change.Insert s entity) (λ state. entities_in state s ++ entity ∷ []) (λ state. refl) old new links
        (same_size s.index entity (spot_in s entity) old new one) within
        (λ state. added (spot_in s entity) old new (spot_in s) s.index entity one
        (subst (λ n. s.index < n) (sym (length-map old.behind.items (λ list. map (λ x. x.now) list.items))) within) refl (entities_in state s))
        (λ t apart xs. added_elsewhere (spot_in s entity) old new (spot_in t) s.index entity one t.index apart xs)

    pub updates : (entity : Entity) → ReplacesItems (key_spot s (key_of model entity)) entity old new
        → ForetellsOneMore model (change.Update s entity) record { entities = old; links = links } record { entities = new; links = links }
    updates entity one = tells_entities s (change.Update s entity) (λ state. map (λ other. if same_key (key_of model other)
        (key_of model entity) then entity else other) (entities_in state s))
        (λ state. refl) old new links (ap (λ list. length list.items) one.behind) within
        (λ state. replaced (spot_in s entity) old new (spot_in s) s.index entity one refl (entities_in state s)
        ∙ ap (λ f. becomes old (spot_in s) s.index (map f (entities_in state s)))
        (λ i other. if key_spot_same s (key_of model entity) (key_of model other) i then entity else other))
        (λ t apart xs. replaced_elsewhere (spot_in s entity) old new (spot_in t) t.index entity one
        (λ x. apart_spots (spot_in s entity) (spot_in t x) (λ same. apart (sym same))) xs)

    pub deletes : (key : List Value) → RemovesItems (key_spot s key) old new
        → ForetellsOneMore model (change.Delete s key) record { entities = old; links = links } record { entities = new; links = links }
    deletes key one = tells_entities s (change.Delete s key) (λ state. filter (λ other. not (same_key (key_of model other) key)) (entities_in state s))
        (λ state. refl) old new links (ap (λ list. length list.items) one.behind) within
        (λ state. removed (key_spot s key) old new (spot_in s) s.index one (entities_in state s)
        ∙ ap (λ p. becomes old (spot_in s) s.index (filter p (entities_in state s))) (λ i other. not (key_spot_same s key (key_of model other) i)))
        (λ t apart xs. removed_elsewhere (key_spot s key) old new (spot_in t) t.index one
        (λ x. apart_spots (key_spot s key) (spot_in t x) (λ same. apart (sym same))) xs)

  module _ (a : AssocId) (link : Link) (old new : Fates Link) (entities : Fates Entity) (within : a.index < length old.behind.items) where
    pub links : AddsItem a.index (link_spot a link) link old new
        → ForetellsOneMore model (change.Link a link) record { entities = entities; links = old } record { entities = entities; links = new }
    links one = tells_links a (change.Link a link) (λ state. links_in state a ++ link ∷ []) (λ state. refl) old new entities
        (same_size a.index link (link_spot a link) old new one) within
        (λ state. added (link_spot a link) old new (link_spot a) a.index link one
        (subst (λ n. a.index < n) (sym (length-map old.behind.items (λ list. map (λ x. x.now) list.items))) within) refl (links_in state a))
        (λ b apart xs. added_elsewhere (link_spot a link) old new (link_spot b) a.index link one b.index apart xs)

    pub unlinks : RemovesItems (link_spot a link) old new
        → ForetellsOneMore model (change.Unlink a link) record { entities = entities; links = old } record { entities = entities; links = new }
    unlinks one = tells_links a (change.Unlink a link) (λ state. filter (λ other. not (same_link other link)) (links_in state a))
        (λ state. refl) old new entities (ap (λ list. length list.items) one.behind) within
        (λ state. removed (link_spot a link) old new (link_spot a) a.index one (links_in state a)
        ∙ ap (λ p. becomes old (link_spot a) a.index (filter p (links_in state a))) (λ i other. not (link_spot_same a link other i)))
        (λ b apart xs. removed_elsewhere (link_spot a link) old new (link_spot b) b.index one
        (λ x. apart_spots (link_spot a link) (link_spot b x) (λ same. apart (sym same))) xs)
