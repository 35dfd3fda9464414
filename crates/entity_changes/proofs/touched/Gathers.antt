-- What is gathered when one item more comes.
use Rattle.std.proofs.Common.{◌≡◌, ◌≢◌, ◌↔◌, ◌⊎◌, ⊎_elim, inl, inr, List, [], ◌∷◌, ◌++◌, Contains, IsTrue, Some, slice_get, Bool, true, false, cond, if◌then◌else◌, refl, sym, ap, subst, ◌∙◌}
use Rattle.std.specs.BTreeSet.{contains}
use Rattle.std.proofs.lemmas.List.Quantifiers.{all_pairs_push}
use Rattle.emc_base.specs.Lists.{AreApart}
use Rattle.std.proofs.lemmas.List.Elements.{Contains-get_or}
use Rattle.round_trip.specs.Words.{SetId, AssocId, LinkFragId, Value, Assoc, EntityModel, Link, At}
use Rattle.table_owners.specs.declared.places.LinkPlace.TheVariants as place
use Rattle.cells.specs.declared.cells.Cells.{Cells}
use Rattle.cells.specs.HostedLinks.{host_key, host_set}
use Rattle.emc_base.proofs.Lists.{at_once}
use Rattle.entity_changes.specs.Touching.{Hosts, IsJoined}
use Rattle.entity_changes.specs.declared.touched.gathered.Gathered.{Gathered}
use Rattle.entity_changes.specs.declared.touched.seen.Seen.{Seen}
use Rattle.entity_changes.specs.Spots.{Spot, same_spot, spot_cmp}
use Rattle.entity_changes.specs.touched.Seen.{AddsOnce, AreGathered, AreSeen, GathersLink, GathersThese, entity_at, link_at}
use Rattle.entity_changes.proofs.SpotOrder.{Decides-spot}
use Rattle.entity_changes.proofs.Pushes.{clash, push_cases, push_last, push_old}

module _ {X : Type 0} (spot_of : X → Spot) (tells : (x y : X) → spot_of x ≡ spot_of y → x ≡ y) (item : X) (old new : Seen X)
    (adds : AddsOnce (spot_of item) item old new)
    (seen : AreSeen spot_of old) where
  there : Bool
  there = contains spot_cmp old.spots (spot_of item)

  -- the items are those that were there, and this one
  pub items_more : (one : X) → Contains new.items one ↔ (Contains old.items one ⊎ (item ≡ one))
  unfolding there
  items_more one = by there refl
    where
      by : (b : Bool) → there ≡ b → Contains new.items one ↔ (Contains old.items one ⊎ (item ≡ one))
      by true is =
          let same : new.items ≡ old.items = adds.added ∙ ap (λ b. if b then old.items else old.items ++ item ∷ []) is in (
            (λ has. inl (subst (λ list. Contains list one) same has)),
            (λ either. subst (λ list. Contains list one) (sym same)
                (⊎_elim (λ (has : Contains old.items one). has) (λ (its : item ≡ one). subst (Contains old.items) its ((seen.noted item).0 is)) either)),
          )
      by false is =
          let more : new.items ≡ old.items ++ item ∷ [] = adds.added ∙ ap (λ b. if b then old.items else old.items ++ item ∷ []) is in (
            (λ has. ⊎_elim (λ (before : Contains old.items one). inl before) (λ (last : one ≡ item). inr (sym last))
                (push_cases old.items item one (subst (λ list. Contains list one) more has))),
            (λ either. subst (λ list. Contains list one) (sym more)
                (⊎_elim (λ (has : Contains old.items one). push_old old.items item one has)
                (λ (its : item ≡ one). subst (Contains (old.items ++ item ∷ [])) its (push_last old.items item)) either)),
          )

  -- they are still apart, and noted
  pub seen_more : AreSeen spot_of new
  unfolding there
  seen_more = record { noted = noted; once = once there refl }
    where
      noted : (one : X) → IsTrue (contains spot_cmp new.spots (spot_of one)) ↔ Contains new.items one
      noted one = by (same_spot (spot_of item) (spot_of one)) refl
        where
          by : (b : Bool) → same_spot (spot_of item) (spot_of one) ≡ b → IsTrue (contains spot_cmp new.spots (spot_of one)) ↔ Contains new.items one
          by true same =
              let its : item ≡ one = tells item one ((Decides-spot (spot_of item) (spot_of one)).0 same) in
              ((λ _. (items_more one).1 (inr its)), (λ _. adds.noted (spot_of one) ∙ ap (λ b. cond b true (contains spot_cmp old.spots (spot_of one))) same))
          by false same =
              let kept : contains spot_cmp new.spots (spot_of one) ≡ contains spot_cmp old.spots (spot_of one) =
              adds.noted (spot_of one) ∙ ap (λ b. cond b true (contains spot_cmp old.spots (spot_of one))) same in (
                (λ told. (items_more one).1 (inl ((seen.noted one).0 (sym kept ∙ told)))),
                (λ has. kept ∙ (seen.noted one).1 (⊎_elim (λ (before : Contains old.items one). before)
                    (λ (its : item ≡ one). absurd (clash (same_spot (spot_of item) (spot_of one))
                    ((Decides-spot (spot_of item) (spot_of one)).1 (ap spot_of its)) same))
                    ((items_more one).0 has))),
              )

      once : (b : Bool) → there ≡ b → AreApart new.items
      once true is = subst AreApart (sym (adds.added ∙ ap (λ b. if b then old.items else old.items ++ item ∷ []) is)) seen.once
      once false is = subst AreApart (sym (adds.added ∙ ap (λ b. if b then old.items else old.items ++ item ∷ []) is))
          (all_pairs_push (λ x y. x ≢ y) old.items item seen.once
          (λ k d within same. clash there ((seen.noted item).1 (subst (Contains old.items) same (Contains-get_or old.items k d within))) is))

-- spots tell apart
entity_told : (x y : SetId × List Value) → entity_at x ≡ entity_at y → x ≡ y
entity_told x y same = λ i. (record { index = (same i).0 }, (same i).1)

link_told : (x y : AssocId × Link) → link_at x ≡ link_at y → x ≡ y
link_told x y same = λ i. (record { index = (same i).0 }, record { first = (same i).1; second = (same i).2 })

module _ (entities : SetId × List Value → Type 0) (links : AssocId × Link → Type 0) (old new : Gathered) (gathered : AreGathered old) where
  -- one entity more
  pub gathers_entity : (item : SetId × List Value) → AddsOnce (entity_at item) item old.entities new.entities → new.links ≡ old.links
      → ((one : SetId × List Value) → (item ≡ one) ↔ entities one) → ((one : AssocId × Link) → ¬ links one) → GathersThese entities links old new
  gathers_entity item adds same is none = record {
    seen = record {
      entities = seen_more entity_at entity_told item old.entities new.entities adds gathered.entities;
      links = subst (AreSeen link_at) (sym same) gathered.links;
    };
    more_entities = λ one. let more = items_more entity_at entity_told item old.entities new.entities adds gathered.entities one in (
      (λ has. ⊎_elim (λ (before : Contains old.entities.items one). inl before) (λ (its : item ≡ one). inr ((is one).0 its)) (more.0 has)),
      (λ either. more.1 (⊎_elim (λ (before : Contains old.entities.items one). inl before) (λ (its : entities one). inr ((is one).1 its)) either)),
    );
    more_links = λ one. (
      (λ has. inl (subst (λ (seen : Seen (AssocId × Link)). Contains seen.items one) same has)),
      (λ either. subst (λ (seen : Seen (AssocId × Link)). Contains seen.items one) (sym same)
          (⊎_elim (λ (before : Contains old.links.items one). before) (λ (its : links one). absurd (none one its)) either)),
    );
  }

  -- one link more
  pub gathers_link : (item : AssocId × Link) → AddsOnce (link_at item) item old.links new.links → new.entities ≡ old.entities
      → ((one : AssocId × Link) → (item ≡ one) ↔ links one) → ((one : SetId × List Value) → ¬ entities one) → GathersThese entities links old new
  gathers_link item adds same is none = record {
    seen = record {
      links = seen_more link_at link_told item old.links new.links adds gathered.links;
      entities = subst (AreSeen entity_at) (sym same) gathered.entities;
    };
    more_links = λ one. let more = items_more link_at link_told item old.links new.links adds gathered.links one in (
      (λ has. ⊎_elim (λ (before : Contains old.links.items one). inl before) (λ (its : item ≡ one). inr ((is one).0 its)) (more.0 has)),
      (λ either. more.1 (⊎_elim (λ (before : Contains old.links.items one). inl before) (λ (its : links one). inr ((is one).1 its)) either)),
    );
    more_entities = λ one. (
      (λ has. inl (subst (λ (seen : Seen (SetId × List Value)). Contains seen.items one) same has)),
      (λ either. subst (λ (seen : Seen (SetId × List Value)). Contains seen.items one) (sym same)
          (⊎_elim (λ (before : Contains old.entities.items one). before) (λ (its : entities one). absurd (none one its)) either)),
    );
  }

-- where nothing is touched, what was gathered stays
pub gathers_none : (entities : SetId × List Value → Type 0) (links : AssocId × Link → Type 0) (old : Gathered) → AreGathered old
    → ((one : SetId × List Value) → ¬ entities one) → ((one : AssocId × Link) → ¬ links one) → GathersThese entities links old old
gathers_none entities links old gathered no_entity no_link = record {
  seen = gathered;
  more_entities = λ one. (
    (λ has. inl has),
    (λ either. ⊎_elim (λ (before : Contains old.entities.items one). before)
        (λ (its : entities one). absurd (no_entity one its)) either),
  );
  more_links = λ one. ((λ has. inl has), (λ either. ⊎_elim (λ (before : Contains old.links.items one). before) (λ (its : links one). absurd (no_link one its)) either));
}

module _ (model : EntityModel) (cells : Cells) (a : AssocId) (link : Link) (old new : Gathered) (gathered : AreGathered old) where
  -- a link that an entity hosts
  pub gathers_hosted : (declared : Assoc) (first_hosts : Bool) (number : LinkFragId) → At model.assocs a.index declared
      → slice_get cells.places a.index ≡ Some (place.Hosted first_hosts number)
      → AddsOnce (entity_at (host_set first_hosts declared, host_key first_hosts link))
      (host_set first_hosts declared, host_key first_hosts link) old.entities new.entities
      → new.links ≡ old.links → GathersLink model cells a link old new
  gathers_hosted declared first_hosts number is_assoc place_is adds same =
      gathers_entity (λ one. Hosts model cells a link one.0 one.1) (λ one. ((a, link) ≡ one) × IsJoined cells a) old new gathered
      (host_set first_hosts declared, host_key first_hosts link) adds same
      (λ one. (
        (λ is. record {
          assoc = declared;
          is_assoc = is_assoc;
          first_hosts = first_hosts;
          number = number;
          place_is = place_is;
          set_is = ap (λ (item : SetId × List Value). item.0) is;
          key_is = ap (λ (item : SetId × List Value). item.1) is;
        }),
        hosts one,
      ))
      (λ one touches. no_join touches.1.0 touches.1.1)
    where
      no_join : (other : LinkFragId) → slice_get cells.places a.index ≡ Some (place.Joined other) → ⊥
      no_join other joined = cc

      hosts : (one : SetId × List Value) → Hosts model cells a link one.0 one.1 → (host_set first_hosts declared, host_key first_hosts link) ≡ one
      hosts one told =
          let end : first_hosts ≡ told.first_hosts = same_end told.first_hosts told.number told.place_is in
          let its : declared ≡ told.assoc = at_once model.assocs a.index declared told.assoc is_assoc told.is_assoc in
          λ i. (((λ j. host_set (end j) (its j)) ∙ told.set_is) i, (ap (λ b. host_key b link) end ∙ told.key_is) i)
        where
          same_end : (other : Bool) (fragment : LinkFragId) → slice_get cells.places a.index ≡ Some (place.Hosted other fragment) → first_hosts ≡ other
          same_end other fragment is = cc

  -- a link of a joined association set
  pub gathers_joined : (number : LinkFragId) → slice_get cells.places a.index ≡ Some (place.Joined number) → AddsOnce (link_at (a, link)) (a, link) old.links new.links
      → new.entities ≡ old.entities → GathersLink model cells a link old new
  gathers_joined number place_is adds same =
      gathers_link (λ one. Hosts model cells a link one.0 one.1) (λ one. ((a, link) ≡ one) × IsJoined cells a) old new gathered (a, link) adds same
      (λ one. ((λ is. (is, (number, place_is))), (λ touches. touches.0)))
      (λ one told. no_host told.first_hosts told.number told.place_is)
    where
      no_host : (first_hosts : Bool) (fragment : LinkFragId) → slice_get cells.places a.index ≡ Some (place.Hosted first_hosts fragment) → ⊥
      no_host first_hosts fragment is = cc
