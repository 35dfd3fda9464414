-- What a part of a state holds, and the rules of links at one end.
use Rattle.std.proofs.Common.{◌≡◌, ◌↔◌, ◌<◌, ◌≤◌, List, [], filter, length, get_or, Contains, Bool, true, false, not, IsTrue, Decides, sym, ap, subst, ◌∙◌, arith}
use Rattle.std.specs.Option.{option_map_or}
use Rattle.std.proofs.lemmas.Bool.Decides.{Decides-and}
use Rattle.std.proofs.lemmas.List.{length-map}
use Rattle.std.proofs.lemmas.List.Elements.{All-contains}
use Rattle.std.proofs.lemmas.List.Kept.{AllPairs-filter}
use Rattle.std.proofs.lemmas.Option.{slice_get-get_or, slice_get_past}
use Rattle.emc_base.specs.Lists.{AreApart, At, AtMostOne}
use Rattle.emc_base.proofs.Lists.{all_from_members}
use Rattle.emc_base.proofs.Mapped.{contains_filter}
use Rattle.emc_base.proofs.Numbered.{filter_contains}
use Rattle.edm_types.specs.declared.model.Mult.TheVariants.{One, ZeroOrOne, Many}
use Rattle.round_trip.specs.Words.{SetId, AssocId, EntityModel, Assoc, Entity, Link, Mult, State, AreLegalLinks, HasCount, HasEntityAt, IsA, IsState, entities_in, key_of, links_in}
use Rattle.schema_laws.specs.short_values.Numbers.{numbers_from}
use Rattle.schema_laws.specs.state_demand.Selecting.{same_key}
use Rattle.schema_laws.proofs.state_demand.lists.Lists.{Decides-any, any_of, of_any}
use Rattle.schema_laws.proofs.state_demand.writings.Selecting.{Decides-key}
use Rattle.population.specs.Kept.{has_end, has_ends, kept_in, kept_links, kept_state}
use Rattle.population.specs.Numbered.{end_of}
use Rattle.population.specs.Supported.{end_key}
use Rattle.population.proofs.plain.Lists.{length-numbers, made_at, most_one}
use Rattle.population.proofs.plain.Placed.{none_past}

-- of the items that are left of a list at most one has what at most one has of all
pub most_left : {X : Type 0} (P : X → Type 0) (p : X → Bool) (xs : List X) → AtMostOne P xs → AtMostOne P (filter p xs)
most_left P p xs most = most_one P (filter p xs) (AllPairs-filter (λ x y. P x → P y → ⊥) p xs
    (λ i j d below within holds also.
    let inside : i < length xs = omega (arith, below, within) in
    let same : i ≡ j = most i j (get_or xs i d) (get_or xs j d) (slice_get-get_or xs i d inside) (slice_get-get_or xs j d within) holds also in
    omega (arith, same, below)))

module _ (model : EntityModel) (keep : SetId → Entity → Bool) (state : State) where
  -- an entity that is kept stands at the end of the link
  abbrev pub HasKeptEnd : Bool → Assoc → Link → Type 0
  HasKeptEnd first assoc link = (entity : Entity) × Contains (entities_in state (end_of first assoc).set) entity × IsTrue (keep (end_of first assoc).set entity)
      × (key_of model entity ≡ end_key first link)

  kept_cases : (u : SetId) (entity : Entity) → Contains (kept_in model keep state u) entity ↔ (Contains (entities_in state u) entity × IsTrue (keep u entity))
  kept_cases u entity = (filter_contains (keep u) (entities_in state u) entity, λ both. contains_filter (keep u) (entities_in state u) entity both.0 both.1)

  Decides-end : (first : Bool) (assoc : Assoc) (link : Link) → Decides (has_end model keep state first assoc link) (HasKeptEnd first assoc link)
  Decides-end first assoc link =
      let u : SetId = (end_of first assoc).set in
      let HasKey : Entity → Type 0 = λ entity. key_of model entity ≡ end_key first link in
      let some = Decides-any (λ entity. same_key (key_of model entity) (end_key first link)) HasKey (λ entity. Decides-key (key_of model entity) (end_key first link)) (kept_in model keep state u) in (
        (λ told. let found = of_any HasKey (kept_in model keep state u) (some.0 told) in let both = (kept_cases u found.0).0 found.1 in (found.0, both.0, both.1, found.2)),
        (λ has. some.1 (any_of HasKey (kept_in model keep state u) has.0 ((kept_cases u has.0).1 (has.1, has.2)) has.3)),
      )

  pub Decides-ends : (assoc : Assoc) (link : Link) → Decides (has_ends model keep state assoc link) ((first : Bool) → HasKeptEnd first assoc link)
  Decides-ends assoc link =
      let both = Decides-and (has_end model keep state true assoc link) (has_end model keep state false assoc link) (Decides-end true assoc link) (Decides-end false assoc link) in
      (λ told. at (both.0 told), λ each. both.1 (each true, each false))
    where
      at : HasKeptEnd true assoc link × HasKeptEnd false assoc link → (first : Bool) → HasKeptEnd first assoc link
      at ends true = ends.0
      at ends false = ends.1

  module _ (shape : IsState model state) where
    pub entities_kept : (u : SetId) → entities_in (kept_state model keep state) u ≡ kept_in model keep state u
    entities_kept u = made_at (λ n. kept_in model keep state (record { index = n })) (length model.sets) u.index
        (λ past. ap (filter (keep u)) (none_past state.entities u.index (subst (λ n. n ≤ u.index) (sym shape.sets) past)))

    -- the entities of the part
    pub entity_kept : (u : SetId) (entity : Entity) → Contains (entities_in (kept_state model keep state) u) entity ↔ (Contains (entities_in state u) entity × IsTrue (keep u entity))
    entity_kept u entity =
        let P : List Entity → Type 0 = λ list. Contains list entity in
        ((λ has. (kept_cases u entity).0 (subst P (entities_kept u) has)), (λ both. subst P (sym (entities_kept u)) ((kept_cases u entity).1 both)))

  -- a part has a list for each set, and one for each association
  pub entities_long : length (kept_state model keep state).entities ≡ length model.sets
  entities_long = length-map (numbers_from 0 (length model.sets)) (λ n. kept_in model keep state (record { index = n })) ∙ length-numbers 0 (length model.sets)

  pub links_long : length (kept_state model keep state).links ≡ length model.assocs
  links_long = length-map (numbers_from 0 (length model.assocs)) (λ n. kept_links model keep state (record { index = n })) ∙ length-numbers 0 (length model.assocs)

  links_kept : (a : AssocId) → links_in (kept_state model keep state) a ≡ kept_links model keep state a
  links_kept a = made_at (λ n. kept_links model keep state (record { index = n })) (length model.assocs) a.index
      (λ past. ap (λ found. option_map_or (λ (assoc : Assoc). filter (has_ends model keep state assoc) (links_in state a)) found []) (slice_get_past model.assocs a.index past))

  pub links_kept_of : (a : AssocId) (assoc : Assoc) → At model.assocs a.index assoc → links_in (kept_state model keep state) a ≡ filter (has_ends model keep state assoc) (links_in state a)
  links_kept_of a assoc here = links_kept a ∙ ap (λ found. option_map_or (λ (one : Assoc). filter (has_ends model keep state one) (links_in state a)) found []) here

  -- the links of the part
  pub link_kept : (a : AssocId) (assoc : Assoc) → At model.assocs a.index assoc → (link : Link)
      → Contains (links_in (kept_state model keep state) a) link ↔ (Contains (links_in state a) link × ((first : Bool) → HasKeptEnd first assoc link))
  link_kept a assoc here link =
      let P : List Link → Type 0 = λ list. Contains list link in
      let left : List Link = filter (has_ends model keep state assoc) (links_in state a) in (
        (λ has.
            let both = filter_contains (has_ends model keep state assoc) (links_in state a) link (subst P (links_kept_of a assoc here) has) in
            (both.0, (Decides-ends assoc link).0 both.1)),
        (λ both. subst P (sym (links_kept_of a assoc here)) (contains_filter (has_ends model keep state assoc) (links_in state a) link both.0 ((Decides-ends assoc link).1 both.1))),
      )

module _ (model : EntityModel) (state : State) (assoc : Assoc) (links : List Link) where
  -- the rules of links at one end: an entity of each link's key stands there, and each entity there has as many links as the other end allows
  pub record AreLegalAt (first : Bool) : Type 0 where
    pub ends : (link : Link) → Contains links link → HasEntityAt model state (end_of first assoc) (end_key first link)
    pub partners : (entity : Entity) → Contains (entities_in state (end_of first assoc).set) entity → IsA model entity.ty (end_of first assoc).ty
        → HasCount (end_of (not first) assoc).mult (λ link. end_key first link ≡ key_of model entity) links

  abbrev BothEnds : Link → Type 0
  BothEnds link = HasEntityAt model state assoc.first link.first × HasEntityAt model state assoc.second link.second

  abbrev FirstPartners : Entity → Type 0
  FirstPartners entity = IsA model entity.ty assoc.first.ty → HasCount assoc.second.mult (λ link. link.first ≡ key_of model entity) links

  abbrev SecondPartners : Entity → Type 0
  SecondPartners entity = IsA model entity.ty assoc.second.ty → HasCount assoc.first.mult (λ link. link.second ≡ key_of model entity) links

  pub at_ends : AreLegalLinks model state assoc links → (first : Bool) → AreLegalAt first
  at_ends legal true = record {
    ends = λ link has. (All-contains BothEnds links link legal.ends has).0;
    partners = λ entity has. All-contains FirstPartners (entities_in state assoc.first.set) entity legal.first_partners has;
  }
  at_ends legal false = record {
    ends = λ link has. (All-contains BothEnds links link legal.ends has).1;
    partners = λ entity has. All-contains SecondPartners (entities_in state assoc.second.set) entity legal.second_partners has;
  }

  pub from_ends : AreApart links → ((first : Bool) → AreLegalAt first) → AreLegalLinks model state assoc links
  from_ends apart at = record {
    ends = all_from_members BothEnds links (λ link has. ((at true).ends link has, (at false).ends link has));
    once = apart;
    first_partners = all_from_members FirstPartners (entities_in state assoc.first.set) (λ entity has. (at true).partners entity has);
    second_partners = all_from_members SecondPartners (entities_in state assoc.second.set) (λ entity has. (at false).partners entity has);
  }

-- a part of a list holds as many, where it holds the one that a `1` asks for
pub count_left : (mult : Mult) (P : Link → Type 0) (p : Link → Bool) (links : List Link) → (mult ≡ One → (link : Link) → Contains links link → P link → IsTrue (p link))
    → HasCount mult P links → HasCount mult P (filter p links)
count_left One P p links keeps (some, most) =
    let found = of_any P links some in
    (any_of P (filter p links) found.0 (contains_filter p links found.0 found.1 (keeps (λ k. One) found.0 found.1 found.2)) found.2, most_left P p links most)
count_left ZeroOrOne P p links keeps most = most_left P p links most
count_left Many P p links keeps any = any
