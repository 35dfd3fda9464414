-- The links of a supported state: between entities that stand, each once, and as many at each end as the other end allows.
use Rattle.std.proofs.Common.{◌≡◌, ◌≢◌, ⊎_elim, ℕ, List, [], ◌++◌, map, filter, get_or, All, AllPairs, Any, Contains, Bool, true, false, true≢false, not, Decides, if◌then◌else◌, refl, sym, ap, subst, ◌∙◌}
use Rattle.std.specs.Option.{option_map_or}
use Rattle.std.proofs.lemmas.Bool.{and_parts, cond-true}
use Rattle.std.proofs.lemmas.Bool.Decides.{Decides-and, Decides-not}
use Rattle.std.proofs.lemmas.List.{append-nil}
use Rattle.std.proofs.lemmas.List.Elements.{All-contains, Contains-append_cases, Contains-append_left, Contains-append_right}
use Rattle.std.proofs.lemmas.List.Kept.{AllPairs-filter}
use Rattle.std.proofs.lemmas.Option.{MatchOption-at_none}
use Rattle.emc_base.specs.Lists.{AreApart, AtMostOne}
use Rattle.emc_base.proofs.FoundItems.{member_of, some_member}
use Rattle.emc_base.proofs.Joined.{apart-append}
use Rattle.emc_base.proofs.Lists.{all_from_members}
use Rattle.emc_base.proofs.Mapped.{contains_at, contains_filter, contains_map}
use Rattle.emc_base.proofs.Members.{contains_nil}
use Rattle.emc_base.proofs.Numbered.{all_pairs_map, filter_contains, map_contains}
use Rattle.round_trip.specs.Words.{SetId, AssocId, Value, EntityModel, EntitySet, Assoc, End, Mult, Entity, Link, At, HasCount, IsA, IsIndependent, key_of}
use Rattle.edm_types.specs.declared.model.Mult.TheVariants.{One, ZeroOrOne, Many}
use Rattle.round_trip.specs.soundness.models.Constraints.{HasIndependentMults, IsSoundAssoc, IsSoundConstraint, IsSoundEnd}
use Rattle.round_trip.specs.soundness.models.Models.{IsSoundModel}
use Rattle.schema_laws.specs.sound_demand.Deriving.{derives}
use Rattle.schema_laws.specs.state_demand.Selecting.{same_key}
use Rattle.schema_laws.proofs.sound_demand.Deriving.{decides_types}
use Rattle.schema_laws.proofs.state_demand.lists.Lists.{Decides-any}
use Rattle.schema_laws.proofs.state_demand.writings.Decisions.{so_or_not}
use Rattle.schema_laws.proofs.state_demand.writings.Selecting.{Decides-key}
use Rattle.population.specs.Given.{AreGiven, AreKeys, AreLinked, HasNumbers, StandsAtEnd}
use Rattle.population.specs.Numbered.{end_number, end_of, numbered, numbered_key}
use Rattle.population.specs.Plain.{first_concrete}
use Rattle.population.specs.Principals.{PlacedKey}
use Rattle.population.specs.Supported.{Placed, PlacedLink, added_at, added_link, all_links, end_key, has_own_link, is_none, is_one, lacks_link, link_of, linked_in, links_of, stands_in}
use Rattle.population.proofs.supporting.Entities.{differ, number_stands}
use Rattle.population.proofs.plain.Lists.{most_one}
use Rattle.population.proofs.plain.Numbered.{asked_end, end_within, numbered_has, sound_end}
use Rattle.population.proofs.plain.Plain.{first_is}

-- the keys at the ends of a link that is made of them
pub near_key : (first : Bool) (key other : List Value) → end_key first (link_of first key other) ≡ key
near_key true key other = refl
near_key false key other = refl

pub far_key : (first : Bool) (key other : List Value) → end_key (not first) (link_of first key other) ≡ other
far_key true key other = refl
far_key false key other = refl

-- a multiplicity is `1`, or it isn't
pub Decides-one : (mult : Mult) → Decides (is_one mult) (mult ≡ One)
Decides-one One = (λ told. refl, λ is. refl)
Decides-one ZeroOrOne = (λ told. absurd (true≢false (sym told)), λ is. absurd (let never : ZeroOrOne ≡ One = is in cc))
Decides-one Many = (λ told. absurd (true≢false (sym told)), λ is. absurd (let never : Many ≡ One = is in cc))

-- the links of an independent association: the given ones, and those that are added for both ends
pub linked_is : (model : EntityModel) (outer : ℕ) (given : List Placed) (keys : List PlacedKey) (links : List PlacedLink) (a : AssocId) (assoc : Assoc)
    → At model.assocs a.index assoc → IsIndependent assoc → linked_in model outer given keys links a
    ≡ links_of links a ++ (added_at model outer given keys true a assoc (links_of links a) ++ added_at model outer given keys false a assoc (links_of links a))
linked_is model outer given keys links a assoc here independent =
    let own : List Link = links_of links a in
    ap (λ found. option_map_or (all_links model outer given keys a own) found []) here
    ∙ ap (λ none. if is_none none then own ++ (added_at model outer given keys true a assoc own ++ added_at model outer given keys false a assoc own) else []) independent

module _ (model : EntityModel) (outer : ℕ) (given : List Placed) (keys : List PlacedKey) (a : AssocId) (assoc : Assoc) (links : List Link) where
  abbrev added : Bool → List Link
  added first = added_at model outer given keys first a assoc links

  -- none is added for an end whose other end isn't `1`
  pub none_added : (first : Bool) → (end_of (not first) assoc).mult ≢ One → added first ≡ []
  none_added first not_one = ap (λ b. if b then map (added_link model outer first a assoc) (filter (lacks_link model first assoc links) (stands_in model outer given keys (end_of first assoc).set)) else [])
      (not_told (is_one (end_of (not first) assoc).mult) (λ told. not_one ((Decides-one (end_of (not first) assoc).mult).0 told)))
    where
      not_told : (b : Bool) → (b ≡ true → ⊥) → b ≡ false
      not_told true never = absurd (never refl)
      not_told false never = refl

  -- else for each entity there that lacks a link
  pub added_are : (first : Bool) → (end_of (not first) assoc).mult ≡ One
      → added first ≡ map (added_link model outer first a assoc) (filter (lacks_link model first assoc links) (stands_in model outer given keys (end_of first assoc).set))
  added_are first one = cond-true (is_one (end_of (not first) assoc).mult)
      (map (added_link model outer first a assoc) (filter (lacks_link model first assoc links) (stands_in model outer given keys (end_of first assoc).set))) []
      ((Decides-one (end_of (not first) assoc).mult).1 one)

  -- an added link is that of an entity that lacks one
  pub record IsAdded (first : Bool) (link : Link) : Type 0 where
    pub far_one : (end_of (not first) assoc).mult ≡ One
    pub entity : Entity
    pub stands : Contains (stands_in model outer given keys (end_of first assoc).set) entity
    pub lacks : lacks_link model first assoc links entity ≡ true
    pub is : link ≡ added_link model outer first a assoc entity

  pub is_added : (first : Bool) (link : Link) → Contains (added first) link → IsAdded first link
  is_added first link has = ⊎_elim
      (λ (one : (end_of (not first) assoc).mult ≡ One).
      let list : List Entity = stands_in model outer given keys (end_of first assoc).set in
      let found = map_contains (added_link model outer first a assoc) (filter (lacks_link model first assoc links) list) link (subst (λ all. Contains all link) (added_are first one) has) in
      let kept = filter_contains (lacks_link model first assoc links) list found.0 found.1 in
      record { far_one = one; entity = found.0; stands = kept.0; lacks = kept.1; is = sym found.2 })
      (λ (not_one : (end_of (not first) assoc).mult ≢ One). absurd (contains_nil link (subst (λ all. Contains all link) (none_added first not_one) has)))
      (so_or_not (is_one (end_of (not first) assoc).mult) (Decides-one (end_of (not first) assoc).mult))

  -- whether one of these links is the entity's own
  pub Decides-own : (first : Bool) (entity : Entity)
      → Decides (has_own_link model first links entity) (Any (λ link. end_key first link ≡ key_of model entity) links)
  Decides-own first entity = Decides-any (λ link. same_key (end_key first link) (key_of model entity)) (λ link. end_key first link ≡ key_of model entity)
      (λ link. Decides-key (end_key first link) (key_of model entity)) links

-- opposite `1` stands `*`
independent_mults : (model : EntityModel) → IsSoundModel model → (a : AssocId) (assoc : Assoc) → At model.assocs a.index assoc → IsIndependent assoc → HasIndependentMults assoc
independent_mults model sound a assoc here independent = MatchOption-at_none (HasIndependentMults assoc) (IsSoundConstraint model assoc) independent
    (All-contains (IsSoundAssoc model) model.assocs assoc sound.assocs (contains_at model.assocs a.index assoc here)).kind

module _ (model : EntityModel) (outer : ℕ) (sound : IsSoundModel model) (given : List Placed) (keys : List PlacedKey) (all : List PlacedLink)
    (a : AssocId) (assoc : Assoc) (here : At model.assocs a.index assoc) (independent : IsIndependent assoc) where
  abbrev given_links : List Link
  given_links = links_of all a

  abbrev added_links : Bool → List Link
  added_links first = added_at model outer given keys first a assoc given_links

  opposite : (first : Bool) → (end_of (not first) assoc).mult ≡ One → (end_of first assoc).mult ≡ Many
  opposite true one = (independent_mults model sound a assoc here independent).second one
  opposite false one = (independent_mults model sound a assoc here independent).first one

  -- where the other end is `1`, links are added for this one alone
  pub linked_for : (first : Bool) → (end_of (not first) assoc).mult ≡ One → linked_in model outer given keys all a ≡ given_links ++ added_links first
  linked_for true one =
      let none : added_links false ≡ [] = none_added model outer given keys a assoc given_links false (λ also. (let never : Many ≡ One = sym (opposite true one) ∙ also in cc)) in
      linked_is model outer given keys all a assoc here independent
      ∙ ap (λ rest. given_links ++ (added_links true ++ rest)) none ∙ ap (λ rest. given_links ++ rest) (append-nil (added_links true))
  linked_for false one =
      let none : added_links true ≡ [] = none_added model outer given keys a assoc given_links true (λ also. (let never : Many ≡ One = sym (opposite false one) ∙ also in cc)) in
      linked_is model outer given keys all a assoc here independent ∙ ap (λ rest. given_links ++ (rest ++ added_links false)) none

module _ (model : EntityModel) (outer : ℕ) (has : HasNumbers model outer) (given : List Placed) (keys : List PlacedKey) (are_given : AreGiven model outer given)
    (are_keys : AreKeys model outer given keys) (all : List PlacedLink) (are_linked : AreLinked model outer given keys all)
    (a : AssocId) (assoc : Assoc) (here : At model.assocs a.index assoc) (independent : IsIndependent assoc) where
  abbrev own : List Link
  own = links_of all a

  abbrev more : Bool → List Link
  more first = added_at model outer given keys first a assoc own

  abbrev linked : List Link
  linked = linked_in model outer given keys all a

  is_assoc : Contains model.assocs assoc
  is_assoc = contains_at model.assocs a.index assoc here

  mults : HasIndependentMults assoc
  mults = independent_mults model has.sound a assoc here independent

  both_are : linked ≡ own ++ (more true ++ more false)
  both_are = linked_is model outer given keys all a assoc here independent

  added_for : (first : Bool) → (end_of (not first) assoc).mult ≡ One → linked ≡ own ++ more first
  added_for = linked_for model outer has.sound given keys all a assoc here independent

  -- the links are the given ones, with those that are added for one end, or alone
  data Linked : Type 0 where
    with_added : (first : Bool) → (end_of (not first) assoc).mult ≡ One → linked ≡ own ++ more first → Linked
    alone : assoc.first.mult ≢ One → assoc.second.mult ≢ One → linked ≡ own → Linked

  cases : Linked
  cases = ⊎_elim
      (λ (second_one : assoc.second.mult ≡ One). with_added true second_one (added_for true second_one))
      (λ (second_not : assoc.second.mult ≢ One). ⊎_elim
      (λ (first_one : assoc.first.mult ≡ One). with_added false first_one (added_for false first_one))
      (λ (first_not : assoc.first.mult ≢ One).
      alone first_not second_not
      (both_are ∙ ap (λ rest. own ++ (rest ++ more false)) (none_added model outer given keys a assoc own true second_not)
      ∙ ap (λ rest. own ++ rest) (none_added model outer given keys a assoc own false first_not) ∙ append-nil own))
      (so_or_not (is_one assoc.first.mult) (Decides-one assoc.first.mult)))
      (so_or_not (is_one assoc.second.mult) (Decides-one assoc.second.mult))

  -- the entity that has the number of an end stands there
  number_at_end : (first : Bool) → StandsAtEnd model outer given keys (end_of first assoc) (numbered_key model outer (end_of first assoc).set (end_number first a))
  number_at_end first =
      let end : End = end_of first assoc in
      let of_end : IsSoundEnd model end = sound_end model has.sound assoc is_assoc first in
      let u : SetId = end.set in
      let set : EntitySet = of_end.under.0 in
      let number : ℕ = end_number first a in
      let below = end_within model has.sound a assoc here first in
      some_member (λ entity. IsA model entity.ty end.ty × (key_of model entity ≡ numbered_key model outer u number)) (stands_in model outer given keys u)
      (numbered model outer u set number) (number_stands model outer given keys u set of_end.under.1 number below) (
        subst (λ t. IsA model (first_concrete model t) end.ty) (sym (asked_end model has.sound a assoc here first set)) (first_is model has.sound end.ty of_end.concrete).1,
        numbered_has model outer has u set of_end.under.1 number below,
      )

  module _ (first : Bool) (link : Link) (by : IsAdded model outer given keys a assoc own first link) where
    abbrev pub covered : derives model by.entity.ty (end_of first assoc).ty ≡ true
    covered = (and_parts (derives model by.entity.ty (end_of first assoc).ty) (not (has_own_link model first own by.entity)) by.lacks).0

    pub none_own : Any (λ one. end_key first one ≡ key_of model by.entity) own → ⊥
    none_own any =
        let told = (and_parts (derives model by.entity.ty (end_of first assoc).ty) (not (has_own_link model first own by.entity)) by.lacks).1 in
        let yes_ : has_own_link model first own by.entity ≡ true = (Decides-own model outer given keys a assoc own first by.entity).1 any in
        true≢false (sym told ∙ ap not yes_)

    pub added_near : end_key first link ≡ key_of model by.entity
    added_near = ap (end_key first) by.is ∙ near_key first (key_of model by.entity) (numbered_key model outer (end_of (not first) assoc).set (end_number (not first) a))

    pub added_far : end_key (not first) link ≡ numbered_key model outer (end_of (not first) assoc).set (end_number (not first) a)
    added_far = ap (end_key (not first)) by.is ∙ far_key first (key_of model by.entity) (numbered_key model outer (end_of (not first) assoc).set (end_number (not first) a))

    -- both its ends stand
    near_stands : StandsAtEnd model outer given keys (end_of first assoc) (end_key first link)
    near_stands = some_member (λ entity. IsA model entity.ty (end_of first assoc).ty × (key_of model entity ≡ end_key first link)) (stands_in model outer given keys (end_of first assoc).set)
        by.entity by.stands (((decides_types model has.sound).tells by.entity.ty (end_of first assoc).ty).0 covered, sym added_near)

    far_stands : StandsAtEnd model outer given keys (end_of (not first) assoc) (end_key (not first) link)
    far_stands = subst (StandsAtEnd model outer given keys (end_of (not first) assoc)) (sym added_far) (number_at_end (not first))

  abbrev BothStand : Link → Type 0
  BothStand link = StandsAtEnd model outer given keys assoc.first link.first × StandsAtEnd model outer given keys assoc.second link.second

  added_stand : (first : Bool) (link : Link) → IsAdded model outer given keys a assoc own first link → BothStand link
  added_stand true link by = (near_stands true link by, far_stands true link by)
  added_stand false link by = (far_stands false link by, near_stands false link by)

  -- S5
  pub ends_stand : All BothStand linked
  ends_stand = all_from_members BothStand linked (λ link has_link. ⊎_elim
      (λ (one : Contains own link). (are_linked.ends a assoc here link one true, are_linked.ends a assoc here link one false))
      (λ (rest : Contains (more true ++ more false) link). ⊎_elim
      (λ (one : Contains (more true) link). added_stand true link (is_added model outer given keys a assoc own true link one))
      (λ (one : Contains (more false) link). added_stand false link (is_added model outer given keys a assoc own false link one))
      (Contains-append_cases (more true) (more false) link rest))
      (Contains-append_cases own (more true ++ more false) link (subst (λ list. Contains list link) both_are has_link)))

  -- of two links, one given and one added, the keys at the end differ
  own_and_added : (first : Bool) (one : Link) → Contains own one → (two : Link) → Contains (more first) two → end_key first one ≢ end_key first two
  own_and_added first one has_one two has_two equal =
      let by = is_added model outer given keys a assoc own first two has_two in
      none_own first two by (some_member (λ link. end_key first link ≡ key_of model by.entity) own one has_one (equal ∙ added_near first two by))

  -- and of two that are added
  added_differ : (first : Bool) → (end_of (not first) assoc).mult ≡ One → AllPairs (λ one two. end_key first one ≢ end_key first two) (more first)
  added_differ first one =
      let u : SetId = (end_of first assoc).set in
      let set = (sound_end model has.sound assoc is_assoc first).under in
      let far : List Value = numbered_key model outer (end_of (not first) assoc).set (end_number (not first) a) in
      let kept : List Entity = filter (lacks_link model first assoc own) (stands_in model outer given keys u) in
      let Differ : Link → Link → Type 0 = λ x y. end_key first x ≢ end_key first y in
      subst (AllPairs Differ) (sym (added_are model outer given keys a assoc own first one))
      (all_pairs_map Differ (added_link model outer first a assoc) kept (λ i j d below within equal.
      AllPairs-filter (λ x y. key_of model x ≢ key_of model y) (lacks_link model first assoc own) (stands_in model outer given keys u)
      (differ model outer has given keys are_given are_keys u set.0 set.1) i j d below within
      (sym (near_key first (key_of model (get_or kept i d)) far) ∙ equal ∙ near_key first (key_of model (get_or kept j d)) far)))

  -- where the other end is `1`, no two links have one key at the end
  keys_differ : (first : Bool) → (end_of (not first) assoc).mult ≡ One → AllPairs (λ one two. end_key first one ≢ end_key first two) linked
  keys_differ first one =
      let Differ : Link → Link → Type 0 = λ x y. end_key first x ≢ end_key first y in
      subst (AllPairs Differ) (sym (added_for first one))
      (apart-append Differ own (more first)
      (are_linked.few a assoc here first (λ many. (let never : One ≡ Many = sym one ∙ many in cc)))
      (added_differ first one)
      (all_from_members (λ x. All (Differ x) (more first)) own (λ x has_x. all_from_members (Differ x) (more first) (own_and_added first x has_x))))

  -- S6
  pub links_once : AreApart linked
  links_once = by cases
    where
      by : Linked → AreApart linked
      by (with_added first one is) = λ i j d below within equal. keys_differ first one i j d below within (ap (end_key first) equal)
      by (alone first_not second_not is) = subst AreApart (sym is) (are_linked.once a)

  module _ (first : Bool) (entity : Entity) (stands : Contains (stands_in model outer given keys (end_of first assoc).set) entity) (covers : IsA model entity.ty (end_of first assoc).ty) where
    abbrev Own : Link → Type 0
    Own link = end_key first link ≡ key_of model entity

    at_most : AllPairs (λ one two. end_key first one ≢ end_key first two) linked → AtMostOne Own linked
    at_most pairs = most_one Own linked (λ i j d below within is_i is_j. pairs i j d below within (is_i ∙ sym is_j))

    -- an entity has a link where the other end is `1`
    one_there : (end_of (not first) assoc).mult ≡ One → Any Own linked
    one_there one = subst (Any Own) (sym (added_for first one)) (⊎_elim
        (λ (given_one : Any Own own).
        let found = member_of Own own given_one in some_member Own (own ++ more first) found.0 (Contains-append_left own (more first) found.0 found.1) found.2)
        (λ (none : ¬ Any Own own).
        let lacks : lacks_link model first assoc own entity ≡ true = lacks_it none in
        let link : Link = added_link model outer first a assoc entity in
        some_member Own (own ++ more first) link
        (Contains-append_right own (more first) link
        (subst (λ list. Contains list link) (sym (added_are model outer given keys a assoc own first one))
        (contains_map (added_link model outer first a assoc) (filter (lacks_link model first assoc own) (stands_in model outer given keys (end_of first assoc).set)) entity
        (contains_filter (lacks_link model first assoc own) (stands_in model outer given keys (end_of first assoc).set) entity stands lacks))))
        (near_key first (key_of model entity) (numbered_key model outer (end_of (not first) assoc).set (end_number (not first) a))))
        (so_or_not (has_own_link model first own entity) (Decides-own model outer given keys a assoc own first entity)))
      where
        lacks_it : ¬ Any Own own → lacks_link model first assoc own entity ≡ true
        lacks_it none =
            let test = has_own_link model first own entity in
            (Decides-and (derives model entity.ty (end_of first assoc).ty) (not test) ((decides_types model has.sound).tells entity.ty (end_of first assoc).ty)
            (Decides-not test (Decides-own model outer given keys a assoc own first entity))).1 (covers, none)

    -- S7
    pub count : HasCount (end_of (not first) assoc).mult Own linked
    count = by (end_of (not first) assoc).mult refl
      where
        by : (mult : Mult) → (end_of (not first) assoc).mult ≡ mult → HasCount mult Own linked
        by One is = (one_there is, at_most (keys_differ first is))
        by ZeroOrOne is =
            at_most (subst (AllPairs (λ one two. end_key first one ≢ end_key first two)) (sym (only_given first is))
            (are_linked.few a assoc here first (λ many. (let never : ZeroOrOne ≡ Many = sym is ∙ many in cc))))
          where
            only_given : (one : Bool) → (end_of (not one) assoc).mult ≡ ZeroOrOne → linked ≡ own
            only_given true zero =
                both_are ∙ ap (λ rest. own ++ (rest ++ more false)) (none_added model outer given keys a assoc own true (λ also. (let never : ZeroOrOne ≡ One = sym zero ∙ also in cc)))
                ∙ ap (λ rest. own ++ rest) (none_added model outer given keys a assoc own false (λ also. (let never : ZeroOrOne ≡ Many = sym zero ∙ mults.first also in cc)))
                ∙ append-nil own
            only_given false zero =
                both_are ∙ ap (λ rest. own ++ (rest ++ more false)) (none_added model outer given keys a assoc own true (λ also. (let never : ZeroOrOne ≡ Many = sym zero ∙ mults.second also in cc)))
                ∙ ap (λ rest. own ++ rest) (none_added model outer given keys a assoc own false (λ also. (let never : ZeroOrOne ≡ One = sym zero ∙ also in cc)))
                ∙ append-nil own
        by Many is = tt
