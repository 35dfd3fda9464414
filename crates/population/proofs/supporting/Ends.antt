-- Plain entities at ends, with keys of different indices, are given entities of a legal state.
use Rattle.std.proofs.Common.{◌≡◌, ◌≢◌, ℕ, ◌+◌, ◌<◌, ◌≤◌, ◌==◌, List, map, filter, flat_map, length, get_or, AllPairs, Contains, Bool, refl, sym, ap, subst, ◌∙◌, arith}
use Rattle.std.proofs.lemmas.List.Elements.{Contains-get_or}
use Rattle.std.proofs.lemmas.List.Kept.{AllPairs-filter}
use Rattle.emc_base.proofs.FoundItems.{contains_flat_map}
use Rattle.emc_base.proofs.Joined.{in_flat_map}
use Rattle.emc_base.proofs.Mapped.{contains_filter, contains_map}
use Rattle.emc_base.proofs.Numbered.{all_pairs_map, filter_contains, map_contains}
use Rattle.round_trip.specs.Words.{SetId, AssocId, PropId, EntityModel, EntitySet, Entity, Link, At, IsA, IsLegal, key_of}
use Rattle.round_trip.specs.soundness.Lookups.{set_key}
use Rattle.round_trip.specs.soundness.models.Constraints.{IsSoundEnd}
use Rattle.schema_laws.specs.short_values.Fresh.{added_value, most_indices}
use Rattle.schema_laws.specs.short_values.Places.{place_in}
use Rattle.schema_laws.proofs.sound_demand.Keys.{keys_few}
use Rattle.schema_laws.proofs.short_values.Places.{place_within}
use Rattle.schema_laws.proofs.state_demand.lists.Ids.{Decides-assoc, Decides-set}
use Rattle.population.specs.Given.{AreGiven, AreKeys, AreLinked, AreWanted, HasNumbers, HasShortParts, StandsWell}
use Rattle.population.specs.LinkStates.{PlainEnd, entity_at, key_at, key_from, placed_at, plain_state}
use Rattle.population.specs.Numbered.{number_count, numbered_key}
use Rattle.population.specs.Principals.{AsksFor, PlacedKey, principals}
use Rattle.population.specs.Support.{support}
use Rattle.population.specs.Supported.{Placed, PlacedLink, given_in, links_of, stands_in}
use Rattle.population.proofs.principals.Asked.{asked_of}
use Rattle.population.proofs.supporting.Entities.{given_stands}
use Rattle.population.proofs.supporting.Legal.{supported_legal}
use Rattle.population.proofs.plain.Numbered.{made_once, made_short, number_small, set_key_is, some_part}
use Rattle.population.proofs.plain.Plain.{first_is, has_key, plain_well}
use Rattle.population.proofs.plain.Shortness.{plain_short, principal_short}
use Rattle.population.proofs.supporting.Support.{support_fits}

-- a given entity of a set, and a given link of an association
pub given_from : (given : List Placed) (u : SetId) (entity : Entity) → Contains (given_in given u) entity
    → (placed : Placed) × Contains given placed × (placed.set ≡ u) × (placed.entity ≡ entity)
given_from given u entity has =
    let test : Placed → Bool = λ placed. placed.set.index == u.index in
    let found = map_contains (λ (placed : Placed). placed.entity) (filter test given) entity has in
    let kept = filter_contains test given found.0 found.1 in
    (found.0, kept.0, (Decides-set found.0.set u).0 kept.1, found.2)

pub from_given : (given : List Placed) (placed : Placed) → Contains given placed → Contains (given_in given placed.set) placed.entity
from_given given placed has =
    let test : Placed → Bool = λ one. one.set.index == placed.set.index in
    contains_map (λ (one : Placed). one.entity) (filter test given) placed (contains_filter test given placed has ((Decides-set placed.set placed.set).1 refl))

pub link_from : (links : List PlacedLink) (a : AssocId) (link : Link) → Contains (links_of links a) link
    → (placed : PlacedLink) × Contains links placed × (placed.assoc ≡ a) × (placed.link ≡ link)
link_from links a link has =
    let test : PlacedLink → Bool = λ placed. placed.assoc.index == a.index in
    let found = map_contains (λ (placed : PlacedLink). placed.link) (filter test links) link has in
    let kept = filter_contains test links found.0 found.1 in
    (found.0, kept.0, (Decides-assoc found.0.assoc a).0 kept.1, found.2)

pub from_link : (links : List PlacedLink) (placed : PlacedLink) → Contains links placed → Contains (links_of links placed.assoc) placed.link
from_link links placed has =
    let test : PlacedLink → Bool = λ one. one.assoc.index == placed.assoc.index in
    contains_map (λ (one : PlacedLink). one.link) (filter test links) placed (contains_filter test links placed has ((Decides-assoc placed.assoc placed.assoc).1 refl))

-- what is so of any two given items of one set, or of one association
pub given_pairs : (R : Entity → Entity → Type 0) (given : List Placed) → AllPairs (λ x y. x.set ≡ y.set → R x.entity y.entity) given → (u : SetId) → AllPairs R (given_in given u)
given_pairs R given pairs u =
    let test : Placed → Bool = λ placed. placed.set.index == u.index in
    let own : List Placed = filter test given in
    all_pairs_map R (λ (placed : Placed). placed.entity) own (λ i j d below within.
    let set_of : (k : ℕ) → k < length own → (get_or own k d).set ≡ u = λ k inside.
    (Decides-set (get_or own k d).set u).0 (filter_contains test given (get_or own k d) (Contains-get_or own k d inside)).1 in
    AllPairs-filter (λ (x y : Placed). x.set ≡ y.set → R x.entity y.entity) test given pairs i j d below within
    (set_of i (omega (arith, below, within)) ∙ sym (set_of j within)))

pub link_pairs : (R : Link → Link → Type 0) (links : List PlacedLink) (a : AssocId) → AllPairs (λ x y. x.assoc ≡ a → y.assoc ≡ a → R x.link y.link) links → AllPairs R (links_of links a)
link_pairs R links a pairs =
    let test : PlacedLink → Bool = λ placed. placed.assoc.index == a.index in
    let own : List PlacedLink = filter test links in
    all_pairs_map R (λ (placed : PlacedLink). placed.link) own (λ i j d below within.
    let assoc_of : (k : ℕ) → k < length own → (get_or own k d).assoc ≡ a = λ k inside.
    (Decides-assoc (get_or own k d).assoc a).0 (filter_contains test links (get_or own k d) (Contains-get_or own k d inside)).1 in
    AllPairs-filter (λ (x y : PlacedLink). x.assoc ≡ a → y.assoc ≡ a → R x.link y.link) test links pairs i j d below within
    (assoc_of i (omega (arith, below, within))) (assoc_of j within))

module _ (model : EntityModel) (outer : ℕ) (has : HasNumbers model outer) where
  -- a place in a key is one of four
  pub place_small : (u : SetId) (set : EntitySet) → At model.sets u.index set → (p : PropId) → Contains (set_key model u) p → place_in p (set_key model u) < 4
  place_small u set here p part =
      let within = place_within p (set_key model u) part in
      let Few : _ → Type 0 = λ key. length key ≤ 4 in
      let few = subst Few (sym (set_key_is model has.sound u set here)) (keys_few model has.sound set.element) in
      omega (arith, within, few)

  module _ (u : SetId) (set : EntitySet) (here : At model.sets u.index set) (index : ℕ) (small : index ≤ 1900) where
    pub key_short : HasShortParts model u (key_from model outer u index)
    key_short = made_short model outer has u set here (λ p. index + place_in p (set_key model u)) (λ p part. (let place = place_small u set here p part in omega (arith, place, small)))

    pub key_not_numbered : (number : ℕ) → number < number_count model → key_from model outer u index ≢ numbered_key model outer u number
    key_not_numbered number below equal =
        let part = some_part model has.sound u set here in
        let indices = made_once model outer has u set here (λ p. index + place_in p (set_key model u)) (λ p. added_value number) equal part.0 part.1 in
        let place = place_small u set here part.0 part.1 in
        absurd (omega (arith, indices, place, small))

    -- keys of different indices are different
    pub key_once : (other : ℕ) → key_from model outer u index ≡ key_from model outer u other → index ≡ other
    key_once other equal =
        let part = some_part model has.sound u set here in
        let indices = made_once model outer has u set here (λ p. index + place_in p (set_key model u)) (λ p. other + place_in p (set_key model u)) equal part.0 part.1 in
        omega (arith, indices)

  module _ (one : PlainEnd) (sound : IsSoundEnd model one.end) (small : one.index ≤ 1900) where
    abbrev u : SetId
    u = one.end.set

    abbrev zero_small : added_value 0 < most_indices
    zero_small = number_small model outer has 0 (omega arith)

    short : HasShortParts model u (key_at model outer one)
    short = key_short u sound.under.0 sound.under.1 one.index small

    pub end_has_key : key_of model (entity_at model outer one) ≡ key_at model outer one
    end_has_key = has_key model has.sound outer 0 has.row zero_small u one.end.ty sound.concrete sound.under (key_at model outer one) short

    pub end_well : StandsWell model u (entity_at model outer one)
    end_well = plain_well model has.sound outer 0 has.row zero_small u one.end.ty sound.concrete sound.under (key_at model outer one) short

    pub end_typed : IsA model (entity_at model outer one).ty one.end.ty
    end_typed = (first_is model has.sound one.end.ty sound.concrete).1

    -- the keys of its principals are short
    pub end_principals : (to : PlacedKey) → Contains (principals model u (entity_at model outer one)) to → HasShortParts model to.set to.key
    end_principals to asked =
        let asks : AsksFor model u (entity_at model outer one) to = asked_of model has.sound u (entity_at model outer one) to asked in
        let P : PlacedKey → Type 0 = λ placed. HasShortParts model placed.set placed.key in
        subst P (sym asks.is)
        (principal_short model outer has asks.assoc asks.constraint asks.is_assoc asks.constrained (entity_at model outer one)
        (plain_short model outer has u one.end.ty sound.concrete sound.under (key_at model outer one) short asks.assoc asks.constraint asks.is_assoc asks.constrained asks.covers asks.there))

  -- ends that are sound, with different indices
  module _ (ends : List PlainEnd) (sound : (one : PlainEnd) → Contains ends one → IsSoundEnd model one.end) (small : (one : PlainEnd) → Contains ends one → one.index ≤ 1900)
      (apart : AllPairs (λ one two. one.index ≢ two.index) ends) where
    abbrev given : List Placed
    given = map (placed_at model outer) ends

    abbrev wanted : List PlacedKey
    wanted = flat_map (λ one. principals model one.end.set (entity_at model outer one)) ends

    abbrev keys : List PlacedKey
    keys = support model outer given wanted

    -- a given entity is that of an end
    pub given_end : (v : SetId) (entity : Entity) → Contains (given_in given v) entity → (one : PlainEnd) × Contains ends one × (one.end.set ≡ v) × (entity_at model outer one ≡ entity)
    given_end v entity there =
        let found = given_from given v entity there in
        let from = map_contains (placed_at model outer) ends found.0 found.1 in
        (from.0, from.1, ap (λ (placed : Placed). placed.set) from.2 ∙ found.2, ap (λ (placed : Placed). placed.entity) from.2 ∙ found.3)

    pub end_given : (one : PlainEnd) → Contains ends one → Contains (given_in given one.end.set) (entity_at model outer one)
    end_given one there = from_given given (placed_at model outer one) (contains_map (placed_at model outer) ends one there)

    keys_differ : AllPairs (λ x y. x.set ≡ y.set → key_of model x.entity ≢ key_of model y.entity) given
    keys_differ = all_pairs_map (λ (x y : Placed). x.set ≡ y.set → key_of model x.entity ≢ key_of model y.entity) (placed_at model outer) ends (λ i j d below within sets equal.
        let one : PlainEnd = get_or ends i d in
        let two : PlainEnd = get_or ends j d in
        let has_one : Contains ends one = Contains-get_or ends i d (omega (arith, below, within)) in
        let has_two : Contains ends two = Contains-get_or ends j d within in
        let is_one : IsSoundEnd model one.end = sound one has_one in
        let same_keys : key_from model outer one.end.set one.index ≡ key_from model outer one.end.set two.index =
        sym (end_has_key one is_one (small one has_one)) ∙ equal ∙ end_has_key two (sound two has_two) (small two has_two)
        ∙ ap (λ v. key_from model outer v two.index) (sym sets) in
        apart i j d below within (key_once one.end.set is_one.under.0 is_one.under.1 one.index (small one has_one) two.index same_keys))

    pub are_given : AreGiven model outer given
    are_given = record {
      well = λ v entity there. (let one = given_end v entity there in
          subst (StandsWell model v) one.3 (subst (λ w. StandsWell model w (entity_at model outer one.0)) one.2 (end_well one.0 (sound one.0 one.1) (small one.0 one.1))));
      apart = given_pairs (λ x y. key_of model x ≢ key_of model y) given keys_differ;
      not_numbered = λ v entity there number below equal. (let one = given_end v entity there in
          let is : IsSoundEnd model one.0.end = sound one.0 one.1 in
          key_not_numbered one.0.end.set is.under.0 is.under.1 one.0.index (small one.0 one.1) number below
          (sym (end_has_key one.0 is (small one.0 one.1)) ∙ ap (key_of model) one.3 ∙ equal ∙ ap (λ w. numbered_key model outer w number) (sym one.2)));
    }

    are_wanted : AreWanted model given wanted
    are_wanted = record {
      short = λ placed there. (let one = in_flat_map (λ (one : PlainEnd). principals model one.end.set (entity_at model outer one)) ends placed there in
          end_principals one.0 (sound one.0 one.1) (small one.0 one.1) placed one.2);
      of_given = λ v entity there to asked. (let one = given_end v entity there in
          contains_flat_map (λ (end : PlainEnd). principals model end.end.set (entity_at model outer end)) ends one.0 to one.1
          (subst (λ e. Contains (principals model one.0.end.set e) to) (sym one.3) (subst (λ w. Contains (principals model w entity) to) (sym one.2) asked)));
    }

    pub are_keys : AreKeys model outer given keys
    are_keys = support_fits model outer has given wanted are_given are_wanted

    -- each of them stands
    pub end_stands : (one : PlainEnd) → Contains ends one → Contains (stands_in model outer given keys one.end.set) (entity_at model outer one)
    end_stands one there =
        let is : IsSoundEnd model one.end = sound one there in
        given_stands model outer given keys one.end.set is.under.0 is.under.1 (entity_at model outer one) (end_given one there)

    pub plain_legal : (links : List PlacedLink) → AreLinked model outer given keys links → IsLegal model (plain_state model outer ends links)
    plain_legal links are_linked = supported_legal model outer has given keys links are_given are_keys are_linked
