-- Keys that stand in sets beside those of links: what this says of links and entities.
use Rattle.std.proofs.Common.{◌≡◌, ◌≢◌, ◌⊎◌, ⊎_elim, inl, inr, ℕ, ◌+◌, List, [], ◌∷◌, ◌++◌, length, map, take, slice_get, unwrap_or, Option, Some, None, Bool, true, false, not, IsTrue, All, Contains, IsPermutation, refl, sym, ap, subst, ◌∙◌}
use Rattle.std.specs.Global.{Vec}
use Rattle.std.specs.Cmp.Lexicographic.{slice_cmp}
use Rattle.std.specs.Option.{is_some}
use Rattle.std.specs.Ordering.{eq_by_cmp}
use Rattle.std.proofs.lemmas.List.Elements.{All-contains, All-push}
use Rattle.std.proofs.lemmas.List.Sorted.{All-permutation, Contains-permutation, IsPermutation-map, IsPermutation-sym}
use Rattle.std.proofs.lemmas.Simd.{map-map}
use Rattle.emc_base.specs.Order.{value_cmp}
use Rattle.emc_base.specs.OrderLaws.{key_cmp_apart, key_cmp_total}
use Rattle.emc_base.specs.Lists.{AreApart, At, AtMostOne}
use Rattle.emc_base.proofs.Joined.{at_map}
use Rattle.emc_base.proofs.Loops.{take_item}
use Rattle.emc_base.proofs.Lists.{all_from_members, same_place}
use Rattle.emc_base.proofs.Members.{at_push_cases, in_map}
use Rattle.emc_base.proofs.Mapped.{contains_map}
use Rattle.edm_types.specs.Forest.{type_numbered}
use Rattle.edm_types.specs.declared.model.Mult.TheVariants.{One, ZeroOrOne, Many}
use Rattle.groupings.specs.least_fault.Least.{Among}
use Rattle.entity_state.specs.breach_order.Repeats.{IsFirstRepeat}
use Rattle.entity_state.specs.declared.breach_order.found.Found.{Found}
use Rattle.entity_state.proofs.breach_order.Apart.{apart_none}
use Rattle.entity_state.proofs.breach_order.Seen.{equal_repeat}
use Rattle.entity_state.proofs.breach_order.Turns.{all_here}
use Rattle.schema_laws.proofs.same_states.Reordered.{pairs_in_any_order}
use Rattle.round_trip.specs.soundness.models.ModelIds.{HasEndIds, HasModelIds, IsTypeId}
use Rattle.round_trip.specs.Words.{Assoc, AssocId, Entity, EntityModel, HasCount, IsA, Link, Mult, TypeId, Value, key_of}
use Rattle.state_legality.specs.declared.link_legality.side.Side.{Side}
use Rattle.state_legality.specs.declared.link_legality.side.Side.TheVariants.{First, Second}
use Rattle.state_legality.specs.link_legality.Counts.{KeepsCount, MiscountedAmong}
use Rattle.state_legality.specs.link_legality.Ends.{IsLoose, IsMarked, MarksUnder, StandsAmong}
use Rattle.state_legality.specs.link_legality.InOrder.{HasEach, IsOnce, KeepInOrder, StandTogether, StandsWith, keys_at}
use Rattle.state_legality.specs.link_legality.Once.{link_of}
use Rattle.state_legality.specs.link_legality.Sides.{end_at, key_at, partners_at}
use Rattle.state_legality.specs.link_legality.Standing.{AreInOrder, AreKeyed, AreStanding, HasKeyed, IsInOrder, keyed}
use Rattle.state_legality.specs.link_legality.Tells.{BreaksIndependent, KeepsIndependent, KeepsSide, state_of}
use Rattle.state_legality.proofs.link_legality.Doubles.{pair_cmp, pairs_tie, repeat_of_images}

abbrev Keyed : Type 0
Keyed = List Value × ℕ

-- no two links have one key at the side
at_most : (side : Side) (links : List Link) (key : List Value) → AreApart (keys_at side links) → AtMostOne (λ link. key_at link side ≡ key) links
at_most side links key apart i j one other here there is is_too =
    let f : Link → List Value = λ link. key_at link side in
    same_place (λ (k : List Value). k) (map f links) i j (f one) (f other) apart (at_map f links i one here) (at_map f links j other there) (is ∙ sym is_too)

-- a key that stands at the side, at which each link stands once, has as many links as is asked for
count : (mult : Mult) (Fits : TypeId → Type 0) (side : Side) (standing : List Keyed) (links : List Link) (key : List Value) (t : ℕ) → IsOnce mult (keys_at side links)
    → HasEach mult Fits standing (keys_at side links) → Contains standing (key, t) → Fits (type_numbered t) → HasCount mult (λ link. key_at link side ≡ key) links
count One Fits side standing links key t once each has fits =
    let there = All-contains (λ (one : Keyed). Fits (type_numbered one.1) → Contains (keys_at side links) one.0) standing (key, t) each has fits in
    let found = in_map (λ (link : Link). key_at link side) links key there in
    ((found.1.0, found.0, found.1.1, found.1.2, found.2), at_most side links key once)
count ZeroOrOne Fits side standing links key t once each has fits = at_most side links key once
count Many Fits side standing links key t once each has fits = tt

-- so links and entities keep the rules of the side
pub keeps_side : (model : EntityModel) (assoc : Assoc) (side : Side) (entities : List Entity) (links : List Link) (standing : List Keyed) → IsPermutation (keyed model entities) standing
    → StandTogether (partners_at assoc side) (λ t. IsA model t (end_at assoc side).ty) standing (keys_at side links) → KeepsSide model entities links assoc side
keeps_side model assoc side entities links standing same together = record {
  stand = all_from_members (λ link. StandsAmong model (end_at assoc side).ty entities (key_at link side)) links (λ link stands.
      (let some = All-contains (StandsWith Fits standing) (keys_at side links) (key_at link side) together.held (contains_map (λ (one : Link). key_at one side) links link stands) in
      let found = in_map key_and_type entities some.1 (Contains-permutation standing (keyed model entities) some.1 (IsPermutation-sym (keyed model entities) standing same) (some.0, some.2, some.3)) in
      let P : Keyed → Type 0 = λ one. Fits (type_numbered one.1) in
      (found.1.0, found.0, found.1.1, found.1.2, (subst P (sym found.2) some.4.0, ap (λ (one : Keyed). one.0) found.2 ∙ some.4.1))));
  fit = all_from_members (KeepsCount model links assoc side) entities (λ entity stands. record {
    kept = λ typed. count (partners_at assoc side) Fits side standing links (key_of model entity) entity.ty.index together.once together.each
        (Contains-permutation (keyed model entities) standing (key_and_type entity) same (contains_map key_and_type entities entity stands)) typed;
  });
}
  where
    key_and_type : Entity → Keyed
    key_and_type entity = (key_of model entity, entity.ty.index)

    Fits : TypeId → Type 0
    Fits t = IsA model t (end_at assoc side).ty

-- keys that are apart are so in any order
apart_moved : {X : Type 0} → (these those : List X) → IsPermutation these those → AreApart those → AreApart these
apart_moved {X} these those moved = pairs_in_any_order (λ (x : X) (y : X). x ≢ y) (λ x y differ same. differ (sym same)) those these (IsPermutation-sym these those moved)

module _ (Fits : TypeId → Type 0) (standing : List Keyed) (these those : List (List Value)) (moved : IsPermutation these those) where
  once_moved : (mult : Mult) → IsOnce mult those → IsOnce mult these
  once_moved One once = apart_moved these those moved once
  once_moved ZeroOrOne once = apart_moved these those moved once
  once_moved Many once = tt

  each_moved : (mult : Mult) → HasEach mult Fits standing those → HasEach mult Fits standing these
  each_moved One each = all_from_members (λ (one : Keyed). Fits (type_numbered one.1) → Contains these one.0) standing (λ one stands fits.
      Contains-permutation those these one.0 (IsPermutation-sym these those moved)
      (All-contains (λ (other : Keyed). Fits (type_numbered other.1) → Contains those other.0) standing one each stands fits))
  each_moved ZeroOrOne each = tt
  each_moved Many each = tt

  -- links stand beside the keys in any order
  pub together_moved : (mult : Mult) → StandTogether mult Fits standing those → StandTogether mult Fits standing these
  together_moved mult together = record {
    once = once_moved mult together.once;
    held = All-permutation (StandsWith Fits standing) those these (IsPermutation-sym these those moved) together.held;
    each = each_moved mult together.each;
  }

-- what marks tell of types
module _ (model : EntityModel) (u : TypeId) (marks : List Bool) (marked : MarksUnder model u marks) (standing : List Keyed) (linked : List (List Value)) where
  each_marked : (mult : Mult) → HasEach mult (IsMarked marks) standing linked → HasEach mult (λ t. IsA model t u) standing linked
  each_marked One each = all_from_members (λ (one : Keyed). IsA model (type_numbered one.1) u → Contains linked one.0) standing (λ one stands is.
      All-contains (λ (other : Keyed). IsMarked marks (type_numbered other.1) → Contains linked other.0) standing one each stands ((marked (type_numbered one.1)).1 is))
  each_marked ZeroOrOne each = tt
  each_marked Many each = tt

  pub together_marked : (mult : Mult) → IsOnce mult linked → All (StandsWith (IsMarked marks) standing) linked → HasEach mult (IsMarked marks) standing linked
      → StandTogether mult (λ t. IsA model t u) standing linked
  together_marked mult once held each = record {
    once = once;
    held = all_from_members (StandsWith (λ t. IsA model t u) standing) linked (λ key has.
        (let some = All-contains (StandsWith (IsMarked marks) standing) linked key held has in
        (some.0, some.1, some.2, some.3, ((marked (type_numbered some.1.1)).0 some.4.0, some.4.1))));
    each = each_marked mult each;
  }

-- where nothing stands twice, each stands once
pub once_by : (mult : Mult) (linked : List (List Value)) (told : Option ℕ) → IsFirstRepeat (λ (one : List Value) (other : List Value). IsTrue (eq_by_cmp (slice_cmp value_cmp) one other)) linked told
    → told ≡ None → IsOnce mult linked
once_by mult linked told first is =
    let P : Option ℕ → Type 0 = λ place. IsFirstRepeat (λ (one : List Value) (other : List Value). one ≡ other) linked place in
    of mult (subst P is (equal_repeat (slice_cmp value_cmp) key_cmp_total key_cmp_apart linked told first))
  where
    of : (many : Mult) → AreApart linked → IsOnce many linked
    of One apart = apart
    of ZeroOrOne apart = apart
    of Many apart = tt

-- nothing is told
pub none_told : (told : Option ℕ) (nothing : Bool) → is_some told ≡ not nothing → IsTrue nothing → told ≡ None
none_told None nothing is holds = refl
none_told (Some place) nothing is holds = absurd (differ (is ∙ ap not holds))
  where
    differ : true ≡ false → ⊥
    differ same = cc

-- one more of a list passes
pub all_more : {X : Type 0} (P : X → Type 0) (xs : List X) (n : ℕ) (x : X) → At xs n x → All P (take n xs) → P x → All P (take (n + 1) xs)
all_more P xs n x at all holds = subst (All P) (sym (take_item xs n x at)) (All-push P (take n xs) x all holds)

abbrev Pair : Type 0
Pair = List Value × List Value

module _ (links : List Link) (pairs sorted : List Pair) (are : map link_of pairs ≡ links) (moved : IsPermutation pairs sorted) where
  -- links of which none stands twice in order
  pub links_apart : (told : Option ℕ) → IsFirstRepeat (λ x y. IsTrue (eq_by_cmp pair_cmp x y)) sorted told → told ≡ None → AreApart links
  links_apart told first none =
      let P : Option ℕ → Type 0 = λ place. IsFirstRepeat (λ (x : Pair) (y : Pair). IsTrue (eq_by_cmp pair_cmp x y)) sorted place in
      subst AreApart are (apart_moved (map link_of pairs) (map link_of sorted) (IsPermutation-map link_of pairs sorted moved)
      (repeat_of_images link_of (λ x y. IsTrue (eq_by_cmp pair_cmp x y)) pairs_tie sorted None (subst P none first)))

  -- the keys at both ends
  pub firsts_moved : IsPermutation (keys_at First links) (map (λ (pair : Pair). pair.0) sorted)
  firsts_moved =
      let P : List (List Value) → Type 0 = λ keys. IsPermutation keys (map (λ (pair : Pair). pair.0) sorted) in
      subst P (sym (map-map (λ (link : Link). link.first) link_of pairs) ∙ ap (map (λ (link : Link). link.first)) are) (IsPermutation-map (λ (pair : Pair). pair.0) pairs sorted moved)

  pub seconds_moved : IsPermutation (keys_at Second links) (map (λ (pair : Pair). pair.1) sorted)
  seconds_moved =
      let P : List (List Value) → Type 0 = λ keys. IsPermutation keys (map (λ (pair : Pair). pair.1) sorted) in
      subst P (sym (map-map (λ (link : Link). link.second) link_of pairs) ∙ ap (map (λ (link : Link). link.second)) are) (IsPermutation-map (λ (pair : Pair). pair.1) pairs sorted moved)

-- where a side is kept nothing breaks it
side_unbroken : (model : EntityModel) (entities : List Entity) (links : List Link) (a : AssocId) (assoc : Assoc) (side : Side) → KeepsSide model entities links assoc side
    → (found : Found) → ¬ (Among (IsLoose (StandsAmong model (end_at assoc side).ty entities) a assoc side) links found ⊎ MiscountedAmong model entities links a assoc side found)
side_unbroken model entities links a assoc side keeps found (inl loose) =
    loose.holds.broken (all_here (λ link. StandsAmong model (end_at assoc side).ty entities (key_at link side)) links loose.i loose.item keeps.stand loose.here)
side_unbroken model entities links a assoc side keeps found (inr wrong) =
    wrong.holds.broken ((all_here (KeepsCount model links assoc side) entities wrong.i wrong.item keeps.fit wrong.here).kept wrong.holds.stands)

-- nor an association of which both are kept and no link stands twice
pub links_unbroken : (model : EntityModel) (entities : List (List Entity)) (lists : List (List Link)) (a : AssocId) (assoc : Assoc)
    → KeepsIndependent model entities (unwrap_or (slice_get lists a.index) []) assoc → (found : Found) → ¬ BreaksIndependent model (state_of entities lists) a assoc found
links_unbroken model entities lists a assoc keeps found (inl (inl first)) =
    side_unbroken model (unwrap_or (slice_get entities assoc.first.set.index) []) (unwrap_or (slice_get lists a.index) []) a assoc First keeps.0.0 found first
links_unbroken model entities lists a assoc keeps found (inl (inr second)) =
    side_unbroken model (unwrap_or (slice_get entities assoc.second.set.index) []) (unwrap_or (slice_get lists a.index) []) a assoc Second keeps.0.1 found second
links_unbroken model entities lists a assoc keeps found (inr double) =
    apart_none (λ (link : Link). link) (unwrap_or (slice_get lists a.index) []) keeps.1 double.i double.repeat

-- each end is of a type of the model
pub ends_known : (model : EntityModel) (a : AssocId) (assoc : Assoc) → HasModelIds model → At model.assocs a.index assoc → IsTypeId model assoc.first.ty × IsTypeId model assoc.second.ty
ends_known model a assoc ids known =
    let both = all_here (λ one. HasEndIds model one.first × HasEndIds model one.second) model.assocs a.index assoc ids.ends known in
    (both.0.1, both.1.1)

pub side_known : (model : EntityModel) (a : AssocId) (assoc : Assoc) (side : Side) → HasModelIds model → At model.assocs a.index assoc → IsTypeId model (end_at assoc side).ty
side_known model a assoc First ids known = (ends_known model a assoc ids known).0
side_known model a assoc Second ids known = (ends_known model a assoc ids known).1

-- links and entities keep the rules, as their keys in order tell
pub keeps_independent : (model : EntityModel) (entities : List (List Entity)) (links : List Link) (assoc : Assoc) (standing : List (Option (Vec Keyed))) (first second : Vec Keyed)
    → AreStanding model entities standing → At standing assoc.first.set.index (Some first) → At standing assoc.second.set.index (Some second)
    → KeepInOrder model assoc first.items second.items links → KeepsIndependent model entities links assoc
keeps_independent model entities links assoc standing first second stands at_first at_second keeps = (
  (
    keeps_side model assoc First (unwrap_or (slice_get entities assoc.first.set.index) []) links first.items (stands assoc.first.set.index first at_first) keeps.firsts,
    keeps_side model assoc Second (unwrap_or (slice_get entities assoc.second.set.index) []) links second.items (stands assoc.second.set.index second at_second) keeps.seconds,
  ),
  keeps.apart,
)

-- keys that are kept of one more set
pub keyed_more : (model : EntityModel) (entities : List (List Entity)) (keys : List (Option (Vec Keyed))) (of_set : Option (Vec Keyed)) (here : List Entity)
    → At entities (length keys) here → HasKeyed model here of_set → AreKeyed model entities keys → AreKeyed model entities (keys ++ of_set ∷ [])
keyed_more model entities keys of_set here is has are place one at = ⊎_elim
    (λ (old : At keys place one). are place one old)
    (λ (new : (place ≡ length keys) × (one ≡ of_set)).
    (let P : Option (Vec Keyed) → Type 0 = λ list. HasKeyed model (unwrap_or (slice_get entities place) []) list in
    let Q : List Entity → Type 0 = λ list. HasKeyed model list of_set in
    subst P (sym new.1) (subst Q (sym (ap (λ (n : ℕ). unwrap_or (slice_get entities n) []) new.0 ∙ ap (λ (o : Option (List Entity)). unwrap_or o []) is)) has)))
    (at_push_cases keys of_set place one at)

-- keys that are put in order of one more set
pub in_order_more : (keys standing : List (Option (Vec Keyed))) (of_set here : Option (Vec Keyed)) → At keys (length standing) here → IsInOrder here of_set
    → AreInOrder keys standing → AreInOrder keys (standing ++ of_set ∷ [])
in_order_more keys standing of_set here is has are place one at = ⊎_elim
    (λ (old : At standing place one). are place one old)
    (λ (new : (place ≡ length standing) × (one ≡ of_set)).
    (let P : Option (Vec Keyed) → Type 0 = λ list. IsInOrder (unwrap_or (slice_get keys place) None) list in
    let Q : Option (Vec Keyed) → Type 0 = λ list. IsInOrder list of_set in
    subst P (sym new.1) (subst Q (sym (ap (λ (n : ℕ). unwrap_or (slice_get keys n) None) new.0 ∙ ap (λ (o : Option (Option (Vec Keyed))). unwrap_or o None) is)) has)))
    (at_push_cases standing of_set place one at)

-- so it is known what stands in these sets
pub stand_in_order : (model : EntityModel) (entities : List (List Entity)) (keys standing : List (Option (Vec Keyed))) → AreKeyed model entities keys → AreInOrder keys standing
    → AreStanding model entities standing
stand_in_order model entities keys standing keyed_are ordered place of_set at = by (slice_get keys place) refl (ordered place (Some of_set) at)
  where
    by : (found : Option (Option (Vec Keyed))) → slice_get keys place ≡ found → IsInOrder (unwrap_or found None) (Some of_set)
        → IsPermutation (keyed model (unwrap_or (slice_get entities place) [])) of_set.items
    by None is moved = absurd moved
    by (Some None) is moved = absurd moved
    by (Some (Some list)) is moved =
        let P : List Keyed → Type 0 = λ items. IsPermutation items of_set.items in
        subst P (keyed_are place (Some list) is) moved
