-- A state has no more entities at touched keys than there are such keys.
use Rattle.std.proofs.Common.{◌≡◌, ◌≢◌, ◌==◌, ◌<◌, ◌≤◌, ◌∙◌, ⊎_elim, ℕ, List, [], ◌∷◌, map, filter, length, All, AllPairs, Bool, true, false, Contains}
use Rattle.std.proofs.Common.{Decides, unwrap_or, if◌then◌else◌, refl, sym, ap, subst, arith}
use Rattle.std.specs.Cmp.{IsEquivalence}
use Rattle.std.specs.List.{enumerate_from, flat_map}
use Rattle.std.proofs.lemmas.Bool.{cases_Bool, false_from_ne_true}
use Rattle.std.proofs.lemmas.Bool.Decides.{Decides-eqb, not_from_Decides}
use Rattle.std.proofs.lemmas.List.{length-map}
use Rattle.std.proofs.lemmas.List.Concat.{flat_map-cons}
use Rattle.std.proofs.lemmas.List.Elements.{All-contains}
use Rattle.std.proofs.lemmas.List.FromFn.{get_or-enumerate_from, length-enumerate_from}
use Rattle.std.proofs.lemmas.List.Kept.{AllPairs-filter}
use Rattle.std.proofs.lemmas.Map.Made.{IsDistinct-from_AllPairs, is_member-Decides, length-le_from_is_member}
use Rattle.std.proofs.lemmas.Option.{slice_get_within}
use Rattle.emc_base.specs.Lists.{AreApart, At}
use Rattle.emc_base.proofs.FoundItems.{member_of}
use Rattle.emc_base.proofs.Joined.{apart-append, in_flat_map, pairs_head, pairs_tail}
use Rattle.emc_base.proofs.Lists.{all_from_members, item_at}
use Rattle.emc_base.proofs.Members.{contains_head, contains_tail}
use Rattle.emc_base.proofs.Numbered.{all_pairs_map, enumerated_at, filter_contains, map_contains}
use Rattle.round_trip.specs.Words.{Entity, EntityModel, IsLegal, SetId, State, Value, entities_in, key_of}
use Rattle.schema_laws.proofs.state_demand.lists.Lists.{Decides-any}
use Rattle.schema_laws.proofs.state_demand.writings.Selecting.{Decides-key}
use Rattle.schema_laws.specs.state_demand.Selecting.{same_key}
use Rattle.entity_changes.specs.declared.touched.Touched.{Touched}
use Rattle.delta_plan.specs.Units.{Unit, count_at, entity_units, is_touched, is_touched_key, of_entity, of_link, set_units}

-- lists that go by themselves and with one another, joined
pairs_given : {X Y : Type 0} (R : X → X → Type 0) (S : Y → Y → Type 0) (f : X → List Y) (xs : List X) → AllPairs R xs
    → ((x : X) → Contains xs x → AllPairs S (f x)) → ((x z : X) (y w : Y) → R x z → Contains (f x) y → Contains (f z) w → S y w) → AllPairs S (flat_map f xs)
pairs_given R S f [] pairs each apart = λ i j d below within. absurd (omega (arith, within))
pairs_given {X} {Y} R S f (x ∷ xs) pairs each apart = subst (AllPairs S) (sym (flat_map-cons f x xs))
    (apart-append S (f x) (flat_map f xs) (each x (contains_head x xs))
    (pairs_given R S f xs (pairs_tail R x xs pairs) (λ z has. each z (contains_tail x xs z has)) apart)
    (all_from_members (λ (y : Y). All (S y) (flat_map f xs)) (f x) (λ y has_y. all_from_members (S y) (flat_map f xs) (λ w has_w.
    (let found = in_flat_map f xs w has_w in
    apart x found.0 y w (All-contains (R x) xs found.0 (pairs_head R x xs pairs) found.1) has_y found.2)))))

-- items numbered rise by their numbers
numbers_rise : {X : Type 0} (xs : List X) → AllPairs (λ (one other : ℕ × X). one.0 < other.0) (enumerate_from 0 xs)
numbers_rise {X} xs i j d below within =
    let inside : j < length xs = subst (λ n. j < n) (length-enumerate_from 0 xs) within in
    let first = ap (λ (e : ℕ × X). e.0) (get_or-enumerate_from 0 xs i d (omega (arith, below, inside))) in
    let second = ap (λ (e : ℕ × X). e.0) (get_or-enumerate_from 0 xs j d inside) in
    omega (arith, first, second, below)

-- a key in a set
abbrev KeyIn : Type 0
KeyIn = SetId × List Value

abbrev one_key : KeyIn → KeyIn → Bool
one_key one other = if one.0.index == other.0.index then same_key one.1 other.1 else false

one_key-decides : (one other : KeyIn) → Decides (one_key one other) (one ≡ other)
one_key-decides one other = (
  (λ told. by (one.0.index == other.0.index) refl told),
  (λ same. subst (λ (some : KeyIn). one_key one some ≡ true) same itself),
)
  where
    itself : one_key one one ≡ true
    itself = ap (λ b. if b then same_key one.1 one.1 else false) ((Decides-eqb one.0.index one.0.index).1 refl) ∙ (Decides-key one.1 one.1).1 refl

    by : (b : Bool) → (one.0.index == other.0.index) ≡ b → (if b then same_key one.1 other.1 else false) ≡ true → one ≡ other
    by true is told =
        let number : one.0.index ≡ other.0.index = (Decides-eqb one.0.index other.0.index).0 is in
        let key : one.1 ≡ other.1 = (Decides-key one.1 other.1).0 told in
        λ i. (record { index = number i }, key i)
    by false is told = absurd cc

one_key-equivalence : IsEquivalence one_key
one_key-equivalence = record {
  refl = λ x. (one_key-decides x x).1 refl;
  symm = λ x y. ⊎_elim
      (λ (told : one_key x y ≡ true). told ∙ sym ((one_key-decides y x).1 (sym ((one_key-decides x y).0 told))))
      (λ (told : one_key x y ≡ false). told ∙ sym (false_from_ne_true (one_key y x)
      (λ also. not_from_Decides (one_key x y) (one_key-decides x y) told (sym ((one_key-decides y x).0 also)))))
      (cases_Bool (one_key x y));
  congr = λ x y z told. ap (λ w. one_key w z) ((one_key-decides x y).0 told);
}

-- different keys of a list are no more than it has
no_more : (keys list : List KeyIn) → AreApart keys → ((key : KeyIn) → Contains keys key → Contains list key) → length keys ≤ length list
no_more keys list apart inside = length-le_from_is_member one_key-equivalence keys list (IsDistinct-from_AllPairs one_key-decides keys apart)
    (λ key told. (is_member-Decides one_key-decides list key).1 (inside key ((is_member-Decides one_key-decides keys key).0 told)))

-- what is told as touched is
touched_there : (touched : Touched) (s : SetId) (key : List Value) → is_touched_key touched s key ≡ true → Contains touched.entities (s, key)
touched_there touched s key told =
    let Is : KeyIn → Type 0 = λ one. one ≡ (s, key) in
    let found = member_of Is touched.entities ((Decides-any (λ (one : KeyIn). one_key one (s, key)) Is
    (λ one. one_key-decides one (s, key)) touched.entities).0 told) in
    subst (Contains touched.entities) found.2 found.1

module _ (model : EntityModel) (touched : Touched) (state : State) (legal : IsLegal model state) where
  -- the key of an entity
  abbrev key_at : Unit → KeyIn
  key_at (of_entity s entity) = (s, key_of model entity)
  key_at (of_link a link) = (record { index = a.index }, [])

  abbrev HaveTwoKeys : Unit → Unit → Type 0
  HaveTwoKeys one other = key_at one ≢ key_at other

  -- no two entities of a set have one key
  set_apart : (entry : ℕ × List Entity) → Contains (enumerate_from 0 state.entities) entry → AllPairs HaveTwoKeys (set_units entry)
  set_apart entry has =
      let s : SetId = record { index = entry.0 } in
      let here : At state.entities entry.0 entry.1 = enumerated_at state.entities entry has in
      let within : entry.0 < length model.sets = subst (λ (n : ℕ). entry.0 < n) legal.shape.sets (slice_get_within state.entities entry.0 entry.1 here) in
      let set = item_at model.sets entry.0 within in
      let own : entities_in state s ≡ entry.1 = ap (λ found. unwrap_or found []) here in
      let keys = subst (AllPairs (λ (x y : Entity). key_of model x ≢ key_of model y)) own (legal.sets s set.0 set.1).keys in
      all_pairs_map HaveTwoKeys (of_entity s) entry.1 (λ i j d below inside same. keys i j d below inside (ap (λ (one : KeyIn). one.1) same))

  -- nor do two of different sets
  sets_apart : (one other : ℕ × List Entity) (x y : Unit) → one.0 < other.0 → Contains (set_units one) x → Contains (set_units other) y → HaveTwoKeys x y
  sets_apart one other x y below has_x has_y same =
      let first = map_contains (of_entity (record { index = one.0 })) one.1 x has_x in
      let second = map_contains (of_entity (record { index = other.0 })) other.1 y has_y in
      let number : one.0 ≡ other.0 = ap (λ (key : KeyIn). key.0.index) (ap key_at first.2 ∙ same ∙ sym (ap key_at second.2)) in
      omega (arith, number, below)

  entities_apart : AllPairs HaveTwoKeys (entity_units state)
  entities_apart = pairs_given (λ (one other : ℕ × List Entity). one.0 < other.0) HaveTwoKeys set_units (enumerate_from 0 state.entities)
      (numbers_rise state.entities) set_apart sets_apart

  -- what is counted
  abbrev counted : List Unit
  counted = filter (is_touched model touched) (entity_units state)

  -- the key of an entity that is counted is touched
  key_touched : (unit : Unit) → Contains counted unit → Contains touched.entities (key_at unit)
  key_touched unit has =
      let there = filter_contains (is_touched model touched) (entity_units state) unit has in
      let from = in_flat_map set_units (enumerate_from 0 state.entities) unit there.0 in
      let one = map_contains (of_entity (record { index = from.0.0 })) from.0.1 unit from.2 in
      let told : is_touched_key touched (record { index = from.0.0 }) (key_of model one.0) ≡ true = ap (is_touched model touched) one.2 ∙ there.1 in
      subst (λ (some : Unit). Contains touched.entities (key_at some)) one.2 (touched_there touched (record { index = from.0.0 }) (key_of model one.0) told)

  -- there are no more entities at touched keys than keys
  pub few_touched : count_at model touched state ≤ length touched.entities
  few_touched =
      let few = no_more (map key_at counted) touched.entities
      (all_pairs_map (λ (one other : KeyIn). one ≢ other) key_at counted
      (AllPairs-filter HaveTwoKeys (is_touched model touched) (entity_units state) entities_apart))
      (λ key has. (let one = map_contains key_at counted key has in subst (Contains touched.entities) one.2 (key_touched one.0 one.1))) in
      subst (λ (n : ℕ). n ≤ length touched.entities) (length-map counted key_at) few
