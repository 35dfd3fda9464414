-- States with a link, with two links of one entity, and two that differ in a link alone.
use Rattle.std.proofs.Common.{◌≡◌, ◌≢◌, ⊎_elim, ℕ, ◌+◌, ◌≤◌, ◌==◌, List, [], ◌∷◌, ◌++◌, map, flat_map, slice_get, get_or, AllPairs, Contains, Bool, true, false, not, refl, sym, ap, subst, ◌∙◌, arith}
use Rattle.std.specs.Option.{option_map_or}
use Rattle.std.proofs.lemmas.Bool.{false_from_ne_true}
use Rattle.std.proofs.lemmas.List.Elements.{Contains-append_cases, Contains-append_left, Contains-get_or}
use Rattle.emc_base.proofs.FoundItems.{some_member}
use Rattle.emc_base.proofs.Joined.{filter-drops}
use Rattle.emc_base.proofs.Lists.{at_once}
use Rattle.emc_base.proofs.Mapped.{contains_at}
use Rattle.emc_base.proofs.Members.{contains_cons_cases, contains_head, contains_nil, contains_tail}
use Rattle.round_trip.specs.Words.{SetId, AssocId, PropId, Value, EntityModel, EntitySet, Assoc, End, Link, State, At, IsA, IsIndependent, IsLegal, entities_in, key_of, key_props, links_in, value_beside}
use Rattle.edm_types.specs.declared.model.Mult.TheVariants.{Many}
use Rattle.round_trip.specs.soundness.Lookups.{set_key}
use Rattle.round_trip.specs.soundness.models.Constraints.{IsSoundEnd}
use Rattle.schema_laws.specs.short_values.Fresh.{fresh_at}
use Rattle.schema_laws.specs.short_values.Places.{place_in}
use Rattle.schema_laws.proofs.state_demand.lists.Ids.{Decides-assoc}
use Rattle.schema_laws.proofs.state_demand.writings.Decisions.{so_or_not}
use Rattle.schema_laws.proofs.state_demand.owners.Owners.{beside_map}
use Rattle.population.specs.Given.{AreLinked, HasNumbers, StandsAtEnd}
use Rattle.population.specs.LinkStates.{DifferInLink, HoldsLink, HoldsTwoLinks, PlainEnd, at_end, at_first, at_second, entity_at, key_at, key_from, link_state, of_assoc, other_at, other_link, placed_at, plain_link, plain_state, two_links_state, unlinked_state}
use Rattle.population.specs.Numbered.{end_number, end_of, numbered_key}
use Rattle.population.specs.Principals.{PlacedKey, principals}
use Rattle.population.specs.Support.{support}
use Rattle.population.specs.Supported.{Placed, PlacedLink, added_at, all_links, end_key, links_of, stands_in}
use Rattle.population.proofs.supporting.Ends.{end_has_key, end_stands, end_typed, key_not_numbered, link_from, link_pairs, from_link, plain_legal}
use Rattle.population.proofs.supporting.Entities.{entities_are, links_are}
use Rattle.population.proofs.supporting.Links.{IsAdded, far_key, is_added, linked_is, near_key}
use Rattle.population.proofs.plain.Pairs.{pairs_none, pairs_one, pairs_three, pairs_two}
use Rattle.population.proofs.plain.Numbered.{end_within, fresh_once, set_key_is, some_part, sound_end}

module _ (model : EntityModel) (outer : ℕ) (has : HasNumbers model outer) (a : AssocId) (assoc : Assoc) (here : At model.assocs a.index assoc) (independent : IsIndependent assoc) where
  is_assoc : Contains model.assocs assoc
  is_assoc = contains_at model.assocs a.index assoc here

  -- an end of the association, with a small index
  abbrev IsOfAssoc : PlainEnd → Type 0
  IsOfAssoc one = (side : Bool) × (one.end ≡ end_of side assoc) × (one.index ≤ 1900)

  first_of : IsOfAssoc (at_first model outer assoc)
  first_of = (true, refl, omega arith)

  second_of : IsOfAssoc (at_second model outer assoc)
  second_of = (false, refl, omega arith)

  other_of : (side : Bool) → IsOfAssoc (other_at model outer side assoc)
  other_of side = (side, refl, omega arith)

  -- the key at an end has an index of its own
  end_index : (side : Bool) → IsOfAssoc (at_end model outer side assoc)
  end_index true = first_of
  end_index false = second_of

  apart_index : (side : Bool) → (at_end model outer side assoc).index ≢ (other_at model outer side assoc).index
  apart_index true equal = absurd (omega (arith, equal))
  apart_index false equal = absurd (omega (arith, equal))

  end_is : (side : Bool) → (at_end model outer side assoc).end ≡ end_of side assoc
  end_is true = refl
  end_is false = refl

  plain_key : (side : Bool) → end_key side (plain_link model outer assoc) ≡ key_at model outer (at_end model outer side assoc)
  plain_key true = refl
  plain_key false = refl

  module _ (ends : List PlainEnd) (each : (one : PlainEnd) → Contains ends one → IsOfAssoc one) (apart : AllPairs (λ one two. one.index ≢ two.index) ends)
      (has_first : Contains ends (at_first model outer assoc)) (has_second : Contains ends (at_second model outer assoc)) where
    abbrev given : List Placed
    given = map (placed_at model outer) ends

    abbrev keys : List PlacedKey
    keys = support model outer given (flat_map (λ one. principals model one.end.set (entity_at model outer one)) ends)

    sound : (one : PlainEnd) → Contains ends one → IsSoundEnd model one.end
    sound one there = let of = each one there in subst (IsSoundEnd model) (sym of.1) (sound_end model has.sound assoc is_assoc of.0)

    small : (one : PlainEnd) → Contains ends one → one.index ≤ 1900
    small one there = (each one there).2

    -- an end of the list stands at its end, with its key
    one_at_end : (one : PlainEnd) → Contains ends one → StandsAtEnd model outer given keys one.end (key_at model outer one)
    one_at_end one there =
        some_member (λ entity. IsA model entity.ty one.end.ty × (key_of model entity ≡ key_at model outer one)) (stands_in model outer given keys one.end.set) (entity_at model outer one)
        (end_stands model outer has ends sound small apart one there)
        (end_typed model outer has one (sound one there) (small one there), end_has_key model outer has one (sound one there) (small one there))

    has_end : (side : Bool) → Contains ends (at_end model outer side assoc)
    has_end true = has_first
    has_end false = has_second

    plain_ends : (side : Bool) → StandsAtEnd model outer given keys (end_of side assoc) (end_key side (plain_link model outer assoc))
    plain_ends side =
        subst (StandsAtEnd model outer given keys (end_of side assoc)) (sym (plain_key side))
        (subst (λ end. StandsAtEnd model outer given keys end (key_at model outer (at_end model outer side assoc))) (end_is side)
        (one_at_end (at_end model outer side assoc) (has_end side)))

    -- given links of the association whose ends stand
    module _ (links : List PlacedLink) (of : (placed : PlacedLink) → Contains links placed → (placed.assoc ≡ a) × ((side : Bool) → StandsAtEnd model outer given keys (end_of side assoc) (end_key side placed.link)))
        (once : AllPairs (λ x y. x.link ≢ y.link) links)
        (few : (side : Bool) → (end_of (not side) assoc).mult ≢ Many → AllPairs (λ x y. end_key side x.link ≢ end_key side y.link) links) where
      the_assoc : (b : AssocId) (other : Assoc) → At model.assocs b.index other → b ≡ a → other ≡ assoc
      the_assoc b other there is = let P : AssocId → Type 0 = λ c. At model.assocs c.index other in at_once model.assocs a.index other assoc (subst P is there) here

      -- pairs of links of any association
      pairs_of : (R : Link → Link → Type 0) → AllPairs (λ x y. R x.link y.link) links → (b : AssocId) → AllPairs R (links_of links b)
      pairs_of R pairs b = link_pairs R links b (λ i j d below within first second. pairs i j d below within)

      none_of : (R : Link → Link → Type 0) (b : AssocId) → (b ≡ a → ⊥) → AllPairs R (links_of links b)
      none_of R b other = link_pairs R links b (λ i j d below within first second.
          absurd (other (sym first ∙ (of (get_or links i d) (Contains-get_or links i d (omega (arith, below, within)))).0)))

      are_linked : AreLinked model outer given keys links
      are_linked = record {
        once = λ b. pairs_of (λ x y. x ≢ y) once b;
        ends = λ b other there link one side. (
            let found = link_from links b link one in
            let told = of found.0 found.1 in
            let is : other ≡ assoc = the_assoc b other there (sym found.2 ∙ told.0) in
            let P : Assoc → Link → Type 0 = λ c l. StandsAtEnd model outer given keys (end_of side c) (end_key side l) in
            subst (λ c. P c link) (sym is) (subst (P assoc) found.3 (told.1 side)));
        few = λ b other there side not_many. ⊎_elim
            (λ (is : b ≡ a).
            let same : other ≡ assoc = the_assoc b other there is in
            let Few : Assoc → Type 0 = λ c. (end_of (not side) c).mult ≢ Many in
            pairs_of (λ x y. end_key side x ≢ end_key side y) (few side (subst Few same not_many)) b)
            (λ (apart_b : ¬ (b ≡ a)). none_of (λ x y. end_key side x ≢ end_key side y) b apart_b)
            (so_or_not (b.index == a.index) (Decides-assoc b a));
      }

      abbrev state : State
      state = plain_state model outer ends links

      legal : IsLegal model state
      legal = plain_legal model outer has ends sound small apart links are_linked

      -- a given link stands
      link_stands : (placed : PlacedLink) → Contains links placed → Contains (links_in state a) placed.link
      link_stands placed there =
          let own : List Link = links_of links a in
          let one : Contains own placed.link = subst (λ b. Contains (links_of links b) placed.link) (of placed there).0 (from_link links placed there) in
          subst (λ list. Contains list placed.link) (sym (links_are model outer given keys links a ∙ linked_is model outer given keys links a assoc here independent))
          (Contains-append_left own (added_at model outer given keys true a assoc own ++ added_at model outer given keys false a assoc own) placed.link one)

      holds : Contains links (of_assoc model outer a (plain_link model outer assoc)) → HoldsLink model outer a assoc state
      holds there = record {
        legal = legal;
        linked = link_stands (of_assoc model outer a (plain_link model outer assoc)) there;
        ends = λ side. (let end : PlainEnd = at_end model outer side assoc in
            let P : End → Type 0 = λ e. Contains (entities_in state e.set) (entity_at model outer end) in
            subst P (end_is side)
            (subst (λ list. Contains list (entity_at model outer end)) (sym (entities_are model outer given keys links end.end.set)) (end_stands model outer has ends sound small apart end (has_end side))));
        keys = λ side. end_has_key model outer has (at_end model outer side assoc) (sound (at_end model outer side assoc) (has_end side)) (small (at_end model outer side assoc) (has_end side));
        typed = λ side. (let end : PlainEnd = at_end model outer side assoc in
            let P : End → Type 0 = λ e. IsA model (entity_at model outer end).ty e.ty in
            subst P (end_is side) (end_typed model outer has end (sound end (has_end side)) (small end (has_end side))));
      }

  -- the ends of the link
  abbrev both : List PlainEnd
  both = at_first model outer assoc ∷ (at_second model outer assoc ∷ [])

  both_of : (one : PlainEnd) → Contains both one → IsOfAssoc one
  both_of one there = ⊎_elim
      (λ (is : one ≡ at_first model outer assoc). subst IsOfAssoc (sym is) first_of)
      (λ (later : Contains (at_second model outer assoc ∷ []) one). ⊎_elim
      (λ (is : one ≡ at_second model outer assoc). subst IsOfAssoc (sym is) second_of)
      (λ (never : Contains [] one). absurd (contains_nil one never))
      (contains_cons_cases (at_second model outer assoc) [] one later))
      (contains_cons_cases (at_first model outer assoc) (at_second model outer assoc ∷ []) one there)

  both_apart : AllPairs (λ one two. one.index ≢ two.index) both
  both_apart = pairs_two (λ (one two : PlainEnd). one.index ≢ two.index) (at_first model outer assoc) (at_second model outer assoc) (λ equal. absurd (omega (arith, equal)))

  first_both : Contains both (at_first model outer assoc)
  first_both = contains_head (at_first model outer assoc) (at_second model outer assoc ∷ [])

  second_both : Contains both (at_second model outer assoc)
  second_both = contains_tail (at_first model outer assoc) (at_second model outer assoc ∷ []) (at_second model outer assoc) (contains_head (at_second model outer assoc) [])

  abbrev the_link : PlacedLink
  the_link = of_assoc model outer a (plain_link model outer assoc)

  pub link_holds : HoldsLink model outer a assoc (link_state model outer a assoc)
  link_holds = holds both both_of both_apart first_both second_both (the_link ∷ [])
      (λ placed there. ⊎_elim
      (λ (is : placed ≡ the_link).
      let Told : PlacedLink → Type 0 = λ one. (one.assoc ≡ a) × ((side : Bool) → StandsAtEnd model outer (given both both_of both_apart first_both second_both) (keys both both_of both_apart first_both second_both) (end_of side assoc) (end_key side one.link)) in
      subst Told (sym is) (refl, plain_ends both both_of both_apart first_both second_both))
      (λ (never : Contains [] placed). absurd (contains_nil placed never))
      (contains_cons_cases the_link [] placed there))
      (pairs_one (λ (x y : PlacedLink). x.link ≢ y.link) the_link)
      (λ side not_many. pairs_one (λ (x y : PlacedLink). end_key side x.link ≢ end_key side y.link) the_link)
      (contains_head the_link [])

  -- without the link
  none_linked : (placed : PlacedLink) → Contains [] placed
      → (placed.assoc ≡ a) × ((side : Bool) → StandsAtEnd model outer (given both both_of both_apart first_both second_both) (keys both both_of both_apart first_both second_both) (end_of side assoc)
      (end_key side placed.link))
  none_linked placed never = absurd (contains_nil placed never)

  unlinked_legal : IsLegal model (unlinked_state model outer a assoc)
  unlinked_legal = legal both both_of both_apart first_both second_both [] none_linked (pairs_none (λ (x y : PlacedLink). x.link ≢ y.link))
      (λ side not_many. pairs_none (λ (x y : PlacedLink). end_key side x.link ≢ end_key side y.link))

  -- an added link leads to an entity of a number, and so isn't the link
  not_added : (first : Bool) → IsAdded model outer (given both both_of both_apart first_both second_both) (keys both both_of both_apart first_both second_both) a assoc [] first
      (plain_link model outer assoc) → ⊥
  not_added first by =
      let far : PlainEnd = at_end model outer (not first) assoc in
      let sound_far : IsSoundEnd model far.end = subst (IsSoundEnd model) (sym (end_is (not first))) (sound_end model has.sound assoc is_assoc (not first)) in
      let number = end_number (not first) a in
      let below = end_within model has.sound a assoc here (not first) in
      let far_is : end_key (not first) (plain_link model outer assoc) ≡ numbered_key model outer (end_of (not first) assoc).set number =
      ap (end_key (not first)) by.is ∙ far_key first (key_of model by.entity) (numbered_key model outer (end_of (not first) assoc).set number) in
      key_not_numbered model outer has far.end.set sound_far.under.0 sound_far.under.1 far.index (end_index (not first)).2 number below
      (sym (plain_key (not first)) ∙ far_is ∙ ap (λ (end : End). numbered_key model outer end.set number) (sym (end_is (not first))))

  without : ¬ Contains (links_in (unlinked_state model outer a assoc) a) (plain_link model outer assoc)
  without there =
      let own_given : List Placed = given both both_of both_apart first_both second_both in
      let own_keys : List PlacedKey = keys both both_of both_apart first_both second_both in
      let one : List Link = added_at model outer own_given own_keys true a assoc [] in
      let two : List Link = added_at model outer own_given own_keys false a assoc [] in
      let listed : Contains (one ++ two) (plain_link model outer assoc) = subst (λ list. Contains list (plain_link model outer assoc))
      (links_are model outer own_given own_keys [] a ∙ linked_is model outer own_given own_keys [] a assoc here independent) there in
      ⊎_elim
      (λ (first : Contains one (plain_link model outer assoc)). not_added true (is_added model outer own_given own_keys a assoc [] true (plain_link model outer assoc) first))
      (λ (second : Contains two (plain_link model outer assoc)). not_added false (is_added model outer own_given own_keys a assoc [] false (plain_link model outer assoc) second))
      (Contains-append_cases one two (plain_link model outer assoc) listed)

  -- other associations have the links that they have without it
  other_links : (b : AssocId) → b ≢ a → links_in (link_state model outer a assoc) b ≡ links_in (unlinked_state model outer a assoc) b
  other_links b apart =
      let own_given : List Placed = given both both_of both_apart first_both second_both in
      let own_keys : List PlacedKey = keys both both_of both_apart first_both second_both in
      let test : PlacedLink → Bool = λ placed. placed.assoc.index == b.index in
      let none : links_of (the_link ∷ []) b ≡ [] = ap (map (λ (placed : PlacedLink). placed.link))
      (filter-drops test the_link [] (false_from_ne_true (a.index == b.index) (λ told. apart (sym ((Decides-assoc a b).0 told))))) in
      links_are model outer own_given own_keys (the_link ∷ []) b
      ∙ ap (λ links. option_map_or (all_links model outer own_given own_keys b links) (slice_get model.assocs b.index) []) none
      ∙ sym (links_are model outer own_given own_keys [] b)

  pub links_differ : DifferInLink model outer a assoc (link_state model outer a assoc) (unlinked_state model outer a assoc)
  links_differ = record {
    one = link_holds;
    legal = unlinked_legal;
    without = without;
    entities = λ u.
        entities_are model outer (given both both_of both_apart first_both second_both) (keys both both_of both_apart first_both second_both) (the_link ∷ []) u
        ∙ sym (entities_are model outer (given both both_of both_apart first_both second_both) (keys both both_of both_apart first_both second_both) [] u);
    links = other_links;
  }

  -- with a second link of the entity at an end whose other end is `*`
  module _ (first : Bool) (many : (end_of (not first) assoc).mult ≡ Many) where
    abbrev other : PlainEnd
    other = other_at model outer (not first) assoc

    abbrev three : List PlainEnd
    three = at_first model outer assoc ∷ (at_second model outer assoc ∷ (other ∷ []))

    abbrev second_link : PlacedLink
    second_link = of_assoc model outer a (other_link model outer first assoc)

    abbrev two_links : List PlacedLink
    two_links = the_link ∷ (second_link ∷ [])

    three_of : (one : PlainEnd) → Contains three one → IsOfAssoc one
    three_of one there = ⊎_elim
        (λ (is : one ≡ at_first model outer assoc). subst IsOfAssoc (sym is) first_of)
        (λ (later : Contains (at_second model outer assoc ∷ (other ∷ [])) one). ⊎_elim
        (λ (is : one ≡ at_second model outer assoc). subst IsOfAssoc (sym is) second_of)
        (λ (last : Contains (other ∷ []) one). ⊎_elim
        (λ (is : one ≡ other). subst IsOfAssoc (sym is) (other_of (not first)))
        (λ (never : Contains [] one). absurd (contains_nil one never))
        (contains_cons_cases other [] one last))
        (contains_cons_cases (at_second model outer assoc) (other ∷ []) one later))
        (contains_cons_cases (at_first model outer assoc) (at_second model outer assoc ∷ (other ∷ [])) one there)

    three_apart : AllPairs (λ one two. one.index ≢ two.index) three
    three_apart = pairs_three (λ (one two : PlainEnd). one.index ≢ two.index) (at_first model outer assoc) (at_second model outer assoc) other
        (λ equal. absurd (omega (arith, equal))) (λ equal. absurd (omega (arith, equal))) (λ equal. absurd (omega (arith, equal)))

    first_three : Contains three (at_first model outer assoc)
    first_three = contains_head (at_first model outer assoc) (at_second model outer assoc ∷ (other ∷ []))

    second_three : Contains three (at_second model outer assoc)
    second_three = contains_tail (at_first model outer assoc) (at_second model outer assoc ∷ (other ∷ [])) (at_second model outer assoc) (contains_head (at_second model outer assoc) (other ∷ []))

    other_three : Contains three other
    other_three = contains_tail (at_first model outer assoc) (at_second model outer assoc ∷ (other ∷ [])) other
        (contains_tail (at_second model outer assoc) (other ∷ []) other (contains_head other []))

    abbrev Stands : Bool → List Value → Type 0
    Stands side key = StandsAtEnd model outer (given three three_of three_apart first_three second_three) (keys three three_of three_apart first_three second_three) (end_of side assoc) key

    -- the keys at the ends of the second link
    near_is : end_key first (other_link model outer first assoc) ≡ key_at model outer (at_end model outer first assoc)
    near_is = near_key first (key_at model outer (at_end model outer first assoc)) (key_at model outer other)

    far_is : end_key (not first) (other_link model outer first assoc) ≡ key_at model outer other
    far_is = far_key first (key_at model outer (at_end model outer first assoc)) (key_at model outer other)

    near_stands : Stands first (end_key first (other_link model outer first assoc))
    near_stands = subst (Stands first) (plain_key first ∙ sym near_is) (plain_ends three three_of three_apart first_three second_three first)

    far_stands : Stands (not first) (end_key (not first) (other_link model outer first assoc))
    far_stands = subst (Stands (not first)) (sym far_is) (one_at_end three three_of three_apart first_three second_three other other_three)

    both_stand : (near : Bool) (key : Bool → List Value) → Stands near (key near) → Stands (not near) (key (not near)) → (side : Bool) → Stands side (key side)
    both_stand true key one two true = one
    both_stand true key one two false = two
    both_stand false key one two true = two
    both_stand false key one two false = one

    -- the partners' keys differ in each part
    abbrev far : SetId
    far = (end_of (not first) assoc).set

    far_keys : (side : Bool) → (at_end model outer side assoc).end.set ≡ (end_of side assoc).set
    far_keys side = ap (λ (end : End). end.set) (end_is side)

    apart_parts : (p : PropId) → Contains (set_key model far) p → value_beside p (set_key model far) (end_key (not first) (plain_link model outer assoc))
        ≢ value_beside p (set_key model far) (end_key (not first) (other_link model outer first assoc))
    apart_parts p part equal =
        let is_sound : IsSoundEnd model (end_of (not first) assoc) = sound_end model has.sound assoc is_assoc (not first) in
        let set : EntitySet = is_sound.under.0 in
        let props : List PropId = set_key model far in
        let one : ℕ = (at_end model outer (not first) assoc).index in
        let two : ℕ = other.index in
        let value : ℕ → PropId → Value = λ index q. fresh_at model outer q (index + place_in q props) in
        let here_one : value_beside p props (end_key (not first) (plain_link model outer assoc)) ≡ value one p =
        ap (value_beside p props) (plain_key (not first) ∙ ap (λ u. key_from model outer u one) (far_keys (not first))) ∙ beside_map (value one) props p part in
        let here_two : value_beside p props (end_key (not first) (other_link model outer first assoc)) ≡ value two p = ap (value_beside p props) far_is ∙ beside_map (value two) props p part in
        let keyed : Contains (key_props model set.element) p = subst (λ list. Contains list p) (set_key_is model has.sound far set is_sound.under.1) part in
        let indices : one + place_in p props ≡ two + place_in p props =
        fresh_once model outer has set.element p keyed (one + place_in p props) (two + place_in p props) (sym here_one ∙ equal ∙ here_two) in
        apart_index (not first) (by (not first) indices)
      where
        by : (side : Bool) → (at_end model outer side assoc).index + place_in p (set_key model far) ≡ other.index + place_in p (set_key model far)
            → (at_end model outer side assoc).index ≡ (other_at model outer side assoc).index
        by true same_sum = absurd (omega (arith, same_sum))
        by false same_sum = absurd (omega (arith, same_sum))

    far_differ : end_key (not first) (plain_link model outer assoc) ≢ end_key (not first) (other_link model outer first assoc)
    far_differ equal =
        let is_sound : IsSoundEnd model (end_of (not first) assoc) = sound_end model has.sound assoc is_assoc (not first) in
        let part = some_part model has.sound far is_sound.under.0 is_sound.under.1 in
        apart_parts part.0 part.1 (ap (value_beside part.0 (set_key model far)) equal)

    two_of : (placed : PlacedLink) → Contains two_links placed → (placed.assoc ≡ a) × ((side : Bool) → Stands side (end_key side placed.link))
    two_of placed there =
        let Told : PlacedLink → Type 0 = λ one. (one.assoc ≡ a) × ((side : Bool) → Stands side (end_key side one.link)) in
        ⊎_elim
        (λ (is : placed ≡ the_link). subst Told (sym is) (refl, plain_ends three three_of three_apart first_three second_three))
        (λ (later : Contains (second_link ∷ []) placed). ⊎_elim
        (λ (is : placed ≡ second_link).
        subst Told (sym is) (refl, both_stand first (λ side. end_key side (other_link model outer first assoc)) near_stands far_stands))
        (λ (never : Contains [] placed). absurd (contains_nil placed never))
        (contains_cons_cases second_link [] placed later))
        (contains_cons_cases the_link (second_link ∷ []) placed there)

    few_keys : (near side : Bool) → near ≡ first → (end_of (not side) assoc).mult ≢ Many → end_key side (plain_link model outer assoc) ≢ end_key side (other_link model outer first assoc)
    few_keys true true is not_many equal = let P : Bool → Type 0 = λ b. (end_of (not b) assoc).mult ≡ Many in not_many (subst P (sym is) many)
    few_keys false false is not_many equal = let P : Bool → Type 0 = λ b. (end_of (not b) assoc).mult ≡ Many in not_many (subst P (sym is) many)
    few_keys true false is not_many equal =
        let P : Bool → Type 0 = λ b. end_key b (plain_link model outer assoc) ≡ end_key b (other_link model outer first assoc) in far_differ (subst P (ap not is) equal)
    few_keys false true is not_many equal =
        let P : Bool → Type 0 = λ b. end_key b (plain_link model outer assoc) ≡ end_key b (other_link model outer first assoc) in far_differ (subst P (ap not is) equal)

    two_once : AllPairs (λ x y. x.link ≢ y.link) two_links
    two_once = pairs_two (λ (x y : PlacedLink). x.link ≢ y.link) the_link second_link (λ equal. far_differ (ap (end_key (not first)) equal))

    two_few : (side : Bool) → (end_of (not side) assoc).mult ≢ Many → AllPairs (λ x y. end_key side x.link ≢ end_key side y.link) two_links
    two_few side not_many = pairs_two (λ (x y : PlacedLink). end_key side x.link ≢ end_key side y.link) the_link second_link (few_keys first side refl not_many)

    pub two_hold : HoldsTwoLinks model outer a first assoc (two_links_state model outer a first assoc)
    two_hold = record {
      one = holds three three_of three_apart first_three second_three two_links two_of two_once two_few (contains_head the_link (second_link ∷ []));
      two = link_stands three three_of three_apart first_three second_three two_links two_of two_once two_few second_link
          (contains_tail the_link (second_link ∷ []) second_link (contains_head second_link []));
      of_one = near_is ∙ sym (plain_key first);
      apart = apart_parts;
    }
