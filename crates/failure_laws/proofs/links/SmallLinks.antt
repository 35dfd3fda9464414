-- What the entities at the ends of links need holds the links as the whole states do.
use Rattle.std.proofs.Common.{◌≡◌, ◌&&◌, ⊎_elim, ℕ, List, [], ◌∷◌, filter, length, slice_get, Contains, Bool, true, false, not, Option, refl, sym, ap, subst, ◌∙◌}
use Rattle.std.specs.List.{list_any}
use Rattle.std.specs.Option.{option_map_or}
use Rattle.std.proofs.lemmas.Option.{slice_get_past}
use Rattle.emc_base.proofs.Mapped.{contains_map}
use Rattle.schema_laws.specs.state_demand.Selecting.{same_key}
use Rattle.schema_laws.proofs.state_demand.lists.Lists.{head_stands, none_in_nil, member_cases, tail_stands}
use Rattle.edm_types.specs.declared.model.Mult.TheVariants.{Many}
use Rattle.round_trip.specs.Words.{AssocId, SetId, Assoc, Entity, EntityModel, Link, State, At, IsIndependent, IsLegal, entities_in, links_in, key_of}
use Rattle.population.specs.Given.{HasNumbers}
use Rattle.population.specs.Kept.{HoldsNeeded, is_needed, key_at_end, key_in, kept_links, kept_state, part_of}
use Rattle.population.specs.LinkStates.{DifferInLink, HoldsLink, HoldsTwoLinks, PlainEnd, at_end, at_first, at_second, entity_at, key_at, link_state, other_at, other_link, plain_link, two_links_state, unlinked_state}
use Rattle.population.specs.Numbered.{end_of}
use Rattle.population.specs.Supported.{end_key}
use Rattle.population.specs.declared.placed.PlacedKey.{PlacedKey}
use Rattle.population.proofs.pruning.Kept.{entities_kept}
use Rattle.population.proofs.pruning.Needed.{root_needed}
use Rattle.population.proofs.pruning.NeededParts.{holds_needed, needed_parts}
use Rattle.population.proofs.supporting.LinkStates.{link_holds, links_differ, two_hold}
use Rattle.population.proofs.plain.Lists.{made_at}
use Rattle.failure_laws.specs.SmallLinks.{both_ends, roots_at, small_link, small_pair, small_shared}

module _ {X : Type 0} (x y : X) where
  second_in : (rest : List X) → Contains (x ∷ (y ∷ rest)) y
  second_in rest = tail_stands x (y ∷ rest) y (head_stands y rest)

  third_in : (z : X) → Contains (x ∷ (y ∷ (z ∷ []))) z
  third_in z = tail_stands x (y ∷ (z ∷ [])) z (tail_stands y (z ∷ []) z (head_stands z []))

module _ (model : EntityModel) (outer : ℕ) (has : HasNumbers model outer) (a : AssocId) (assoc : Assoc) (here : At model.assocs a.index assoc) where
  -- parts by roots that name both ends hold the link where the states do
  module _ (states : List State) (legal : (one : State) → Contains states one → IsLegal model one) (roots : List PlacedKey)
      (rooted : (first : Bool) → Contains roots (key_at_end first assoc (plain_link model outer assoc))) (state : State) (among : Contains states state)
      (holds : HoldsLink model outer a assoc state) where
    abbrev part : State
    part = part_of model states roots state

    held : HoldsNeeded model states roots state
    held = holds_needed model states roots state holds.legal

    -- a link stays where both its ends are among the roots
    link_stays : (link : Link) → Contains (links_in state a) link → ((first : Bool) → Contains roots (key_at_end first assoc link)) → Contains (links_in part a) link
    link_stays link stands ends = (held.links a assoc here link).1 (stands, λ first. root_needed model states roots (key_at_end first assoc link) (ends first))

    end_stays : (first : Bool) → Contains (entities_in part (end_of first assoc).set) (entity_at model outer (at_end model outer first assoc))
    end_stays first =
        let u : SetId = (end_of first assoc).set in
        let same : key_at_end first assoc (plain_link model outer assoc) ≡ key_in model u (entity_at model outer (at_end model outer first assoc)) =
        λ k. record { set = u; key = (link_key first ∙ sym (holds.keys first)) k } in
        (held.entities u (entity_at model outer (at_end model outer first assoc))).1
        (holds.ends first, root_needed model states roots _ (subst (Contains roots) same (rooted first)))
      where
        link_key : (side : Bool) → end_key side (plain_link model outer assoc) ≡ key_at model outer (at_end model outer side assoc)
        link_key true = refl
        link_key false = refl

    part_holds : HoldsLink model outer a assoc part
    part_holds = record {
      legal = needed_parts model has.sound states legal roots state among;
      linked = link_stays (plain_link model outer assoc) holds.linked rooted;
      ends = end_stays;
      keys = holds.keys;
      typed = holds.typed;
    }

  -- one state alone
  only_legal : (state : State) → IsLegal model state → (one : State) → Contains (state ∷ []) one → IsLegal model one
  only_legal state legal one among = ⊎_elim
      (λ (is : one ≡ state). subst (IsLegal model) (sym is) legal)
      (λ (never : Contains [] one). absurd (none_in_nil one never))
      (member_cases state [] one among)

  -- the roots name the key of each end
  module _ (ends : List PlainEnd) where
    abbrev key_there : PlainEnd → PlacedKey
    key_there one = record { set = one.end.set; key = key_at model outer one }

    rooted_end : (one : PlainEnd) → Contains ends one → Contains (roots_at model outer ends) (key_there one)
    rooted_end one among = contains_map key_there ends one among

  both_rooted : (first : Bool) → Contains (roots_at model outer (both_ends model outer a assoc)) (key_at_end first assoc (plain_link model outer assoc))
  both_rooted true = rooted_end (both_ends model outer a assoc) (at_first model outer assoc) (head_stands (at_first model outer assoc) (at_second model outer assoc ∷ []))
  both_rooted false = rooted_end (both_ends model outer a assoc) (at_second model outer assoc) (second_in (at_first model outer assoc) (at_second model outer assoc) [])

  -- with another entity at the other end
  abbrev three : Bool → List PlainEnd
  three first = at_first model outer assoc ∷ (at_second model outer assoc ∷ (other_at model outer (not first) assoc ∷ []))

  three_rooted : (first side : Bool) → Contains (roots_at model outer (three first)) (key_at_end side assoc (plain_link model outer assoc))
  three_rooted first true = rooted_end (three first) (at_first model outer assoc) (head_stands (at_first model outer assoc) (at_second model outer assoc ∷ (other_at model outer (not first) assoc ∷ [])))
  three_rooted first false = rooted_end (three first) (at_second model outer assoc) (second_in (at_first model outer assoc) (at_second model outer assoc) (other_at model outer (not first) assoc ∷ []))

  third : (first : Bool) → Contains (three first) (other_at model outer (not first) assoc)
  third first = third_in (at_first model outer assoc) (at_second model outer assoc) (other_at model outer (not first) assoc)

  other_rooted : (first side : Bool) → Contains (roots_at model outer (three first)) (key_at_end side assoc (other_link model outer first assoc))
  other_rooted true true = three_rooted true true
  other_rooted true false = rooted_end (three true) (other_at model outer false assoc) (third true)
  other_rooted false true = rooted_end (three false) (other_at model outer true assoc) (third false)
  other_rooted false false = three_rooted false false

  module _ (independent : IsIndependent assoc) where
    linked : HoldsLink model outer a assoc (link_state model outer a assoc)
    linked = link_holds model outer has a assoc here independent

    pub small_holds : HoldsLink model outer a assoc (small_link model outer a assoc)
    small_holds = part_holds (link_state model outer a assoc ∷ []) (only_legal (link_state model outer a assoc) linked.legal) (roots_at model outer (both_ends model outer a assoc))
        both_rooted (link_state model outer a assoc) (head_stands (link_state model outer a assoc) []) linked

    -- the same with the link and without it
    abbrev unlinked : State
    unlinked = unlinked_state model outer a assoc

    abbrev either : List State
    either = link_state model outer a assoc ∷ (unlinked ∷ [])

    whole_differ : DifferInLink model outer a assoc (link_state model outer a assoc) unlinked
    whole_differ = links_differ model outer has a assoc here independent

    either_legal : (one : State) → Contains either one → IsLegal model one
    either_legal one among = ⊎_elim
        (λ (is : one ≡ link_state model outer a assoc). subst (IsLegal model) (sym is) whole_differ.one.legal)
        (λ (later : Contains (unlinked ∷ []) one). only_legal unlinked whole_differ.legal one later)
        (member_cases (link_state model outer a assoc) (unlinked ∷ []) one among)

    abbrev keep : SetId → Entity → Bool
    keep = is_needed model either (roots_at model outer (both_ends model outer a assoc))

    -- the links between entities that are kept
    abbrev kept_by : (SetId → List Entity) → List Link → Option Assoc → List Link
    kept_by entities links found = option_map_or (λ one. filter
        (λ link. list_any (λ entity. same_key (key_of model entity) (end_key true link)) (filter (keep (end_of true one).set) (entities (end_of true one).set))
        && list_any (λ entity. same_key (key_of model entity) (end_key false link)) (filter (keep (end_of false one).set) (entities (end_of false one).set))) links) found []

    links_left : (state : State) (b : AssocId) → links_in (kept_state model keep state) b ≡ kept_by (entities_in state) (links_in state b) (slice_get model.assocs b.index)
    links_left state b = made_at (λ n. kept_links model keep state (record { index = n })) (length model.assocs) b.index
        (λ past. ap (kept_by (entities_in state) (links_in state b)) (slice_get_past model.assocs b.index past))

    pub small_differ : DifferInLink model outer a assoc (small_pair model outer a assoc).0 (small_pair model outer a assoc).1
    small_differ = record {
      one = part_holds either either_legal (roots_at model outer (both_ends model outer a assoc)) both_rooted (link_state model outer a assoc)
          (head_stands (link_state model outer a assoc) (unlinked ∷ [])) linked;
      legal = needed_parts model has.sound either either_legal (roots_at model outer (both_ends model outer a assoc)) unlinked
          (second_in (link_state model outer a assoc) unlinked []);
      without = λ stands. whole_differ.without
          (((holds_needed model either (roots_at model outer (both_ends model outer a assoc)) unlinked whole_differ.legal).links a assoc here (plain_link model outer assoc)).0 stands).0;
      entities = λ u. entities_kept model keep (link_state model outer a assoc) linked.legal.shape u ∙ ap (filter (keep u)) (whole_differ.entities u)
          ∙ sym (entities_kept model keep unlinked whole_differ.legal.shape u);
      links = λ b apart. links_left (link_state model outer a assoc) b
          ∙ (λ k. kept_by (λ u. whole_differ.entities u k) (whole_differ.links b apart k) (slice_get model.assocs b.index)) ∙ sym (links_left unlinked b);
    }

    -- with a second partner
    module _ (first : Bool) (many : (end_of (not first) assoc).mult ≡ Many) where
      abbrev shared : State
      shared = two_links_state model outer a first assoc

      two : HoldsTwoLinks model outer a first assoc shared
      two = two_hold model outer has a assoc here independent first many

      pub small_two_hold : HoldsTwoLinks model outer a first assoc (small_shared model outer a assoc first)
      small_two_hold = record {
        one = part_holds (shared ∷ []) (only_legal shared two.one.legal) (roots_at model outer (three first)) (three_rooted first) shared (head_stands shared []) two.one;
        two = link_stays (shared ∷ []) (only_legal shared two.one.legal) (roots_at model outer (three first)) (three_rooted first) shared (head_stands shared []) two.one
            (other_link model outer first assoc) two.two (other_rooted first);
        of_one = two.of_one;
        apart = two.apart;
      }
