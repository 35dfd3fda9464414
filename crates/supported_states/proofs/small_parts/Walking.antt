-- A walk from keys to what they need: it finds what is needed, and nothing else.
use Rattle.std.proofs.Common.{◌≡◌, ◌≢◌, ◌⊎◌, ⊎_elim, inl, inr, ℕ, ◌+◌, ◌<◌, ◌≤◌, List, [], ◌∷◌, ◌++◌, append_assoc, length, All, Contains, Bool, true, false, sym, ap, subst, ◌∙◌, arith}
use Rattle.std.specs.BTreeMap.{is_at}
use Rattle.std.specs.BTreeSet.{Updates}
use Rattle.std.specs.Borrow.{Bor}
use Rattle.std.specs.List.{list_any}
use Rattle.std.proofs.lemmas.Bool.{cases_lt}
use Rattle.std.proofs.lemmas.Bool.Decides.{not_from_Decides, same_from_decides}
use Rattle.std.proofs.lemmas.List.Elements.{Contains-append_cases, Contains-append_left, Contains-append_right, Contains-push, Contains-push_cases}
use Rattle.std.proofs.lemmas.List.{append-nil}
use Rattle.std.proofs.lemmas.Option.{slice_get_within}
use Rattle.emc_base.specs.Lists.{AreApart, At}
use Rattle.emc_base.proofs.FoundItems.{contains_flat_map}
use Rattle.emc_base.proofs.Joined.{apart-append, at_left, in_flat_map}
use Rattle.emc_base.proofs.Lists.{all_from_members, at_once, item_at}
use Rattle.emc_base.proofs.Mapped.{contains_at, contains_map}
use Rattle.emc_base.proofs.Members.{contains_cons_cases, contains_head, contains_nil, contains_tail, in_map}
use Rattle.round_trip.specs.Words.{EntityModel, State, IsLegal}
use Rattle.population.specs.Kept.{AreNeeded, HoldsNeeds, needed_keys, needs, needs_in}
use Rattle.population.specs.Made.{needs_of, state_of}
use Rattle.population.specs.Support.{same_placed}
use Rattle.population.specs.declared.placed.PlacedKey.{PlacedKey}
use Rattle.population.specs.declared.placed.Supporting.{Supporting}
use Rattle.population.proofs.made.Linked.{needs_made}
use Rattle.population.proofs.plain.Placed.{Decides-placed, place_of}
use Rattle.population.proofs.pruning.Needed.{needed_keys_least}
use Rattle.population.proofs.supporting.Least.{Decides-among, no_more}
use Rattle.supported_states.specs.small_parts.Small.{AreSupported, Finds, IsFound, IsWalked, all_needs, states_of}
use Rattle.supported_states.specs.Spots.{HoldsJust, holds, spot_cmp, spot_of}
use Rattle.supported_states.specs.declared.small_parts.small.Found.{Found}
use Rattle.supported_states.proofs.Gathering.{known_more}

-- lists with the same members pass the same test
pub has_alike : (xs ys : List PlacedKey) (placed : PlacedKey) → (Contains xs placed → Contains ys placed) → (Contains ys placed → Contains xs placed)
    → list_any (same_placed placed) xs ≡ list_any (same_placed placed) ys
has_alike xs ys placed over back = same_from_decides (list_any (same_placed placed) xs) (list_any (same_placed placed) ys)
    (let decided = Decides-among same_placed Decides-placed xs placed in (λ told. over (decided.0 told), λ is. decided.1 (back is)))
    (Decides-among same_placed Decides-placed ys placed)

module _ (before after : Found) (placed : PlacedKey) (found : IsFound before) (updates : Updates spot_cmp before.spots after.spots (spot_of placed) true) where
  abbrev old : List PlacedKey
  old = before.keys.items

  known : HoldsJust (placed ∷ old) after.spots
  known = known_more old before.spots after.spots placed found.known updates

  there : (told : Bool) → holds before.spots placed ≡ told → list_any (same_placed placed) old ≡ told
  there told is = sym (found.known placed) ∙ is

  -- a key that is new
  pub finds_new : holds before.spots placed ≡ false → after.keys.items ≡ old ++ placed ∷ [] → Finds (placed ∷ []) before after
  finds_new absent is =
      let none : ¬ Contains old placed = not_from_Decides (list_any (same_placed placed) old) (Decides-among same_placed Decides-placed old placed) (there false absent) in
      let known_all : HoldsJust (old ++ placed ∷ []) after.spots = λ other. known other ∙ has_alike (placed ∷ old) (old ++ placed ∷ []) other
      (λ has. ⊎_elim
      (λ (here : other ≡ placed). subst (Contains (old ++ placed ∷ [])) (sym here) (Contains-push old placed))
      (λ (later : Contains old other). Contains-append_left old (placed ∷ []) other later)
      (contains_cons_cases placed old other has))
      (λ has. ⊎_elim
      (λ (earlier : Contains old other). contains_tail placed old other earlier)
      (λ (last : placed ≡ other). subst (Contains (placed ∷ old)) last (contains_head placed old))
      (Contains-push_cases old placed other has)) in
      let apart_all : AreApart (old ++ placed ∷ []) = apart-append (λ x y. x ≢ y) old (placed ∷ []) found.once (λ i j d below within. absurd (omega (arith, below, within)))
      (all_from_members (λ x. All (λ y. x ≢ y) (placed ∷ [])) old (λ x has. all_from_members (λ y. x ≢ y) (placed ∷ []) (λ y is_last alike. none (subst (Contains old) (alike ∙ only y is_last) has)))) in
      record {
        are_found = record { known = subst (λ list. HoldsJust list after.spots) (sym is) known_all; once = subst AreApart (sym is) apart_all };
        more = placed ∷ [];
        behind = is;
        from = λ other has. has;
        all = λ other has. subst (λ list. Contains list other) (sym is) (Contains-append_right old (placed ∷ []) other has);
      }
    where
      only : (y : PlacedKey) → Contains (placed ∷ []) y → y ≡ placed
      only y has = ⊎_elim (λ (here : y ≡ placed). here) (λ (later : Contains [] y). absurd (contains_nil y later)) (contains_cons_cases placed [] y has)

  -- a key that was found
  pub finds_old : holds before.spots placed ≡ true → after.keys.items ≡ old → Finds (placed ∷ []) before after
  finds_old present is =
      let has_it : Contains old placed = (Decides-among same_placed Decides-placed old placed).0 (there true present) in
      let known_all : HoldsJust old after.spots = λ other. known other ∙ has_alike (placed ∷ old) old other
      (λ has. ⊎_elim
      (λ (here : other ≡ placed). subst (Contains old) (sym here) has_it)
      (λ (later : Contains old other). later)
      (contains_cons_cases placed old other has))
      (λ has. contains_tail placed old other has) in
      record {
        are_found = record { known = subst (λ list. HoldsJust list after.spots) (sym is) known_all; once = subst AreApart (sym is) found.once };
        more = [];
        behind = is ∙ sym (append-nil old);
        from = λ other has. absurd (contains_nil other has);
        all = λ other has. subst (λ list. Contains list other) (sym is) (⊎_elim
            (λ (here : other ≡ placed). subst (Contains old) (sym here) has_it)
            (λ (later : Contains [] other). absurd (contains_nil other later))
            (contains_cons_cases placed [] other has));
      }

-- nothing is found by no keys
pub finds_none : (found : Found) → IsFound found → Finds [] found found
finds_none found is = record { are_found = is; more = []; behind = sym (append-nil found.keys.items); from = λ other has. has; all = λ other has. absurd (contains_nil other has) }

-- a key that was found stays
pub stays_found : (keys : List PlacedKey) (before after : Found) → Finds keys before after → (placed : PlacedKey) → Contains before.keys.items placed → Contains after.keys.items placed
stays_found keys before after finds placed has = subst (λ list. Contains list placed) (sym finds.behind) (Contains-append_left before.keys.items finds.more placed has)

-- keys are found, and then one more
pub finds_next : (keys : List PlacedKey) (one : PlacedKey) (first before after : Found) → Finds keys first before → Finds (one ∷ []) before after → Finds (keys ++ one ∷ []) first after
finds_next keys one first before after so_far last = record {
  are_found = last.are_found;
  more = so_far.more ++ last.more;
  behind = last.behind ∙ ap (λ list. list ++ last.more) so_far.behind ∙ append_assoc first.keys.items so_far.more last.more;
  from = λ placed has. ⊎_elim
      (λ (old : Contains so_far.more placed). Contains-append_left keys (one ∷ []) placed (so_far.from placed old))
      (λ (new : Contains last.more placed). Contains-append_right keys (one ∷ []) placed (last.from placed new))
      (Contains-append_cases so_far.more last.more placed has);
  all = λ placed has. ⊎_elim
      (λ (old : Contains keys placed). stays_found (one ∷ []) before after last placed (so_far.all placed old))
      (λ (new : Contains (one ∷ []) placed). last.all placed new)
      (Contains-append_cases keys (one ∷ []) placed has);
}

-- nothing is known at first
pub found_none : (found : Found) → found.keys.items ≡ [] → found.spots.keys ≡ [] → IsFound found
found_none found none empty = record {
  known = λ placed. ap (list_any (is_at (spot_cmp (spot_of placed)))) empty ∙ sym (ap (list_any (same_placed placed)) none);
  once = subst AreApart (sym none) (λ i j d below within. absurd (omega (arith, within)));
}

module _ (model : EntityModel) (outer : ℕ) (ones : List (Bor Supporting)) (are : AreSupported model outer ones) (roots : List PlacedKey) where
  abbrev states : List State
  states = states_of model outer ones

  abbrev needed : List PlacedKey
  needed = needed_keys model states roots

  -- the states are legal
  legal : (state : State) → Contains states state → IsLegal model state
  legal state has =
      let one = in_map (λ (one : Bor Supporting). state_of model outer one.now) ones state has in
      subst (IsLegal model) one.2 (are.each one.0 one.1).legal

  least : AreNeeded model states roots
  least = needed_keys_least model are.numbers.sound states legal roots

  -- what is needed in the states is what is found
  found_needs : (from to : PlacedKey) → Contains (needs_in model states from) to → Contains (all_needs model outer ones from) to
  found_needs from to has =
      let by = in_flat_map (λ state. needs model state from) states to has in
      let one = in_map (λ (one : Bor Supporting). state_of model outer one.now) ones by.0 by.1 in
      let here : Contains (needs model (state_of model outer one.0.now) from) to = subst (λ state. Contains (needs model state from) to) (sym one.2) by.2 in
      contains_flat_map (λ (some : Bor Supporting). needs_of model outer some.now from) ones one.0 to one.1
      ((needs_made model outer are.numbers one.0.now (are.each one.0 one.1).whole from to).0 here)

  needs_found : (from to : PlacedKey) → Contains (all_needs model outer ones from) to → Contains (needs_in model states from) to
  needs_found from to has =
      let by = in_flat_map (λ (some : Bor Supporting). needs_of model outer some.now from) ones to has in
      let there = (needs_made model outer are.numbers by.0.now (are.each by.0 by.1).whole from to).1 by.2 in
      contains_flat_map (λ state. needs model state from) states (state_of model outer by.0.now) to (contains_map (λ (one : Bor Supporting). state_of model outer one.now) ones by.0 by.1) there

  module _ (found : Found) (place : ℕ) (walked : IsWalked model outer ones roots found place) where
    -- no more keys are found than are needed
    pub few_found : length found.keys.items ≤ length needed
    few_found = no_more same_placed Decides-placed found.keys.items needed walked.are_found.once walked.needed

    -- at the end the found keys are the needed ones
    pub walk_ends : length found.keys.items ≤ place → HoldsJust needed found.spots
    walk_ends end placed =
        walked.are_found.known placed ∙ has_alike found.keys.items needed placed (walked.needed placed) (least.least found.keys.items closed placed)
      where
        closed : HoldsNeeds model states roots found.keys.items
        closed = record {
          holds = walked.holds;
          leads = λ from to has leads. (
              let at = place_of found.keys.items from has in
              let within : at.0 < length found.keys.items = slice_get_within found.keys.items at.0 from at.1 in
              walked.leads at.0 from to (omega (arith, within, end)) at.1 (found_needs from to leads));
        }

    -- a step of the walk
    pub walk_on : (after : Found) (from : PlacedKey) → At found.keys.items place from → Finds (all_needs model outer ones from) found after
        → IsWalked model outer ones roots after (place + 1)
    walk_on after from here finds = record {
      are_found = finds.are_found;
      holds = λ root has. stays root (walked.holds root has);
      leads = λ i one to below at leads. ⊎_elim
          (λ (old : i < place). stays to (walked.leads i one to old (before i one (omega (arith, old, within)) at) leads))
          (λ (last : i ≡ place).
          let same : one ≡ from = at_once found.keys.items place one from (subst (λ n. At found.keys.items n one) last (before i one (omega (arith, last, within)) at)) here in
          finds.all to (subst (λ placed. Contains (all_needs model outer ones placed) to) same leads))
          (less_or_last i below);
      needed = λ placed has. ⊎_elim
          (λ (old : Contains found.keys.items placed). walked.needed placed old)
          (λ (new : Contains finds.more placed). least.needs.leads from placed (walked.needed from (contains_at found.keys.items place from here)) (needs_found from placed (finds.from placed new)))
          (Contains-append_cases found.keys.items finds.more placed (subst (λ list. Contains list placed) finds.behind has));
    }
      where
        within : place < length found.keys.items
        within = slice_get_within found.keys.items place from here

        stays : (placed : PlacedKey) → Contains found.keys.items placed → Contains after.keys.items placed
        stays = stays_found (all_needs model outer ones from) found after finds

        -- what stands at an early place stood there before
        before : (i : ℕ) (one : PlacedKey) → i < length found.keys.items → At after.keys.items i one → At found.keys.items i one
        before i one inside at =
            let old = item_at found.keys.items i inside in
            let moved : At after.keys.items i old.0 = subst (λ list. At list i old.0) (sym finds.behind) (at_left found.keys.items finds.more i old.0 old.1) in
            subst (At found.keys.items i) (at_once after.keys.items i old.0 one moved at) old.1

        less_or_last : (i : ℕ) → i < place + 1 → (i < place) ⊎ (i ≡ place)
        less_or_last i below = ⊎_elim
            (λ (less : i < place). inl less)
            (λ (past : place ≤ i). inr (omega (arith, below, past)))
            (cases_lt i place)

  -- the roots are found first
  pub walk_begins : (empty after : Found) → empty.keys.items ≡ [] → Finds roots empty after → IsWalked model outer ones roots after 0
  walk_begins empty after none finds = record {
    are_found = finds.are_found;
    holds = finds.all;
    leads = λ i from to below at leads. absurd (omega (arith, below));
    needed = λ placed has.
        (let more : Contains finds.more placed = subst (λ list. Contains list placed) (finds.behind ∙ ap (λ list. list ++ finds.more) none) has in
        least.needs.holds placed (finds.from placed more));
  }
