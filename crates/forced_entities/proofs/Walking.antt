-- A walk from what the focus forces by itself to what that leads to: it finds what is forced, and nothing else.
use Rattle.std.proofs.Common.{◌≡◌, ◌≢◌, ◌⊎◌, ⊎_elim, inl, inr, ◌||◌, ℕ, ◌+◌, ◌<◌, ◌≤◌, List, [], ◌∷◌, ◌++◌, append_assoc, cond, length, All, Contains, Bool, true, false, not, Decides, sym, ap, subst, refl, ◌∙◌, arith}
use Rattle.std.specs.BTreeMap.{is_at}
use Rattle.std.specs.BTreeSet.{Updates, contains}
use Rattle.std.specs.Ordering.{is_eq}
use Rattle.std.proofs.lemmas.Bool.{cases_lt}
use Rattle.std.proofs.lemmas.Bool.Decides.{Decides-or, not_from_Decides}
use Rattle.std.proofs.lemmas.List.Elements.{Contains-append_cases, Contains-append_left, Contains-append_right, Contains-push, Contains-push_cases}
use Rattle.std.proofs.lemmas.List.{append-nil}
use Rattle.std.proofs.lemmas.Option.{slice_get_within}
use Rattle.emc_base.specs.Lists.{AreApart, At}
use Rattle.emc_base.proofs.Joined.{apart-append, at_left}
use Rattle.emc_base.proofs.Lists.{all_from_members, at_once, item_at}
use Rattle.emc_base.proofs.Mapped.{contains_at}
use Rattle.emc_base.proofs.Members.{contains_cons_cases, contains_nil}
use Rattle.round_trip.specs.Words.{PropId}
use Rattle.population.specs.Given.{HasNumbers}
use Rattle.population.proofs.plain.Placed.{place_of}
use Rattle.population.proofs.supporting.Least.{no_more}
use Rattle.regions.specs.Basis.{Basis}
use Rattle.regions.specs.declared.pattern.Focus.{Focus}
use Rattle.regions.specs.region_laws.IsBasis.{IsBasis}
use Rattle.cells.specs.Parts.{AreParts}
use Rattle.cells.specs.declared.parts.Parts.{Parts}
use Rattle.region_states.specs.region_basis.BasisOf.{basis_of}
use Rattle.forced_entities.specs.Forced.{AreForced, IsForced, LeadsTo, begins, leads}
use Rattle.forced_entities.specs.Listed.{begun, forced_by, steps}
use Rattle.forced_entities.specs.Spots.{IsSpotOf, spot_cmp}
use Rattle.forced_entities.specs.Walked.{Finds, HoldsJust, IsFound, IsWalked}
use Rattle.forced_entities.specs.declared.member.Forced.{Forced}
use Rattle.forced_entities.specs.declared.spots.Spot.{Spot}
use Rattle.forced_entities.specs.declared.walk.Found.{Found}
use Rattle.forced_entities.proofs.Leading.{in_begun, in_steps}
use Rattle.forced_entities.proofs.Listed.{forced_listed}
use Rattle.forced_entities.proofs.Order.{Decides-forced, Decides-spot, forced_cmp}

either : (b c : Bool) → cond b true c ≡ (b || c)
either true c = refl
either false c = refl

like : {P Q : Type 0} (b : Bool) → (P → Q) → (Q → P) → Decides b P → Decides b Q
like b over back decided = (λ told. over (decided.0 told), λ is. decided.1 (back is))

module _ (before after : Found) (one : Forced) (spot : Spot) (is_spot : IsSpotOf one spot) (found : IsFound before) (updates : Updates spot_cmp before.spots after.spots spot true) where
  abbrev old : List Forced
  old = before.members.items

  -- a spot is known then if it is this one, or was known
  known : (other : Forced) (place : Spot) → IsSpotOf other place → Decides (contains spot_cmp after.spots place) ((one ≡ other) ⊎ Contains old other)
  known other place is_place =
      subst (λ (b : Bool). Decides b ((one ≡ other) ⊎ Contains old other)) (sym (updates.0 place ∙ either (is_at (spot_cmp spot) place) (contains spot_cmp before.spots place)))
      (Decides-or (is_at (spot_cmp spot) place) (contains spot_cmp before.spots place) (Decides-spot one other spot place is_spot is_place) (found.known other place is_place))

  -- an entity that is new
  pub finds_new : contains spot_cmp before.spots spot ≡ false → after.members.items ≡ old ++ one ∷ [] → Finds (one ∷ []) before after
  finds_new absent is =
      let none : ¬ Contains old one = not_from_Decides (contains spot_cmp before.spots spot) (found.known one spot is_spot) absent in
      let known_all : HoldsJust (old ++ one ∷ []) after.spots = λ other place is_place. like (contains spot_cmp after.spots place)
      (⊎_elim
      (λ (here : one ≡ other). subst (Contains (old ++ one ∷ [])) here (Contains-push old one))
      (λ (earlier : Contains old other). Contains-append_left old (one ∷ []) other earlier))
      (λ has. ⊎_elim
      (λ (earlier : Contains old other). inr earlier)
      (λ (last : one ≡ other). inl last)
      (Contains-push_cases old one other has))
      (known other place is_place) in
      let apart_all : AreApart (old ++ one ∷ []) = apart-append (λ x y. x ≢ y) old (one ∷ []) found.once (λ i j d below within. absurd (omega (arith, below, within)))
      (all_from_members (λ x. All (λ y. x ≢ y) (one ∷ [])) old (λ x has. all_from_members (λ y. x ≢ y) (one ∷ []) (λ y is_last alike. none (subst (Contains old) (alike ∙ only y is_last) has)))) in
      record {
        are_found = record { known = subst (λ list. HoldsJust list after.spots) (sym is) known_all; once = subst AreApart (sym is) apart_all };
        more = one ∷ [];
        behind = is;
        from = λ other has. has;
        all = λ other has. subst (λ list. Contains list other) (sym is) (Contains-append_right old (one ∷ []) other has);
      }
    where
      only : (y : Forced) → Contains (one ∷ []) y → y ≡ one
      only y has = ⊎_elim (λ (here : y ≡ one). here) (λ (later : Contains [] y). absurd (contains_nil y later)) (contains_cons_cases one [] y has)

  -- one that was found
  pub finds_old : contains spot_cmp before.spots spot ≡ true → after.members.items ≡ old → Finds (one ∷ []) before after
  finds_old present is =
      let has_it : Contains old one = (found.known one spot is_spot).0 present in
      let known_all : HoldsJust old after.spots = λ other place is_place. like (contains spot_cmp after.spots place)
      (⊎_elim (λ (here : one ≡ other). subst (Contains old) here has_it) (λ (earlier : Contains old other). earlier))
      (λ has. inr has)
      (known other place is_place) in
      record {
        are_found = record { known = subst (λ list. HoldsJust list after.spots) (sym is) known_all; once = subst AreApart (sym is) found.once };
        more = [];
        behind = is ∙ sym (append-nil old);
        from = λ other has. absurd (contains_nil other has);
        all = λ other has. subst (λ list. Contains list other) (sym is) (⊎_elim
            (λ (here : other ≡ one). subst (Contains old) (sym here) has_it)
            (λ (later : Contains [] other). absurd (contains_nil other later))
            (contains_cons_cases one [] other has));
      }

-- nothing is found by none
pub finds_none : (found : Found) → IsFound found → Finds [] found found
finds_none found is = record { are_found = is; more = []; behind = sym (append-nil found.members.items); from = λ one has. has; all = λ one has. absurd (contains_nil one has) }

-- what was found stays
pub stays_found : (list : List Forced) (before after : Found) → Finds list before after → (one : Forced) → Contains before.members.items one → Contains after.members.items one
stays_found list before after finds one has = subst (λ all. Contains all one) (sym finds.behind) (Contains-append_left before.members.items finds.more one has)

-- some are found, and then one more
pub finds_next : (list : List Forced) (last : Forced) (first before after : Found) → Finds list first before → Finds (last ∷ []) before after → Finds (list ++ last ∷ []) first after
finds_next list last first before after so_far next = record {
  are_found = next.are_found;
  more = so_far.more ++ next.more;
  behind = next.behind ∙ ap (λ all. all ++ next.more) so_far.behind ∙ append_assoc first.members.items so_far.more next.more;
  from = λ one has. ⊎_elim
      (λ (old : Contains so_far.more one). Contains-append_left list (last ∷ []) one (so_far.from one old))
      (λ (new : Contains next.more one). Contains-append_right list (last ∷ []) one (next.from one new))
      (Contains-append_cases so_far.more next.more one has);
  all = λ one has. ⊎_elim
      (λ (old : Contains list one). stays_found (last ∷ []) before after next one (so_far.all one old))
      (λ (new : Contains (last ∷ []) one). next.all one new)
      (Contains-append_cases list (last ∷ []) one has);
}

-- nothing is known at first
pub found_none : (found : Found) → found.members.items ≡ [] → found.spots.keys ≡ [] → IsFound found
found_none found none empty = record {
  known = λ one spot is. subst (λ (list : List Forced). Decides (contains spot_cmp found.spots spot) (Contains list one)) (sym none) (
    (λ told. absurd (let never : false ≡ true = sym (nothing spot) ∙ told in cc)),
    (λ has. absurd (contains_nil one has)),
  );
  once = subst AreApart (sym none) (λ i j d below within. absurd (omega (arith, within)));
}
  where
    nothing : (spot : Spot) → contains spot_cmp found.spots spot ≡ false
    nothing spot = ap (λ keys. contains spot_cmp (record { keys = keys }) spot) empty

module _ (basis : Basis) (is_basis : IsBasis basis) (has : HasNumbers basis.schema.model 0) (of : Focus) (not_null : List PropId) where
  abbrev all : List Forced
  all = forced_by basis of not_null

  module _ (found : Found) (place : ℕ) (walked : IsWalked basis of not_null found place) where
    -- no more are found than are forced
    pub few_found : length found.members.items ≤ length all
    few_found = no_more (λ x y. is_eq (forced_cmp x y)) Decides-forced found.members.items all walked.are_found.once
        (λ one is. (forced_listed basis is_basis has of not_null one).1 (walked.forced one is))

    -- at the end all that is forced is found
    is_found : length found.members.items ≤ place → (one : Forced) → IsForced basis of not_null one → Contains found.members.items one
    is_found end one (begins _ is) = walked.holds one ((in_begun basis is_basis of not_null one).1 is)
    is_found end one (leads from _ forced asked) =
        let at = place_of found.members.items from (is_found end from forced) in
        let within : at.0 < length found.members.items = slice_get_within found.members.items at.0 from at.1 in
        walked.leads at.0 from one (omega (arith, within, end)) at.1 asked

    pub walk_ends : length found.members.items ≤ place → AreForced basis of not_null found.members.items
    walk_ends end = record {
      listed = λ one. (walked.forced one, is_found end one);
      once = walked.are_found.once;
    }

    -- a step of the walk
    pub walk_on : (after : Found) (from : Forced) → At found.members.items place from → Finds (steps basis from) found after → IsWalked basis of not_null after (place + 1)
    walk_on after from here finds = record {
      are_found = finds.are_found;
      holds = λ one is. stays one (walked.holds one is);
      leads = λ i one to below at asked. ⊎_elim
          (λ (old : i < place). stays to (walked.leads i one to old (earlier i one (omega (arith, old, within)) at) asked))
          (λ (last : i ≡ place).
          let same : one ≡ from = at_once found.members.items place one from (subst (λ n. At found.members.items n one) last (earlier i one (omega (arith, last, within)) at)) here in
          finds.all to ((in_steps basis is_basis from to).1 (subst (λ (x : Forced). LeadsTo basis x to) same asked)))
          (less_or_last i below);
      forced = λ one is. ⊎_elim
          (λ (old : Contains found.members.items one). walked.forced one old)
          (λ (new : Contains finds.more one). leads from one (walked.forced from (contains_at found.members.items place from here)) ((in_steps basis is_basis from one).0 (finds.from one new)))
          (Contains-append_cases found.members.items finds.more one (subst (λ list. Contains list one) finds.behind is));
    }
      where
        within : place < length found.members.items
        within = slice_get_within found.members.items place from here

        stays : (one : Forced) → Contains found.members.items one → Contains after.members.items one
        stays = stays_found (steps basis from) found after finds

        -- what stands at an early place stood there before
        earlier : (i : ℕ) (one : Forced) → i < length found.members.items → At after.members.items i one → At found.members.items i one
        earlier i one inside at =
            let old = item_at found.members.items i inside in
            let moved : At after.members.items i old.0 = subst (λ list. At list i old.0) (sym finds.behind) (at_left found.members.items finds.more i old.0 old.1) in
            subst (At found.members.items i) (at_once after.members.items i old.0 one moved at) old.1

        less_or_last : (i : ℕ) → i < place + 1 → (i < place) ⊎ (i ≡ place)
        less_or_last i below = ⊎_elim
            (λ (less : i < place). inl less)
            (λ (past : place ≤ i). inr (omega (arith, below, past)))
            (cases_lt i place)

  -- what the focus forces by itself is found first
  pub walk_begins : (empty after : Found) → empty.members.items ≡ [] → Finds (begun basis of not_null) empty after → IsWalked basis of not_null after 0
  walk_begins empty after none finds = record {
    are_found = finds.are_found;
    holds = finds.all;
    leads = λ i from to below at asked. absurd (omega (arith, below));
    forced = λ one is.
        (let more : Contains finds.more one = subst (λ list. Contains list one) (finds.behind ∙ ap (λ list. list ++ finds.more) none) is in
        begins one ((in_begun basis is_basis of not_null one).0 (finds.from one more)));
  }

pub not-no : (b : Bool) → not b ≡ false → b ≡ true
not-no true told = refl
not-no false told = cc

-- the rows of numbers of a mapping's model
pub numbers_of : (parts : Parts) → AreParts parts → HasNumbers (basis_of parts).schema.model 0
numbers_of parts are = record { sound = are.sound.model; few = are.limits.model.0; row = omega arith }
